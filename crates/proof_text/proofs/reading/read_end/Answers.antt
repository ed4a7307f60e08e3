use Rattle.std.proofs.Common.{ap, ◌∙◌, Ok, Err}
use Rattle.proof_text.proofs.Streams.{none_kept, refused_text, refused_long, refused_cut}
use Rattle.proof_text.proofs.reading.read_end.Goals as goal

pub returns-in-Ok-Text-clause-refused : goal.returns-in-Ok-Text-clause-refused
returns-in-Ok-Text-clause-refused g c = rw c.refused.ensures (λ s r m. refused_text (none_kept c.args.lines.now.fault c.requires c.next.ensures.reads) (c.in-Ok-Text.is ∙ ap Ok c.in-Ok-Text.field-0-is) s r m)

pub returns-in-Err-TooLong-clause-refused : goal.returns-in-Err-TooLong-clause-refused
returns-in-Err-TooLong-clause-refused g c = rw c.refused-in-Err-TooLong.ensures (λ s r m. refused_long (none_kept c.args.lines.now.fault c.requires c.next.ensures.reads) (c.in-Err-TooLong.is ∙ ap Err c.in-Err-TooLong.field-0-is) s r)

pub returns-in-Err-NoNewline-clause-refused : goal.returns-in-Err-NoNewline-clause-refused
returns-in-Err-NoNewline-clause-refused g c = rw c.refused-in-Err-NoNewline.ensures (λ s r m. refused_cut (none_kept c.args.lines.now.fault c.requires c.next.ensures.reads) (c.in-Err-NoNewline.is ∙ ap Err c.in-Err-NoNewline.field-0-is) s r)
