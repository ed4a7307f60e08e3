use Rattle.std.proofs.Common.{Err, Ok, ap, ◌∙◌}
use Rattle.proof_text.proofs.Streams.{none_kept, refused_end, refused_long, refused_cut, refused_line}
use Rattle.proof_text.proofs.reading.next_line.Goals as goal

pub returns-in-Ok-End-clause-line : goal.returns-in-Ok-End-clause-line
returns-in-Ok-End-clause-line g c = rw c.refused.ensures (refused_line c.next.ensures.count (λ s r m. refused_end (none_kept c.args.lines.now.fault c.requires c.next.ensures.reads) (c.in-Ok-End.is ∙ ap Ok c.in-Ok-End.field-0-is) s r m))

pub returns-in-Err-TooLong-clause-line : goal.returns-in-Err-TooLong-clause-line
returns-in-Err-TooLong-clause-line g c = rw c.refused-in-Err-TooLong.ensures (refused_line c.next.ensures.count (λ s r m. refused_long (none_kept c.args.lines.now.fault c.requires c.next.ensures.reads) (c.in-Err-TooLong.is ∙ ap Err c.in-Err-TooLong.field-0-is) s r))

pub returns-in-Err-NoNewline-clause-line : goal.returns-in-Err-NoNewline-clause-line
returns-in-Err-NoNewline-clause-line g c = rw c.refused-in-Err-NoNewline.ensures (refused_line c.next.ensures.count (λ s r m. refused_cut (none_kept c.args.lines.now.fault c.requires c.next.ensures.reads) (c.in-Err-NoNewline.is ∙ ap Err c.in-Err-NoNewline.field-0-is) s r))
