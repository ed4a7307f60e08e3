use Rattle.std.proofs.Common.{ℕ, Bool, true, Ok, Err, ap, ◌∙◌}
use Rattle.cable_definitions.specs.declared.site.SiteCode.{SiteCode}
use Rattle.cable_definitions.specs.declared.site.SiteCode.TheVariants.{TooLong, Form}
use Rattle.cable_text.specs.Lines.{ahead}
use Rattle.site_text.specs.Reading.{Faults}
use Rattle.site_text.proofs.NextLine.{none_kept, fault_parts, missing_line, cut_line, long_line}
use Rattle.site_text.proofs.read.next_text.Goals as goal

pub returns-in-Ok-End-clause-refused : goal.returns-in-Ok-End-clause-refused
returns-in-Ok-End-clause-refused g c = λ code place broken is d.
    let before = ahead c.args.lines.now (g.S.Source.state c.args.src.now) in
    let P : SiteCode → ℕ → Bool → Type 0 = λ x y z. Faults d before c.args.lines.now.lines x y z in
    fault_parts P c.broken.result Form code c.number.result place true broken c.broken.ensures is
    (missing_line d c.args.lines.now c.next.new.self (g.S.Source.state c.args.src.now) (g.S.Source.state c.next.new.src) c.number.result c.number.ensures c.next.result (c.in-Ok-End.is ∙ ap Ok c.in-Ok-End.field-0-is)
    (none_kept c.args.lines.now.fault c.requires c.next.ensures.reads))

pub returns-in-Err-TooLong-clause-refused : goal.returns-in-Err-TooLong-clause-refused
returns-in-Err-TooLong-clause-refused g c = λ code place broken is d.
    let before = ahead c.args.lines.now (g.S.Source.state c.args.src.now) in
    let P : SiteCode → ℕ → Bool → Type 0 = λ x y z. Faults d before c.args.lines.now.lines x y z in
    fault_parts P c.broken-in-Err-TooLong.result TooLong code c.number-in-Err-TooLong.result place true broken c.broken-in-Err-TooLong.ensures is
    (long_line d c.args.lines.now c.next.new.self (g.S.Source.state c.args.src.now) (g.S.Source.state c.next.new.src) c.number-in-Err-TooLong.result c.number-in-Err-TooLong.ensures c.next.result (c.in-Err-TooLong.is ∙ ap Err c.in-Err-TooLong.field-0-is)
    (none_kept c.args.lines.now.fault c.requires c.next.ensures.reads))

pub returns-in-Err-NoNewline-clause-refused : goal.returns-in-Err-NoNewline-clause-refused
returns-in-Err-NoNewline-clause-refused g c = λ code place broken is d.
    let before = ahead c.args.lines.now (g.S.Source.state c.args.src.now) in
    let P : SiteCode → ℕ → Bool → Type 0 = λ x y z. Faults d before c.args.lines.now.lines x y z in
    fault_parts P c.broken-in-Err-NoNewline.result Form code c.number-in-Err-NoNewline.result place true broken c.broken-in-Err-NoNewline.ensures is
    (cut_line d c.args.lines.now c.next.new.self (g.S.Source.state c.args.src.now) (g.S.Source.state c.next.new.src) c.number-in-Err-NoNewline.result c.number-in-Err-NoNewline.ensures c.next.result (c.in-Err-NoNewline.is ∙ ap Err c.in-Err-NoNewline.field-0-is)
    (none_kept c.args.lines.now.fault c.requires c.next.ensures.reads))
