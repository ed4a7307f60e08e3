use Rattle.std.proofs.Common.{ap, inl, ◌∙◌}
use Rattle.site_input.proofs.Forms.{fresh_ahead}
use Rattle.site_input.proofs.whole.read_whole.Goals as goal

pub returns-in-Ok-true-clause-refused : goal.returns-in-Ok-true-clause-refused
returns-in-Ok-true-clause-refused g c = λ code place broken bytes e a.
    let told = fresh_ahead _ _ bytes (ap (λ l. l.pending) c.in-Ok.ensures) a in
    inl ((c.in-Ok-true.ensures.form bytes told).0 c.in-Ok-true.field-0-test, c.read_whole_lines.ensures.refused code place broken bytes e (c.in-Ok-true.ensures.same ∙ told))
