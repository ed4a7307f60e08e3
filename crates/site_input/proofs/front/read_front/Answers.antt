use Rattle.std.proofs.Common.{ap, inl, ◌∙◌}
use Rattle.site_input.proofs.Forms.{first_fault, fresh_ahead}
use Rattle.site_input.proofs.front.read_front.Goals as goal

pub returns-in-Ok-true-clause-refused : goal.returns-in-Ok-true-clause-refused
returns-in-Ok-true-clause-refused g c = λ code place broken bytes e a.
    let told = fresh_ahead _ _ bytes (ap (λ l. l.pending) c.in-Ok.ensures) a in
    inl ((c.in-Ok-true.ensures.form bytes told).0 c.in-Ok-true.field-0-test, (broken, first_fault _ bytes code place broken (c.in-Ok-true.ensures.lines ∙ ap (λ l. l.lines) c.in-Ok.ensures) (λ h. c.read_site.ensures.refused bytes code place broken (c.in-Ok-true.ensures.same ∙ told) h e)))
