use Rattle.std.proofs.Common.{ap, sym, subst, ◌∙◌, ◌↔◌, IsTrue}
use Rattle.cable_definitions.specs.declared.place.Place.{Place}
use Rattle.cable_definitions.specs.Plane.{edges_from}
use Rattle.site_model.specs.Passing.{IsClear}
use Rattle.site_model.proofs.Passed.{edges_are}
use Rattle.site_model.proofs.arcs.is_clear_of.Goals as goal

pub returns-in-Some : goal.returns-in-Some
returns-in-Some c =
    let corners = c.args.corners.now in
    let e = edges_are corners c.in-Some.first.now c.in-Some.ensures.value in
    let f = ap (λ (x : Place). edges_from x corners) c.last_of.ensures in
    subst (λ es. IsTrue c.is_clear_from.result ↔ IsClear c.args.a c.args.b es) (f ∙ sym e) c.is_clear_from.ensures
