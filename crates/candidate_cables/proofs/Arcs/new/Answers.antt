use Rattle.std.proofs.Common.{◌∙◌, ap, sym, subst, length, List, AllPairs}
use Rattle.cable_definitions.specs.declared.cable.Arc.{Arc}
use Rattle.cable_definitions.specs.declared.site.Point.{Point}
use Rattle.cable_definitions.specs.Arcs.{ArcBefore}
use Rattle.candidate_cables.specs.Tables.{AreFirst, AreAllInto}
use Rattle.candidate_cables.proofs.Numbering.{tables_of}
use Rattle.candidate_cables.proofs.Arcs.new.Goals as goal

pub first_numbers-requires-clause-in_order : goal.first_numbers-requires-clause-in_order
first_numbers-requires-clause-in_order c = subst (λ (arcs : List Arc). AllPairs ArcBefore arcs) (sym {A = List Arc} c.as_slice.ensures.value) c.in_ok-arcs.ensures.arcs.in_order

pub invariant_of-result : goal.invariant_of-result
invariant_of-result c =
    let count = ap (length {A = Point}) c.points.ensures.value in
    tables_of c.args.site.now c.in_ok-arcs.arcs.items c.in_ok-first.first.items c.in_ok-into.into.items c.in_ok-arcs.ensures.arcs c.in_ok-arcs.ensures.count
    (subst (λ (arcs : List Arc). AreFirst arcs c.in_ok-first.first.items) c.as_slice.ensures.value c.in_ok-first.ensures.first)
    (c.in_ok-first.ensures.count ∙ count)
    (subst (λ (arcs : List Arc). AreAllInto arcs c.in_ok-into.into.items) c.as_slice-2.ensures.value c.in_ok-into.ensures.into)
    (c.in_ok-into.ensures.count ∙ count)
