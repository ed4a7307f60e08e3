use Rattle.std.proofs.Common.{List, sym, subst}
use Rattle.cable_definitions.specs.declared.cable.Cable.{Cable}
use Rattle.cable_definitions.specs.Part.{AreCheapTyped}
use Rattle.cable_definitions.specs.Tree.{used_cables, IsFull}
use Rattle.layout_meaning.specs.Typed.{JoinPoints}
use Rattle.node_reasons.specs.Node.{NodeParts}
use Rattle.node_reasons.proofs.FullLayouts.{gathered_are, used_join, no_same_start}
use Rattle.node_reasons.proofs.node.NodeBox.cheapest_cables.Goals as goal

pub returns-in-Some-clause-none : goal.returns-in-Some-clause-none
returns-in-Some-clause-none c =
    let x = c.self.inside in
    let pair = c.in-Some.pair in
    subst (λ (n : NodeParts). (cables : List Cable) → ¬ (IsFull n.site n.arcs n.marks cables)) c.self.view_is
    (no_same_start x.site.now x.arcs.now x.decisions.now pair.0 pair.1 c.self.invariant.are_arcs (c.self.invariant.gathered.same_start pair.0 pair.1 (sym c.in-Some.ensures)))

pub with_cheapest_types-requires-clause-points : goal.with_cheapest_types-requires-clause-points
with_cheapest_types-requires-clause-points c =
    let x = c.self.inside in
    let i = c.self.invariant in
    subst (JoinPoints x.site.now) (sym (gathered_are x.arcs.now x.decisions.now x.used c.cables.result.now i.gathered i.count (sym c.in-None.ensures) c.cables.ensures.value))
    (used_join x.site.now x.arcs.now x.decisions.now i.valid i.are_arcs)

pub returns-in-None-clause-typed : goal.returns-in-None-clause-typed
returns-in-None-clause-typed c =
    let x = c.self.inside in
    let i = c.self.invariant in
    subst (λ (n : NodeParts). AreCheapTyped n.site (used_cables n.arcs n.marks) c.with_cheapest_types.result) c.self.view_is
    (subst (λ (cables : List Cable). AreCheapTyped x.site.now cables c.with_cheapest_types.result)
    (gathered_are x.arcs.now x.decisions.now x.used c.cables.result.now i.gathered i.count (sym c.in-None.ensures) c.cables.ensures.value) c.with_cheapest_types.ensures)
