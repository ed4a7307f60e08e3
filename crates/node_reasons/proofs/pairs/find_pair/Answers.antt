use Rattle.std.proofs.Common.{◌≡◌, ◌≢◌, ℕ, Some, slice_get, arith, ap, sym, ◌∙◌, subst, inl, inr}
use Rattle.std.proofs.lemmas.Bool.{cases_lt}
use Rattle.cable_definitions.specs.Tree.{IsUsedPair}
use Rattle.node_reasons.specs.Node.{NodeParts}
use Rattle.node_reasons.specs.Reasons.{AreIncompatibleAt}
use Rattle.node_reasons.proofs.UsedPairs.{same_start_pair, no_pair, number_within}
use Rattle.node_reasons.proofs.pairs.find_pair.Goals as goal

pub returns-in-Some-clause-pair : goal.returns-in-Some-clause-pair
returns-in-Some-clause-pair c =
    let x = c.node.inside in
    let pair = c.in-Some.pair in
    subst (λ (n : NodeParts). (pair.0 ≢ pair.1) × IsUsedPair n.site n.arcs n.marks pair.0 pair.1) c.node.view_is
    (same_start_pair x.site.now x.arcs.now x.decisions.now pair.0 pair.1 c.node.invariant.are_arcs (c.node.invariant.gathered.same_start pair.0 pair.1 (sym c.in-Some.ensures)))

pub incompatible_with-requires-clause-within : goal.incompatible_with-requires-clause-within
incompatible_with-requires-clause-within c =
    let x = c.node.inside in
    number_within x.arcs.now x.decisions.now x.used c.numbers-numbers.result.now c.node.invariant.gathered c.numbers-numbers.ensures

pub incompatible_with-requires-clause-arc : goal.incompatible_with-requires-clause-arc
incompatible_with-requires-clause-arc c =
    let x = c.node.inside in
    number_within x.arcs.now x.decisions.now x.used c.numbers-numbers.result.now c.node.invariant.gathered c.numbers-numbers.ensures c.loop-place.place c.number_at-arc.result c.number_at-arc.ensures

pub loop-place-preserved : goal.loop-place-preserved
loop-place-preserved c = λ i a j b l e k f. elim (cases_lt i c.loop-place.place) [
  | inl less ↦ c.loop-place.invariant i a j b less e k f
  | inr more ↦ (
      let here : i ≡ c.loop-place.place = omega arith in
      let g : Some c.number_at-arc.result ≡ Some a = sym c.number_at-arc.ensures ∙ ap (slice_get c.numbers-numbers.result.now) (sym here) ∙ e in
      let same : c.number_at-arc.result ≡ a = cc in
      subst (λ (n : ℕ). ¬ (AreIncompatibleAt c.node.inside.site.now c.node.inside.arcs.now b n)) same (c.in-None-incompatible_with.ensures.none j b (omega arith) f)
      )
]

pub returns-clause-none : goal.returns-clause-none
returns-clause-none c =
    let x = c.node.inside in
    subst (λ (n : NodeParts). (a b : ℕ) → a ≢ b → ¬ (IsUsedPair n.site n.arcs n.marks a b)) c.node.view_is
    (no_pair x.site.now x.arcs.now x.decisions.now x.used c.numbers-numbers.result.now c.loop-place.place c.node.invariant.gathered (sym c.in-None.ensures) c.numbers-numbers.ensures c.loop-place-test.false c.loop-place.invariant)
