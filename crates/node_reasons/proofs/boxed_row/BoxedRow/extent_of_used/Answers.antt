use Rattle.std.proofs.Common.{◌≡◌, ℕ, ℤ, Some, arith, ap, ◌∙◌, sym, subst}
use Rattle.cable_definitions.specs.Site.{Site, IsValid}
use Rattle.cable_definitions.specs.Arcs.{IsCandidate, kind_of, largest_capacity}
use Rattle.cable_definitions.specs.declared.row.Mark.TheVariants.{Used}
use Rattle.cable_definitions.specs.Row.{Row, on_use, on_load}
use Rattle.cable_definitions.specs.Choice.{AtMost, AtLeast, IsExtreme, least_load}
use Rattle.cable_definitions.specs.Tree.{counted}
use Rattle.cable_definitions.specs.declared.cable.Arc.{Arc}
use Rattle.layout_laws.proofs.Typing.{all-at}
use Rattle.node_reasons.specs.Extents.{IsExtremeUse, IsUpTo}
use Rattle.node_reasons.specs.RowBox.{IsArcEnd}
use Rattle.node_reasons.proofs.RowExtents.{least_load-borne, extreme_of_used}
use Rattle.node_reasons.proofs.boxed_row.BoxedRow.extent_of_used.Goals as goal

pub extent_of_use-requires-clause-order : goal.extent_of_use-requires-clause-order
extent_of_use-requires-clause-order c =
    let a = c.get.result in
    let k = all-at (λ b. IsCandidate c.args.self.now.site.now b.from b.to) c.args.self.now.arcs.now c.args.arc a c.requires.facts.are_arcs.candidates c.get.ensures in
    let b = least_load-borne c.args.self.now.site.now c.requires.facts.valid a.from a.to k in
    omega (arith, b, c.least_load-low.ensures.least ∙ ap least_load c.kind.ensures.kind, c.requires.facts.largest_is)

-- the extreme at the loads that the program finds is that of the arc
arc_extreme : (R : ℤ → ℤ → Type 0) (s : Site) (pool : Row) (n low high : ℕ) (a b : Arc) (u v z : ℤ) → IsValid s → a ≡ b → low ≡ least_load (kind_of s a.from) → high ≡ largest_capacity s
    → u ≡ on_use pool.kind pool.members n b.from b.to → v ≡ on_load pool.kind pool.members b.from b.to → IsExtremeUse R u v low high z → IsExtreme R s b Used (counted pool n b) z
arc_extreme R s row n low high a b u v z valid same l h e f x =
    extreme_of_used R s valid row n b u v z e f
    (subst (λ (k : ℕ). IsExtremeUse R u v k (largest_capacity s) z) (l ∙ ap (λ (y : Arc). least_load (kind_of s y.from)) same) (subst (λ (k : ℕ). IsExtremeUse R u v low k z) h x))

-- and so what the row counts it as
arc_end : (R : ℤ → ℤ → Type 0) (c : goal.After-extent_of_use) (z : ℤ) → IsExtremeUse R c.coefficients-counts.result.0 c.coefficients-counts.result.1 c.least_load-low.result c.args.self.now.largest z → IsUpTo 2000000 z
    → IsArcEnd R c.args.self.now c.args.arc Used z
arc_end R c z x small = record {
  extreme = λ r a e f.
      let same : c.get.result ≡ a = (let g : Some c.get.result ≡ Some a = sym c.get.ensures ∙ f in cc) in
      arc_extreme R c.args.self.now.site.now r c.args.arc c.least_load-low.result c.args.self.now.largest c.get.result a c.coefficients-counts.result.0 c.coefficients-counts.result.1 z c.requires.facts.valid same
      (c.least_load-low.ensures.least ∙ ap least_load c.kind.ensures.kind) c.requires.facts.largest_is (c.coefficients-counts.ensures.on_use r a e f) (c.coefficients-counts.ensures.on_load r a e f) x;
  small = small;
}

pub returns : goal.returns
returns c = record {
  least = arc_end AtMost c c.extent_of_use.result.least c.extent_of_use.ensures.least c.extent_of_use.ensures.least_small;
  greatest = arc_end AtLeast c c.extent_of_use.result.greatest c.extent_of_use.ensures.greatest c.extent_of_use.ensures.greatest_small;
}
