use Rattle.std.proofs.Common.{◌≡◌, ◌<ℤ◌, ◌≤ℤ◌, FitsSigned, false, true, arith, refl, sym, ◌∙◌}
use Rattle.std.specs.Int.{w64}
use Rattle.std.proofs.lemmas.Int.{ints, to_z-of_z}
use Rattle.node_reasons.proofs.RowExtents.{back, cannot_above, cannot_below, can_meet}
use Rattle.node_reasons.proofs.boxed_row.BoxedRow.cannot_be_met.Goals as goal

pub returns-then-left-right : goal.returns-then-left-right
returns-then-left-right c = λ r e.
    let fits : FitsSigned w64 c.right-right.result = omega (arith, ints) in
    let right_is = to_z-of_z w64 c.right-right.result fits in
    let left_is = back c.extent-left.result.greatest c.extent-left.ensures.greatest_small in
    let less : c.extent-left.result.greatest <ℤ c.right-right.result = omega (arith, ints, right_is, left_is) in (
      λ t. cannot_above c.args.self.now.site.now c.args.self.now.arcs.now c.args.self.now.decisions.now r c.extent-left.result.greatest c.right-right.result (c.extent-left.ensures.greatest r e) (c.right-right.ensures.value r e) less,
      λ k. refl,
    )

pub returns-then-not-is_equation : goal.returns-then-not-is_equation
returns-then-not-is_equation c = λ r e.
    let fits : FitsSigned w64 c.right-right.result = omega (arith, ints) in
    let right_is = to_z-of_z w64 c.right-right.result fits in
    let left_is = back c.extent-left.result.greatest c.extent-left.ensures.greatest_small in
    let enough : c.right-right.result ≤ℤ c.extent-left.result.greatest = omega (arith, ints, right_is, left_is) in (
      λ t. absurd (cc),
      λ k.
          absurd (can_meet c.args.self.now.site.now c.args.self.now.arcs.now c.args.self.now.decisions.now r c.extent-left.result.least c.extent-left.result.greatest c.right-right.result (c.extent-left.ensures.least r e)
          (c.extent-left.ensures.greatest r e) (c.right-right.ensures.value r e) enough (λ q. let g : false ≡ true = sym c.if-not-is_equation.true ∙ c.is_equation.ensures r e ∙ q in absurd (cc)) k),
    )

pub returns-then-right-left : goal.returns-then-right-left
returns-then-right-left c = λ r e.
    let fits : FitsSigned w64 c.right-right.result = omega (arith, ints) in
    let right_is = to_z-of_z w64 c.right-right.result fits in
    let least_is = back c.extent-left.result.least c.extent-left.ensures.least_small in
    let less : c.right-right.result <ℤ c.extent-left.result.least = omega (arith, ints, right_is, least_is) in (
      λ t. cannot_below c.args.self.now.site.now c.args.self.now.arcs.now c.args.self.now.decisions.now r c.extent-left.result.least c.right-right.result (c.extent-left.ensures.least r e) (c.right-right.ensures.value r e) (sym (c.is_equation.ensures r e) ∙ c.if-not-is_equation.false) less,
      λ k. refl,
    )

pub returns : goal.returns
returns c = λ r e.
    let fits : FitsSigned w64 c.right-right.result = omega (arith, ints) in
    let right_is = to_z-of_z w64 c.right-right.result fits in
    let left_is = back c.extent-left.result.greatest c.extent-left.ensures.greatest_small in
    let least_is = back c.extent-left.result.least c.extent-left.ensures.least_small in
    let enough : c.right-right.result ≤ℤ c.extent-left.result.greatest = omega (arith, ints, right_is, left_is) in
    let at_most : c.extent-left.result.least ≤ℤ c.right-right.result = omega (arith, ints, right_is, least_is) in (
      λ t. absurd (cc),
      λ k.
          absurd (can_meet c.args.self.now.site.now c.args.self.now.arcs.now c.args.self.now.decisions.now r c.extent-left.result.least c.extent-left.result.greatest c.right-right.result (c.extent-left.ensures.least r e)
          (c.extent-left.ensures.greatest r e) (c.right-right.ensures.value r e) enough (λ q. at_most) k),
    )
