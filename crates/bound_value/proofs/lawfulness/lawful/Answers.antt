use Rattle.std.proofs.Common.{ℕ, ℤ, pos, ap, length, arith, get_or, ◌<◌, FitsSigned, subst, refl, rules}
use Rattle.std.specs.Int.{w128}
use Rattle.std.proofs.lemmas.Int.{to_z-of_z}
use Rattle.bound_value.specs.Lawful.{IsLawfulWeight}
use Rattle.cable_rows.proofs.Listing.{weight_read}
use Rattle.bound_value.proofs.LawfulWeights.{lawful_more, not_ascending}
use Rattle.bound_value.proofs.lawfulness.lawful.Goals as goal

pub returns-then-row-next : goal.returns-then-row-next
returns-then-row-next c =
    let weights = c.args.weights.now in
    let items = c.as_slice-row-items.result.now in
    let i = c.loop-row.row-index in
    let none : ℕ × ℤ = (0, pos 0) in
    let within : i < length weights = omega (arith, ap (length {A = ℕ × ℤ}) c.as_slice-row-items.ensures.value, c.loop-row-test.true) in
    let at = weight_read items weights i none c.as_slice-row-items.ensures.value within in
    (λ f. cc, λ all. absurd (not_ascending c.args.pool.now weights i c.loop-row.next (get_or items i none) within at c.if-row-next.true c.loop-row.invariant all))

pub loop-row-preserved : goal.loop-row-preserved
loop-row-preserved c =
    let weights = c.args.weights.now in
    let items = c.as_slice-row-items.result.now in
    let i = c.loop-row.row-index in
    let none : ℕ × ℤ = (0, pos 0) in
    let w = get_or items i none in
    let within : i < length weights = omega (arith, ap (length {A = ℕ × ℤ}) c.as_slice-row-items.ensures.value, c.loop-row-test.true) in
    let at = weight_read items weights i none c.as_slice-row-items.ensures.value within in
    let fits : FitsSigned w128 w.1 = search rules in
    let lawful = subst (IsLawfulWeight c.args.pool.now w.0) (to_z-of_z w128 w.1 fits) (c.if-not-is_lawful_weight.ensures.lawful.0 refl) in
    lawful_more c.args.pool.now weights i c.loop-row.next w within at c.if-row-next.false lawful c.loop-row.invariant
