use Rattle.std.proofs.Common.{◌≡◌, ℕ, ℤ, pos, get_or, slice_get, refl, ap, sym, ◌∙◌}
use Rattle.cable_definitions.specs.Row.{Row}
use Rattle.cable_rows.specs.Sums.{is_set_kind, row_is}
use Rattle.cable_rows.proofs.Weighing.{next_weight}
use Rattle.cable_rows.proofs.Listing.{room_left, passing_kept, failing_left_out}
use Rattle.cable_rows.proofs.sets.find_sets.Goals.{then-is_set, else-is_set}
use Rattle.cable_rows.proofs.sets.find_sets.Goals as goal

pub push-requires : goal.push-requires
push-requires c =
    room_left (λ (v : ℕ × ℤ). row_is (λ (row : Row). is_set_kind row.kind) (slice_get c.args.pool.now v.0)) c.args.weights.now c.as_slice-own-items.result.now c.loop-own.sets c.loop-own.own-index c.as_slice-own-items.ensures.value c.loop-own-test.true c.as_slice-own-items.ensures.at_most c.loop-own.invariant

pub loop-own-preserved : goal.loop-own-preserved
loop-own-preserved c =
    let rows = c.args.pool.now in
    let ws = c.args.weights.now in
    let i = c.loop-own.own-index in
    let items = c.as_slice-own-items.result.now in
    let same = c.as_slice-own-items.ensures.value in
    let w = get_or items i (0, pos 0) in
    let keep = λ (row : Row). is_set_kind row.kind in
    let test = λ (v : ℕ × ℤ). row_is keep (slice_get rows v.0) in
    let n = next_weight rows ws items i c.requires same c.loop-own-test.true c.as_slice-own-items.ensures.at_most in
    let told : row_is keep (slice_get rows w.0) ≡ c.is_set.result = ap (row_is keep) n.listed ∙ sym (c.is_set.ensures n.row n.listed) in
    elim c.if-is_set.branch [
      | then-is_set x ↦ x.sets-is ∙ passing_kept test ws items c.loop-own.sets x.push.new.self i same c.loop-own-test.true c.loop-own.invariant (told ∙ x.if-is_set.true) x.push.ensures
      | else-is_set x ↦ x.sets-is ∙ failing_left_out test ws items c.loop-own.sets c.loop-own.sets i same c.loop-own-test.true c.loop-own.invariant (told ∙ x.if-is_set.false) refl
    ]
