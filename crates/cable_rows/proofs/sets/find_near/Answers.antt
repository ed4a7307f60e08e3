use Rattle.std.proofs.Common.{◌≡◌, ℕ, ◌<◌, ℤ, pos, length, get_or, slice_get, refl, ap, sym, ◌∙◌, arith}
use Rattle.cable_definitions.specs.Row.{Row}
use Rattle.proof_laws.proofs.Lists.{some_at}
use Rattle.cable_rows.specs.Sums.{may_count, row_is}
use Rattle.cable_rows.proofs.Listing.{weight_read}
use Rattle.cable_rows.proofs.Listing.{room_left, passing_kept, failing_left_out}
use Rattle.cable_rows.proofs.sets.find_near.Goals.{then-may_count, else-may_count}
use Rattle.cable_rows.proofs.sets.find_near.Goals as goal

pub push-requires : goal.push-requires
push-requires c =
    let keep = λ (row : Row). may_count c.args.p c.out_of-first.result.0 c.out_of-first.result.1 row.kind row.members in
    room_left (λ (v : ℕ × ℤ). row_is keep (slice_get c.args.pool.now v.0)) c.args.sets.now c.as_slice-own-items.result.now c.loop-own.near c.loop-own.own-index c.as_slice-own-items.ensures.value c.loop-own-test.true c.as_slice-own-items.ensures.few c.loop-own.invariant

pub loop-own-preserved : goal.loop-own-preserved
loop-own-preserved c =
    let rows = c.args.pool.now in
    let ws = c.args.sets.now in
    let i = c.loop-own.own-index in
    let items = c.as_slice-own-items.result.now in
    let same = c.as_slice-own-items.ensures.value in
    let w = get_or items i (0, pos 0) in
    let keep = λ (row : Row). may_count c.args.p c.out_of-first.result.0 c.out_of-first.result.1 row.kind row.members in
    let test = λ (v : ℕ × ℤ). row_is keep (slice_get rows v.0) in
    let within : i < length ws = omega (arith, ap (length {A = ℕ × ℤ}) same, c.loop-own-test.true) in
    let listed : w.0 < length rows = omega (arith, c.requires i w within, ap (λ (v : ℕ × ℤ). v.0) (weight_read items ws i (0, pos 0) same within)) in
    let row = some_at rows w.0 listed in
    let told : row_is keep (slice_get rows w.0) ≡ c.may_count.result = ap (row_is keep) row.1 ∙ sym (c.may_count.ensures row.0 row.1) in
    elim c.if-may_count.branch [
      | then-may_count x ↦ x.near-is ∙ passing_kept test ws items c.loop-own.near x.push.new.self i same c.loop-own-test.true c.loop-own.invariant (told ∙ x.if-may_count.true) x.push.ensures
      | else-may_count x ↦ x.near-is ∙ failing_left_out test ws items c.loop-own.near c.loop-own.near i same c.loop-own-test.true c.loop-own.invariant (told ∙ x.if-may_count.false) refl
    ]
