use Rattle.std.specs.Int.{w128}
use Rattle.std.proofs.Common.{to_z, of_z, ℕ, ℤ, pos, ◌*◌, ◌^◌, List, ◌∷◌, [], ◌++◌, length, take, ◌≤◌, ap, ◌∙◌, arith}
use Rattle.cable_definitions.specs.Row.{Row}
use Rattle.site_model.specs.Best.{most_cost}
use Rattle.intree_floor.specs.declared.weights.SetWeight.{SetWeight}
use Rattle.layout_laws.proofs.Typing.{all-at}
use Rattle.floor_rows.specs.Listed.{cut_row, weights_of}
use Rattle.floor_rows.proofs.Adding.{item-at, take-count, is-taken, rows-count, rows-more, rows-room, weights-more, weights-count, weight-kept}
use Rattle.floor_rows.proofs.listing.list_sets.Goals as goal

pub list_set-row-requires-clause-members : goal.list_set-row-requires-clause-members
list_set-row-requires-clause-members c =
    let l = c.loop-set-test.true in
    rw c.loop-set.invariant.rows (rows-room c.args.site.now c.args.pool.now c.args.sets.now c.loop-set.set-index c.points-points.ensures.valid c.requires.room c.requires.sets (omega (arith, l))).1

pub unwrap-requires : goal.unwrap-requires
unwrap-requires c =
    let l = c.loop-set-test.true in
    let few = c.requires.sets.few in
    let taken = take-count c.args.sets.now c.loop-set.set-index l in
    let count = weights-count (length c.args.pool.now) (take c.loop-set.set-index c.args.sets.now) in
    let now = ap (length) c.loop-set.invariant.weights in
    is-taken c.push.result (length c.loop-set.weights) c.push.ensures.full (omega (arith, l, few, taken, count, now))

pub loop-set-preserved : goal.loop-set-preserved
loop-set-preserved c =
    let l = c.loop-set-test.true in
    let item = item-at c.args.sets.now c.loop-set.set-index c.set-item.result l c.set-item.is in
    let small = all-at (λ (w : SetWeight). w.weight ≤ most_cost) c.args.sets.now c.loop-set.set-index c.set-item.result c.requires.sets.small item in
    let kept = weight-kept c.set-item.result.weight c.weight_of.result small c.weight_of.ensures in
    let pushed = rw c.unwrap.ensures at c.push.ensures.ok in
    let number = c.list_set-row.ensures.number ∙ ap (length) c.loop-set.invariant.rows ∙ rows-count c.args.pool.now (take c.loop-set.set-index c.args.sets.now) in
    record {
      rows = c.list_set-row.ensures.listed ∙ ap (λ (ms : List ℕ). c.loop-set.pool ++ cut_row ms ∷ []) c.as_slice.ensures
          ∙ ap (λ (rows : List Row). rows ++ cut_row c.set-item.result.members ∷ []) c.loop-set.invariant.rows
          ∙ rows-more c.args.pool.now c.args.sets.now c.loop-set.set-index c.set-item.result item;
      weights = pushed
          ∙ ap (λ (ws : List (ℕ × ℤ)). ws ++ (c.list_set-row.result, to_z w128 (of_z w128 c.weight_of.result)) ∷ []) c.loop-set.invariant.weights
          ∙ ap (λ (z : ℤ). weights_of (length c.args.pool.now) (take c.loop-set.set-index c.args.sets.now) ++ (c.list_set-row.result, z) ∷ []) kept
          ∙ ap (λ (k : ℕ). weights_of (length c.args.pool.now) (take c.loop-set.set-index c.args.sets.now) ++ (k, pos (2 ^ 20 * c.set-item.result.weight)) ∷ []) number
          ∙ weights-more (length c.args.pool.now) c.args.sets.now c.loop-set.set-index c.set-item.result item;
    }
