use Rattle.std.proofs.Common.{ℕ, ℤ, ◌+◌, ◌*◌, ◌^◌, ◌≤◌, List, unsigned_abs, to_z, take, refl, sym, subst, arith}
use Rattle.std.specs.Int.{w128}
use Rattle.cable_definitions.specs.Choice.{AtMost, IsExtreme, IsSumOfExtremes, reduced_cost}
use Rattle.proof_laws.proofs.Extremes.{sum_more}
use Rattle.arc_choices.specs.Least.{left_over}
use Rattle.cable_rows.specs.Sums.{AreNear}
use Rattle.cable_rows.proofs.Weighing.{added}
use Rattle.cable_rows.proofs.Counting.{sets_lawful, counts_read, read_small}
use Rattle.cable_rows.proofs.NearSets.{near_lawful, near_summed}
use Rattle.bound_value.proofs.value.least_choices.Goals as goal

pub find_near-requires : goal.find_near-requires
find_near-requires c = (sets_lawful c.args.pool.now c.args.weights.now c.weights_on_sets-sets.result c.requires.lawful c.weights_on_sets-sets.ensures).listed

pub turn_to-requires-clause-listed : goal.turn_to-requires-clause-listed
turn_to-requires-clause-listed c = (sets_lawful c.args.pool.now c.args.weights.now c.weights_on_sets-sets.result c.requires.lawful c.weights_on_sets-sets.ensures).listed

pub counts-counts-requires-clause-lawful : goal.counts-counts-requires-clause-lawful
counts-counts-requires-clause-lawful c =
    let near = subst (λ (vs : List (ℕ × ℤ)). AreNear c.args.arcs.now c.args.pool.now vs c.get-from.result.from c.turn_to.new.near) c.weights_on_sets-sets.ensures c.turn_to.ensures in
    near_lawful c.args.arcs.now c.args.pool.now c.args.weights.now c.turn_to.new.near c.as_slice.result.now c.get-from.result.from c.requires.lawful near c.as_slice.ensures.value

pub least_choice-sum-requires-clause-on_use : goal.least_choice-sum-requires-clause-on_use
least_choice-sum-requires-clause-on_use c =
    let sums = c.point_sums-sums.ensures in
    let arc = c.get-from.result in
    let summed = near_summed c.args.arcs.now c.args.pool.now c.args.weights.now c.weights_on_sets-sets.result c.turn_to.new.near c.as_slice.result.now c.point_sums-sums.result c.loop-number.number arc c.requires.lawful sums.few sums.sums c.weights_on_sets-sets.ensures c.turn_to.ensures c.as_slice.ensures.value c.get-from.ensures in
    (read_small c.args.pool.now c.args.weights.now c.loop-number.number arc c.counts-counts.result (c.counts-counts.ensures c.args.weights.now arc c.get-from.ensures summed)).0

pub least_choice-sum-requires-clause-on_load : goal.least_choice-sum-requires-clause-on_load
least_choice-sum-requires-clause-on_load c =
    let sums = c.point_sums-sums.ensures in
    let arc = c.get-from.result in
    let summed = near_summed c.args.arcs.now c.args.pool.now c.args.weights.now c.weights_on_sets-sets.result c.turn_to.new.near c.as_slice.result.now c.point_sums-sums.result c.loop-number.number arc c.requires.lawful sums.few sums.sums c.weights_on_sets-sets.ensures c.turn_to.ensures c.as_slice.ensures.value c.get-from.ensures in
    (read_small c.args.pool.now c.args.weights.now c.loop-number.number arc c.counts-counts.result (c.counts-counts.ensures c.args.weights.now arc c.get-from.ensures summed)).1

pub loop-number-preserved : goal.loop-number-preserved
loop-number-preserved c =
    let s = c.args.site.now in
    let arcs = c.args.arcs.now in
    let marks = c.args.decisions.now in
    let rows = c.args.pool.now in
    let ws = c.args.weights.now in
    let i = c.loop-number.number in
    let f = reduced_cost s rows ws in
    let sums = c.point_sums-sums.ensures in
    let arc = c.get-from.result in
    let summed = near_summed arcs rows ws c.weights_on_sets-sets.result c.turn_to.new.near c.as_slice.result.now c.point_sums-sums.result i arc c.requires.lawful sums.few sums.sums c.weights_on_sets-sets.ensures c.turn_to.ensures c.as_slice.ensures.value c.get-from.ensures in
    let total = to_z w128 c.loop-number.sum-bits in
    let least = c.least_choice-sum.result in
    let extreme = counts_read (λ u v. IsExtreme AtMost s arc c.mark-mark.result (left_over s arc u v) least) rows ws i arc c.counts-counts.result (c.counts-counts.ensures ws arc c.get-from.ensures summed) (c.least_choice-sum.ensures.least arc c.get-from.ensures) in
    let sum = added total least total (10 ^ 30 * i) (10 ^ 30) refl c.loop-number.invariant.small c.least_choice-sum.ensures.small (omega arith) in
    let near = sum.2 in
    record {
      sum = subst (IsSumOfExtremes AtMost s (take (i + 1) arcs) (take (i + 1) marks) f) (sym sum.1) (sum_more AtMost s f i arcs marks arc c.mark-mark.result total least c.get-from.ensures c.mark-mark.ensures c.loop-number.invariant.sum extreme);
      small = subst (λ (z : ℤ). unsigned_abs z ≤ 10 ^ 30 * (i + 1)) (sym sum.1) (omega (arith, near));
      near = subst (λ (vs : List (ℕ × ℤ)). AreNear arcs rows vs arc.from c.turn_to.new.near) c.weights_on_sets-sets.ensures c.turn_to.ensures;
    }
