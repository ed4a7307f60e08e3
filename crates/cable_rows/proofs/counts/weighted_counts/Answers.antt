use Rattle.std.proofs.Common.{◌≡◌, pos, slice_get, Some, get_or, refl}
use Rattle.cable_definitions.specs.declared.cable.Arc.{Arc}
use Rattle.cable_definitions.specs.Row.{Row, on_use, on_load}
use Rattle.proof_laws.proofs.Lists.{some_at}
use Rattle.cable_rows.proofs.Weighing.{next_weight, coefficient_added, on_use-small, on_load-small}
use Rattle.cable_rows.proofs.counts.weighted_counts.Goals as goal

pub overflow_add-sum : goal.overflow_add-sum
overflow_add-sum c =
    let rows = c.args.pool.now in
    let weights = c.args.weights.now in
    let i = c.loop-weight.weight-index in
    let w = get_or weights i (0, pos 0) in
    let n = next_weight rows weights weights i c.requires.lawful refl c.loop-weight-test.true c.requires.few in
    let arc = some_at c.args.arcs.now c.args.arc c.requires.arc in
    let a = arc.0 in
    (coefficient_added (λ (row : Row). on_use row.kind row.members c.args.arc a.from a.to) rows weights i w c.loop-weight.sum.on_use c.coefficients-on_use.result.0 c.from.result c.weighted.result n
    (c.loop-weight.invariant.on_use a arc.1) c.loop-weight.invariant.on_use_small c.from.ensures (c.coefficients-on_use.ensures.on_use n.row a n.listed arc.1)
    (on_use-small n.row.kind n.row.members c.args.arc a.from a.to) c.weighted.ensures.product).0

pub overflow_add-sum-in-loop-weight : goal.overflow_add-sum-in-loop-weight
overflow_add-sum-in-loop-weight c =
    let rows = c.args.pool.now in
    let weights = c.args.weights.now in
    let i = c.loop-weight.weight-index in
    let w = get_or weights i (0, pos 0) in
    let n = next_weight rows weights weights i c.requires.lawful refl c.loop-weight-test.true c.requires.few in
    let arc = some_at c.args.arcs.now c.args.arc c.requires.arc in
    let a = arc.0 in
    (coefficient_added (λ (row : Row). on_load row.kind row.members a.from a.to) rows weights i w c.loop-weight.sum.on_load c.coefficients-on_use.result.1 c.from-in-loop-weight.result c.weighted-in-loop-weight.result n
    (c.loop-weight.invariant.on_load a arc.1) c.loop-weight.invariant.on_load_small c.from-in-loop-weight.ensures (c.coefficients-on_use.ensures.on_load n.row a n.listed arc.1)
    (on_load-small n.row.kind n.row.members a.from a.to) c.weighted-in-loop-weight.ensures.product).0

pub loop-weight-preserved : goal.loop-weight-preserved
loop-weight-preserved c =
    let rows = c.args.pool.now in
    let weights = c.args.weights.now in
    let i = c.loop-weight.weight-index in
    let w = get_or weights i (0, pos 0) in
    let n = next_weight rows weights weights i c.requires.lawful refl c.loop-weight-test.true c.requires.few in
    let use_added = λ (a : Arc) (e : slice_get c.args.arcs.now c.args.arc ≡ Some a).
    coefficient_added (λ (row : Row). on_use row.kind row.members c.args.arc a.from a.to) rows weights i w c.loop-weight.sum.on_use c.coefficients-on_use.result.0 c.from.result c.weighted.result n
    (c.loop-weight.invariant.on_use a e) c.loop-weight.invariant.on_use_small c.from.ensures (c.coefficients-on_use.ensures.on_use n.row a n.listed e)
    (on_use-small n.row.kind n.row.members c.args.arc a.from a.to) c.weighted.ensures.product in
    let load_added = λ (a : Arc) (e : slice_get c.args.arcs.now c.args.arc ≡ Some a).
    coefficient_added (λ (row : Row). on_load row.kind row.members a.from a.to) rows weights i w c.loop-weight.sum.on_load c.coefficients-on_use.result.1 c.from-in-loop-weight.result c.weighted-in-loop-weight.result n
    (c.loop-weight.invariant.on_load a e) c.loop-weight.invariant.on_load_small c.from-in-loop-weight.ensures (c.coefficients-on_use.ensures.on_load n.row a n.listed e)
    (on_load-small n.row.kind n.row.members a.from a.to) c.weighted-in-loop-weight.ensures.product in
    let arc = some_at c.args.arcs.now c.args.arc c.requires.arc in
    record {
      on_use = λ a e. (use_added a e).1;
      on_load = λ a e. (load_added a e).1;
      on_use_small = (use_added arc.0 arc.1).2;
      on_load_small = (load_added arc.0 arc.1).2;
    }
