use Rattle.std.proofs.Common.{◌+◌, Some, IsTrue, arith}
use Rattle.cable_definitions.specs.Walk.{passes}
use Rattle.cable_definitions.specs.Layout.{Starts}
use Rattle.start_layout.proofs.Moving.{none_more, less_more, move_after, kept_on, end_within, start_within, after_all, settled_or_best}
use Rattle.start_layout.proofs.GoingRound.{none_where_closed}
use Rattle.start_layout.proofs.settling.best_move.Goals as goal
use Rattle.start_layout.proofs.settling.best_move.Goals.{then-is_open+in-Some, then-is_open+in_default, else-is_open}

pub loop-number-init : goal.loop-number-init
loop-number-init c = record {
  below = λ k a h. absurd (omega arith);
  best = c.requires.cost;
  floor_is = c.no_floor-floor.ensures c.args.site.now c.args.cables.now;
}

pub loop-number-preserved : goal.loop-number-preserved
loop-number-preserved c =
    let s = c.args.site.now in
    let arcs = c.args.arcs.now in
    let cables = c.args.cables.now in
    let n = c.loop-number.number in
    let least = c.loop-number.least in
    let best = c.loop-number.best in
    let arc = c.get-arc.result in
    let at = c.get-arc.ensures in
    let known = c.loop-number.invariant in
    elim c.if-is_open.branch [
      | then-is_open+in-Some w ↦ (
          let less = w.in-Some.less in
          let below = less_more s arcs cables n least less arc at known.below w.in-Some.ensures.below w.in-Some.ensures.some in
          let move = move_after s arcs cables n least less best arc c.requires.arcs at known.best w.in-Some.ensures.below w.in-Some.ensures.some in
          let kept = kept_on s arcs cables (n + 1) less c.if-is_open.least (Some arc) c.if-is_open.best w.least-is w.best-is below move in
          record { below = kept.0; best = kept.1; floor_is = c.move_floor.ensures.floor })
      | then-is_open+in_default w ↦ (
          let below = none_more s arcs cables n least arc at known.below w.in_default.ensures.none in
          let kept = kept_on s arcs cables (n + 1) least c.if-is_open.least best c.if-is_open.best w.least-is w.best-is below known.best in
          record { below = kept.0; best = kept.1; floor_is = c.move_floor.ensures.floor })
      | else-is_open w ↦ (
          let closed = λ (h : Starts cables arc.from × (¬ (IsTrue (passes cables arc.from arc.to)))). let yes = c.is_open.ensures.1 h in absurd (cc) in
          let below = none_more s arcs cables n least arc at known.below (none_where_closed s cables least arc closed) in
          let kept = kept_on s arcs cables (n + 1) least c.if-is_open.least best c.if-is_open.best w.least-is w.best-is below known.best in
          record { below = kept.0; best = kept.1; floor_is = c.move_floor.ensures.floor })
    ]

pub move_floor-requires-clause-start : goal.move_floor-requires-clause-start
move_floor-requires-clause-start c = start_within c.args.site.now c.args.arcs.now c.loop-number.number c.get-arc.result c.requires.arcs c.get-arc.ensures

pub cost_below-requires-clause-to : goal.cost_below-requires-clause-to
cost_below-requires-clause-to c = end_within c.args.site.now c.args.arcs.now c.loop-number.number c.get-arc.result c.requires.arcs c.get-arc.ensures

pub cost_below-requires-clause-from : goal.cost_below-requires-clause-from
cost_below-requires-clause-from c = start_within c.args.site.now c.args.arcs.now c.loop-number.number c.get-arc.result c.requires.arcs c.get-arc.ensures

pub returns-clause-none : goal.returns-clause-none
returns-clause-none c =
    let s = c.args.site.now in
    let arcs = c.args.arcs.now in
    let cables = c.args.cables.now in
    let least = c.loop-number.least in
    let found = settled_or_best s arcs cables least c.loop-number.best c.requires.arcs c.requires.legal
    (after_all s arcs cables c.loop-number.number least (omega arith) c.loop-number.invariant.below) c.loop-number.invariant.best in
    found.0
