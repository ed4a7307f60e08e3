use Rattle.std.proofs.Common.{◌+◌, arith, rules, sym, subst}
use Rattle.node_reasons.specs.Used.{UsedList, AreUsedBelow, IsNextStart}
use Rattle.node_reasons.proofs.Gathering.{unused_step, same_start_step, push_step, next_step, starts_within}
use Rattle.node_reasons.proofs.used.gather.Goals as goal

pub returns-in-Free-clause-used : goal.returns-in-Free-clause-used
returns-in-Free-clause-used c = unused_step c.args.arcs.now c.args.decisions.now c.args.number _ c.args.used.now c.requires.number c.in-Free.ensures (λ e. cc) c.requires.used

pub returns-in-Unused-clause-used : goal.returns-in-Unused-clause-used
returns-in-Unused-clause-used c = unused_step c.args.arcs.now c.args.decisions.now c.args.number _ c.args.used.now c.requires.number c.in-Unused.ensures (λ e. cc) c.requires.used

pub returns-then-arc-latest-clause-used : goal.returns-then-arc-latest-clause-used
returns-then-arc-latest-clause-used c =
    subst (AreUsedBelow c.args.arcs.now c.args.decisions.now (c.args.number + 1)) (sym c.note.ensures)
    (same_start_step c.args.arcs.now c.args.decisions.now c.args.number c.get-arc.result c.args.used.now c.args.latest.arc c.args.latest.past_start c.get-arc.ensures c.in-Used.ensures c.if-arc-latest.true c.requires.used c.requires.next)

pub push-requires : goal.push-requires
push-requires c =
    let w = starts_within c.args.site.now c.args.arcs.now c.args.number c.get-arc.result c.points-valid.ensures.valid c.requires.arcs c.get-arc.ensures in
    omega (arith, w, c.points-valid.ensures.valid.points_count, c.requires.next.few)

pub overflow_add-result : goal.overflow_add-result
overflow_add-result c =
    let w = starts_within c.args.site.now c.args.arcs.now c.args.number c.get-arc.result c.points-valid.ensures.valid c.requires.arcs c.get-arc.ensures in
    search (rules, w, c.points-valid.ensures.valid.points_count)

pub returns-clause-used : goal.returns-clause-used
returns-clause-used c =
    let w = starts_within c.args.site.now c.args.arcs.now c.args.number c.get-arc.result c.points-valid.ensures.valid c.requires.arcs c.get-arc.ensures in
    subst (AreUsedBelow c.args.arcs.now c.args.decisions.now (c.args.number + 1)) (sym c.push.ensures)
    (push_step c.args.arcs.now c.args.decisions.now c.args.number c.get-arc.result c.args.used.now c.args.latest.arc c.args.latest.past_start c.get-arc.ensures c.in-Used.ensures c.if-arc-latest.false (omega (arith, c.points-valid.ensures.valid.points_count)) c.requires.used c.requires.next)

pub returns-clause-next : goal.returns-clause-next
returns-clause-next c =
    let w = starts_within c.args.site.now c.args.arcs.now c.args.number c.get-arc.result c.points-valid.ensures.valid c.requires.arcs c.get-arc.ensures in
    subst (λ (used : UsedList). IsNextStart c.args.arcs.now c.args.decisions.now (c.args.number + 1) used c.args.number (c.get-arc.result.from + 1)) (sym c.push.ensures)
    (next_step c.args.site.now c.args.arcs.now c.args.decisions.now c.args.number c.get-arc.result c.args.used.now c.args.latest.arc c.args.latest.past_start c.requires.arcs c.get-arc.ensures c.in-Used.ensures c.if-arc-latest.false (omega (arith, c.points-valid.ensures.valid.points_count)) c.requires.next)
