use Rattle.std.proofs.Common.{refl, ap, ◌∙◌, arith, count_by, ◌≡◌, Some, None}
use Rattle.std.specs.Vec.{with_item}
use Rattle.cable_definitions.specs.Core.{is_holding}
use Rattle.proof_laws.proofs.Boxes.{set_here}
use Rattle.search_progress.proofs.HeldLanes.{if-none, lane-empty, take-happens, take-searching}
use Rattle.search_progress.proofs.progress.Progress.take.Goals as goal

pub returns-in_err-node-clause-not_possible : goal.returns-in_err-node-clause-not_possible
returns-in_err-node-clause-not_possible c =
    if-none c.from_residual.result (λ s arcs n items searching possible. c.in_err-node.ensures.none s arcs n items possible.1.0 searching possible.1.1)

pub returns-clause-takes : goal.returns-clause-takes
returns-clause-takes c = λ s arcs n items searching.
    let within = c.if-lane-len.false in
    let long = c.len.ensures in
    let works = c.works.ensures.works in
    let held : c.held_count.result ≡ count_by is_holding c.args.self.now.lanes.items = c.held_count.ensures.count ∙ ap (count_by is_holding) c.as_slice.ensures.value in
    let left = c.if-used-self.false in
    let limit = searching.limit in
    take-happens s arcs n items c.args.self.now (record c.args.self.now { lanes = with_item c.args.self.now.lanes c.args.lane (Some c.in_ok-node.node) }) c.args.lane c.in_ok-node.node refl refl
    (lane-empty c.args.self.now.lanes.items c.args.lane c.index.result.now c.is_some.result (omega (arith, within, long)) c.index.ensures c.is_some.ensures c.if-is_some.false)
    (c.in_ok-node.ensures.some s arcs n items searching) (omega (arith, works, held, left, limit))

pub returns-clause-node : goal.returns-clause-node
returns-clause-node c =
    let within = c.if-lane-len.false in
    let long = c.len.ensures in
    set_here c.args.self.now.lanes.items c.args.lane None _
    (lane-empty c.args.self.now.lanes.items c.args.lane c.index.result.now c.is_some.result (omega (arith, within, long)) c.index.ensures c.is_some.ensures c.if-is_some.false)

pub returns-clause-searching : goal.returns-clause-searching
returns-clause-searching c = λ s arcs n searching.
    let within = c.if-lane-len.false in
    let long = c.len.ensures in
    let works = c.works.ensures.works in
    let held : c.held_count.result ≡ count_by is_holding c.args.self.now.lanes.items = c.held_count.ensures.count ∙ ap (count_by is_holding) c.as_slice.ensures.value in
    let left = c.if-used-self.false in
    let limit = searching.limit in
    take-searching s arcs n c.args.self.now _ c.args.lane c.in_ok-node.node refl refl
    (lane-empty c.args.self.now.lanes.items c.args.lane c.index.result.now c.is_some.result (omega (arith, within, long)) c.index.ensures c.is_some.ensures c.if-is_some.false)
    (λ items. c.in_ok-node.ensures.some s arcs n items searching) (omega (arith, works, held, left, limit)) searching
