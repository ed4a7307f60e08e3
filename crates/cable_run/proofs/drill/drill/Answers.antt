use Rattle.std.proofs.lemmas.Result.{err_from_is_err_and}
use Rattle.run_definitions.specs.Effect.{effect}
use Rattle.cable_run.proofs.Drills.{drilled, summary_begun}
use Rattle.cable_run.proofs.Endings.{drill_done}
use Rattle.cable_run.proofs.Plans.{claim_found}
use Rattle.cable_run.proofs.drill.drill.Goals as goal

pub write_summary-requires : goal.write_summary-requires
write_summary-requires g c = claim_found _ _ _ _ _ _ _ _ c.in_ok-plan.ensures

pub returns-in_err-write_summary : goal.returns-in_err-write_summary
returns-in_err-write_summary g c =
    let out = effect (g.O.Sink.state c.args.out.now) (g.O.Sink.state c.write_summary.new.out) in
    let p = err_from_is_err_and c.from_residual-in_err-write_summary.result c.from_residual-in_err-write_summary.ensures.1 in
    rw (p.1, p.2) (summary_begun c.args.k c.args.turbines c.args.budget out c.in_ok-plan.plan.claim _
    (drilled c.in_ok-site.site c.args.k c.args.turbines c.args.budget c.in_ok-arcs.arcs c.len.result c.in_ok-plan.plan.layout c.in_ok-plan.plan.claim c.requires.some c.requires.most
    c.points-points.ensures.valid c.in_ok-site.ensures c.in_ok-arcs.ensures c.len.ensures.count c.in_ok-plan.ensures) c.in_err-write_summary.ensures.failed c.in_err-write_summary.ensures.part)

pub returns : goal.returns
returns g c =
    let out = effect (g.O.Sink.state c.args.out.now) (g.O.Sink.state c.write_summary.new.out) in
    drill_done c.args.k c.args.turbines c.args.budget out c.in_ok-plan.plan.claim c.ending_of.result _
    (drilled c.in_ok-site.site c.args.k c.args.turbines c.args.budget c.in_ok-arcs.arcs c.len.result c.in_ok-plan.plan.layout c.in_ok-plan.plan.claim c.requires.some c.requires.most
    c.points-points.ensures.valid c.in_ok-site.ensures c.in_ok-arcs.ensures c.len.ensures.count c.in_ok-plan.ensures) c.in_ok-write_summary.ensures.ok c.ending_of.ensures
