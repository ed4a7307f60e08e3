use Rattle.std.proofs.Common.{List, length, get_or, map, arith, sym, ap}
use Rattle.std.specs.List.{concat}
use Rattle.std.proofs.lemmas.List.{take_all}
use Rattle.cable_definitions.specs.declared.cable.Cable.{Cable}
use Rattle.cable_definitions.specs.Report.{report_cable}
use Rattle.cable_text.proofs.Writers.{wrote_part, wrote_more, written_as}
use Rattle.plan_report.proofs.write.push_cables.Goals as goal

-- a cable of numbers 0, for places past the list
abbrev none : Cable
none = record { from = 0; to = 0; grade = 0 }

pub returns-in_err-push_cable : goal.returns-in_err-push_cable
returns-in_err-push_cable g c =
    let f = report_cable c.args.flows.now.site c.args.flows.now.cables in
    let i = c.loop-cable.cable-index in
    wrote_part f c.args.flows.now.cables i none (omega (arith, ap length c.cables-cables.ensures)) c.from_residual.ensures.0 c.loop-cable.invariant
    (written_as c.in_err-push_cable.ensures (ap (λ (xs : List Cable). f (get_or xs i none)) (sym c.cables-cables.ensures)))

pub loop-cable-preserved : goal.loop-cable-preserved
loop-cable-preserved g c =
    let f = report_cable c.args.flows.now.site c.args.flows.now.cables in
    let i = c.loop-cable.cable-index in
    wrote_more f c.args.flows.now.cables i none (omega (arith, ap length c.cables-cables.ensures)) c.loop-cable.invariant
    (written_as c.in_ok-push_cable.ensures (ap (λ (xs : List Cable). f (get_or xs i none)) (sym c.cables-cables.ensures)))

pub returns : goal.returns
returns g c =
    let f = report_cable c.args.flows.now.site c.args.flows.now.cables in
    written_as c.loop-cable.invariant (ap (λ (xs : List Cable). concat (map f xs)) (sym (take_all c.loop-cable.cable-index c.args.flows.now.cables (omega (arith, ap length c.cables-cables.ensures)))))
