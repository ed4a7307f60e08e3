use Rattle.std.proofs.Common.{Ok, ap}
use Rattle.search_core.proofs.Flooring.{floored-step}
use Rattle.search_core.proofs.CoreSteps.{did-worked}
use Rattle.search_core.proofs.Advancing.{advances-memory}
use Rattle.search_core.proofs.CoreSteps.{advances-step, advances-step-failed}
use Rattle.search_core.proofs.rounds.work_and_write.Goals as goal

pub returns-in_err-step-clause-advances : goal.returns-in_err-step-clause-advances
returns-in_err-step-clause-advances g c = λ items. advances-memory c.from_residual.result _ _ _ _ _ _ _ c.from_residual.ensures.0 c.from_residual.ensures.1

pub write_step-requires : goal.write_step-requires
write_step-requires g c = record { worked = did-worked _ _ _ _ c.args.lane _ c.in_ok-step.step c.in_ok-step.ensures.did c.in_ok-step.ensures.lists }

pub returns-in_err-write_step-clause-advances : goal.returns-in_err-write_step-clause-advances
returns-in_err-write_step-clause-advances g c = λ items. advances-step-failed c.in_ok-step.step items c.in_ok-step.ensures.did c.from_residual-in_err-write_step.ensures.0 c.in_err-write_step.ensures

pub returns-clause-advances : goal.returns-clause-advances
returns-clause-advances g c = λ items. advances-step c.in_ok-step.step items c.in_ok-step.ensures.did c.in_ok-write_step.ensures

pub returns-clause-floored : goal.returns-clause-floored
returns-clause-floored g c = λ h.
    let old = c.args.search.now in
    floored-step old.site old.arcs old.progress.budget c.args.lane old.progress c.step.new.self.progress c.in_ok-step.step c.in_ok-step.ensures.did
    (λ from to made e one at. c.in_ok-step.ensures.floor from to made (ap Ok e) one at) h
