-- From what the work of a command gives, and what is noted of its fault, to how it ends.
use Rattle.std.proofs.Common.{◌≡◌, ℕ, List, sym, subst, ⊎_elim, inl, inr}
use Rattle.std.specs.Prelude.{Result, Ok, Err}
use Rattle.cable_definitions.specs.declared.claim.Claim.{Claim}
use Rattle.cable_definitions.specs.declared.command.Command.{Command}
use Rattle.cable_definitions.specs.declared.command.Command.TheVariants.{Plan, Check, Site as SiteCommand, Migrate, Judge, Report, Rings, Carry, Drill}
use Rattle.run_definitions.specs.declared.ending.Ending.{Ending}
use Rattle.run_definitions.specs.declared.ending.Ending.TheVariants.{Done, Usage, SiteRefused, Gap as EndsInGap, Partial as EndsOpen, Infeasible as EndsInfeasible, DocumentRefused, ReadFault, WriteFault, Memory as EndsInWant}
use Rattle.run_definitions.specs.Effect.{Effect, Untouched, Wrote}
use Rattle.run_definitions.specs.Ends.{Promise, EndsBy, EndsWith, PrintsPlan, plan_promise, check_promise, site_promise, judge_promise, report_promise, drill_promise, IsDrilled, CommandEnds}
use Rattle.cable_run.specs.declared.fault.Fault.{Fault}
use Rattle.cable_run.specs.declared.fault.Fault.TheVariants.{OfSite, OfDocument, Read, Write, Memory}
use Rattle.cable_run.specs.Noted.{EndsAs}
use Rattle.cable_run.specs.Steps.{IsWorkDone, GivesBy, PlanGives, DrillGives, CommandGives}

ends_so : (Ends : Ending → Type 0) (ending other : Ending) → ending ≡ other → Ends other → Ends ending
ends_so Ends ending other e h = subst Ends (sym e) h

work_ends : (promise : Promise) (input out note : Effect) (own : Ending) → IsWorkDone own → promise.does own out → Untouched note → EndsBy promise input out note own
work_ends promise input out note Done k h u = (h, u)
work_ends promise input out note EndsInGap k h u = (h, u)
work_ends promise input out note EndsOpen k h u = (h, u)
work_ends promise input out note EndsInfeasible k h u = (h, u)
work_ends promise input out note Usage k h u = absurd k
work_ends promise input out note SiteRefused k h u = absurd k
work_ends promise input out note DocumentRefused k h u = absurd k
work_ends promise input out note ReadFault k h u = absurd k
work_ends promise input out note WriteFault k h u = absurd k
work_ends promise input out note EndsInWant k h u = absurd k

ends_by : (promise : Promise) (input out note : Effect) (gave : Result Ending Fault) (ending : Ending) → GivesBy promise input out gave → EndsAs gave note ending
    → EndsBy promise input out note ending
ends_by promise input out note (Ok own) ending h m = ends_so (EndsBy promise input out note) ending own m.0 (work_ends promise input out note own h.0 h.1 m.1)
ends_by promise input out note (Err (OfSite code place)) ending h m =
    ⊎_elim (λ told. ends_so (EndsBy promise input out note) ending SiteRefused told.0 (h.1, record { code = code; place = place; refused = h.0; note = told.1 }))
    (λ untold. ends_so (EndsBy promise input out note) ending WriteFault untold.0 (inr (h.1, inl (record { code = code; place = place; refused = h.0; note = untold.1 })))) m
ends_by promise input out note (Err (OfDocument refusal)) ending h m =
    ⊎_elim (λ told. ends_so (EndsBy promise input out note) ending DocumentRefused told.0 (h.1, record { line = refusal.line; cause = refusal.cause; refused = h.0; note = told.1 }))
    (λ untold. ends_so (EndsBy promise input out note) ending WriteFault untold.0 (inr (h.1, inr (record { line = refusal.line; cause = refusal.cause; refused = h.0; note = untold.1 })))) m
ends_by promise input out note (Err Read) ending h m = ends_so (EndsBy promise input out note) ending ReadFault m.0 (h.0, h.1, m.1)
ends_by promise input out note (Err Write) ending h m = ends_so (EndsBy promise input out note) ending WriteFault m.0 (inl (h.0, h.1, m.1))
ends_by promise input out note (Err Memory) ending h m = ends_so (EndsBy promise input out note) ending EndsInWant m.0 (h, m.1)

-- a drill that is given no input gives what a command gives
drill_gives : (k turbines n : ℕ) (input out : Effect) (gave : Result Ending Fault) → DrillGives k turbines n out gave → GivesBy (drill_promise k turbines n) input out gave
drill_gives k turbines n input out (Ok own) h = h
drill_gives k turbines n input out (Err (OfSite code place)) h = absurd h
drill_gives k turbines n input out (Err (OfDocument refusal)) h = absurd h
drill_gives k turbines n input out (Err Read) h = absurd h
drill_gives k turbines n input out (Err Write) h = h
drill_gives k turbines n input out (Err Memory) h = h

-- a command ends by what it gave and what was noted of that
pub command_ends : (command : Command) (input out note : Effect) (gave : Result Ending Fault) (ending : Ending) → CommandGives command input out gave → EndsAs gave note ending
    → CommandEnds command input out note ending
command_ends (Plan n lanes) input out note gave ending h m = ends_by (plan_promise n lanes input) input out note gave ending h m
command_ends Check input out note gave ending h m = ends_by (check_promise input) input out note gave ending h m
command_ends SiteCommand input out note gave ending h m = ends_by (site_promise input) input out note gave ending h m
command_ends Judge input out note gave ending h m = ends_by (judge_promise input) input out note gave ending h m
command_ends Report input out note gave ending h m = ends_by (report_promise input) input out note gave ending h m
command_ends Migrate input out note gave ending h m = absurd h
command_ends Rings input out note gave ending h m = absurd h
command_ends Carry input out note gave ending h m = absurd h
command_ends (Drill k turbines n) input out note gave ending h m = (h.0, ends_by (drill_promise k turbines n) input out note gave ending (drill_gives k turbines n input out gave h.1) m)

done_with : (ending : Ending) (claim : Claim) → EndsWith ending claim → IsWorkDone ending
done_with Done claim e = tt
done_with EndsInGap claim e = tt
done_with EndsOpen claim e = tt
done_with EndsInfeasible claim e = tt
done_with Usage claim e = absurd e
done_with SiteRefused claim e = absurd e
done_with DocumentRefused claim e = absurd e
done_with ReadFault claim e = absurd e
done_with WriteFault claim e = absurd e
done_with EndsInWant claim e = absurd e

-- a plan that was printed ends as its claim says
pub plan_done : (n lanes : ℕ) (input out : Effect) (claim : Claim) (ending : Ending) → PrintsPlan n lanes input out claim → EndsWith ending claim → PlanGives n lanes input out (Ok ending)
plan_done n lanes input out claim ending plan e = (done_with ending claim e, (claim, plan, e))

-- a summary that was written ends as its claim says
pub drill_done : (k turbines n : ℕ) (out : Effect) (claim : Claim) (ending : Ending) (text : List ℕ) → IsDrilled k turbines n claim text → Wrote out text → EndsWith ending claim
    → DrillGives k turbines n out (Ok ending)
drill_done k turbines n out claim ending text drilled wrote e = (done_with ending claim e, (claim, text, drilled, wrote, e))
