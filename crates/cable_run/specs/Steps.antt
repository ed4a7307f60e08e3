-- What reading an input gives, and what the work of a command gives.
use Rattle.std.specs.Prelude.{◌≡◌, ℕ, ◌≤◌, List, [], All, IsTrue, Option, Some, Result, Ok, Err}
use Rattle.cable_definitions.specs.declared.cable.Arc.{Arc}
use Rattle.cable_definitions.specs.declared.cable.Cable.{Cable}
use Rattle.cable_definitions.specs.declared.claim.Cause.{Cause}
use Rattle.cable_definitions.specs.declared.claim.Claim.{Claim}
use Rattle.cable_definitions.specs.declared.command.Command.{Command}
use Rattle.cable_definitions.specs.declared.command.Command.TheVariants.{Plan, Check, Site as SiteCommand, Migrate, Judge, Report, Rings, Carry, Drill}
use Rattle.cable_definitions.specs.Command.{IsBudget, IsLanes}
use Rattle.cable_definitions.specs.declared.site.SiteCode.{SiteCode}
use Rattle.cable_definitions.specs.Site.{Site}
use Rattle.cable_definitions.specs.Refusal.{DocLine, Reader, reader_at, AtJudged, may_end, ReadsLines}
use Rattle.proof_text.specs.Cables.{HasNumbersOf}
use Rattle.document_check.specs.declared.document.Accepted.{Accepted}
use Rattle.run_definitions.specs.declared.ending.Ending.{Ending}
use Rattle.run_definitions.specs.declared.ending.Ending.TheVariants.{Done, Gap, Partial, Infeasible}
use Rattle.run_definitions.specs.Effect.{Effect, Faulted, Untouched, WroteFirstPart}
use Rattle.run_definitions.specs.Ends.{Promise, plan_promise, check_promise, site_promise, judge_promise, report_promise, IsRead, IsChecked, IsSiteWithLayout, IsRefusedSite, IsRefusedInput, IsRefusedInLines, IsRefusedLayout, IsDrilled, WritesSummary, NotUsed}
use Rattle.cable_run.specs.declared.fault.Fault.{Fault}
use Rattle.cable_run.specs.declared.fault.Fault.TheVariants.{OfSite, OfDocument, Read, Write, Memory}

-- ---- reading
-- what reading gives: what is wanted, or a refusal, or a fault of the input
abbrev pub ReadsBy : {A : Type 0} → (A → Type 0) → (SiteCode → ℕ → Type 0) → (ℕ → Cause → Type 0) → Effect → Result A Fault → Type 0
ReadsBy IsGood no_site no_document input (Ok a) = IsGood a
ReadsBy IsGood no_site no_document input (Err (OfSite code place)) = no_site code place
ReadsBy IsGood no_site no_document input (Err (OfDocument refusal)) = no_document refusal.line refusal.cause
ReadsBy IsGood no_site no_document input (Err Read) = Faulted input
ReadsBy IsGood no_site no_document input (Err Write) = ⊥
ReadsBy IsGood no_site no_document input (Err Memory) = Unit {0}

-- what reading a whole site gives
abbrev pub ReadsSite : Effect → Result Site Fault → Type 0
ReadsSite input result = ReadsBy (IsRead input) (IsRefusedSite input) (λ line cause. ⊥) input result

-- a document of this site that is accepted, with its layout and its claim
abbrev pub IsCheckedWith : Effect → Site × Accepted → Type 0
IsCheckedWith input (site, accepted) = (checked : IsChecked input site accepted.claim) × (checked.document.cables ≡ accepted.layout)

-- what reading a document gives
abbrev pub ReadsDocument : Effect → Result (Site × Accepted) Fault → Type 0
ReadsDocument input result = ReadsBy (IsCheckedWith input) (λ code place. ⊥) (IsRefusedInput input) input result

-- a site with cables whose numbers are of that site
abbrev pub IsSiteWithListed : Effect → Site × List Cable → Type 0
IsSiteWithListed input (site, cables) = IsSiteWithLayout input site cables × All (HasNumbersOf site) cables

-- what reading a layout that is judged gives
abbrev pub ReadsLayout : Effect → Result (Site × List Cable) Fault → Type 0
ReadsLayout input result = ReadsBy (IsSiteWithListed input) (IsRefusedInLines input) (IsRefusedLayout input) input result

-- where the bytes to come are told, they are the lines of these cables behind a site, to the end
abbrev pub ReadsToEnd : Site → Option (List ℕ) → List Cable → Type 0
ReadsToEnd s before cables =
    (bytes : List ℕ) → before ≡ Some bytes
    → (read_lines : List DocLine) × (reader : Reader) × ((arcs : List Arc) → ReadsLines s arcs (reader_at AtJudged) bytes read_lines reader [])
    × IsTrue (may_end reader.phase) × (cables ≡ reader.cables)

-- ---- work
-- how a command may end whose work is done
abbrev pub IsWorkDone : Ending → Type 0
IsWorkDone Done = Unit {0}
IsWorkDone Gap = Unit {0}
IsWorkDone Partial = Unit {0}
IsWorkDone Infeasible = Unit {0}
IsWorkDone ending = ⊥

-- what the work of a command gives: how the call ends, with what the command promises, or the fault that was met
abbrev pub GivesBy : Promise → Effect → Effect → Result Ending Fault → Type 0
GivesBy promise input out (Ok ending) = IsWorkDone ending × promise.does ending out
GivesBy promise input out (Err (OfSite code place)) = promise.no_site code place × Untouched out
GivesBy promise input out (Err (OfDocument refusal)) = promise.no_document refusal.line refusal.cause × Untouched out
GivesBy promise input out (Err Read) = Faulted input × Untouched out
GivesBy promise input out (Err Write) = Faulted out × promise.cut out
GivesBy promise input out (Err Memory) = promise.short out

-- what each command gives
abbrev pub PlanGives : ℕ → ℕ → Effect → Effect → Result Ending Fault → Type 0
PlanGives n lanes input out result = GivesBy (plan_promise n lanes input) input out result

abbrev pub CheckGives : Effect → Effect → Result Ending Fault → Type 0
CheckGives input out result = GivesBy (check_promise input) input out result

abbrev pub SiteGives : Effect → Effect → Result Ending Fault → Type 0
SiteGives input out result = GivesBy (site_promise input) input out result

abbrev pub JudgeGives : Effect → Effect → Result Ending Fault → Type 0
JudgeGives input out result = GivesBy (judge_promise input) input out result

abbrev pub ReportGives : Effect → Effect → Result Ending Fault → Type 0
ReportGives input out result = GivesBy (report_promise input) input out result

-- what a drill gives, which is given no input: the summary; or a first part of it where the output failed; or nothing where memory ran out
abbrev pub DrillGives : ℕ → ℕ → ℕ → Effect → Result Ending Fault → Type 0
DrillGives k turbines n out (Ok ending) = IsWorkDone ending × WritesSummary k turbines n out ending
DrillGives k turbines n out (Err (OfSite code place)) = ⊥
DrillGives k turbines n out (Err (OfDocument refusal)) = ⊥
DrillGives k turbines n out (Err Read) = ⊥
DrillGives k turbines n out (Err Write) = Faulted out × ((claim : Claim) × (text : List ℕ) × IsDrilled k turbines n claim text × WroteFirstPart out text)
DrillGives k turbines n out (Err Memory) = Untouched out

-- a command that can be obeyed: one that the program knows, with its numbers in their ranges
abbrev pub IsObeyed : Command → Type 0
IsObeyed (Plan n lanes) = IsBudget n × IsLanes lanes
IsObeyed Check = Unit {0}
IsObeyed SiteCommand = Unit {0}
IsObeyed Migrate = ⊥
IsObeyed Judge = Unit {0}
IsObeyed Report = Unit {0}
IsObeyed Rings = ⊥
IsObeyed Carry = ⊥
IsObeyed (Drill k turbines n) = (1 ≤ turbines) × (turbines ≤ 200) × IsBudget n

-- what a command gives that the program knows
abbrev pub CommandGives : Command → Effect → Effect → Result Ending Fault → Type 0
CommandGives (Plan n lanes) input out result = PlanGives n lanes input out result
CommandGives Check input out result = CheckGives input out result
CommandGives SiteCommand input out result = SiteGives input out result
CommandGives Migrate input out result = ⊥
CommandGives Judge input out result = JudgeGives input out result
CommandGives Report input out result = ReportGives input out result
CommandGives Rings input out result = ⊥
CommandGives Carry input out result = ⊥
CommandGives (Drill k turbines n) input out result = NotUsed input × DrillGives k turbines n out result
