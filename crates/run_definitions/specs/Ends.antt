-- How each command may end, and what it leaves of its streams.
use Rattle.std.specs.Prelude.{◌≡◌, ℕ, ◌⊎◌, List, length, Bool}
use Rattle.cable_definitions.specs.declared.cable.Cable.{Cable}
use Rattle.cable_definitions.specs.declared.cable.Rule.{Rule}
use Rattle.cable_definitions.specs.declared.claim.Cause.{Cause}
use Rattle.cable_definitions.specs.declared.claim.Claim.{Claim}
use Rattle.cable_definitions.specs.declared.claim.Claim.TheVariants.{Optimal, Gap, Partial, Infeasible}
use Rattle.cable_definitions.specs.declared.command.Command.{Command}
use Rattle.cable_definitions.specs.declared.command.Command.TheVariants.{Plan, Check, Site as SiteCommand, Migrate, Judge, Report, Rings, Carry, Drill}
use Rattle.cable_definitions.specs.declared.site.SiteCode.{SiteCode}
use Rattle.cable_definitions.specs.Site.{Site, IsValid}
use Rattle.cable_definitions.specs.Layout.{IsLegal, IsFirstBroken, cost}
use Rattle.cable_definitions.specs.Tree.{Says}
use Rattle.cable_definitions.specs.Text.{site_lines}
use Rattle.cable_definitions.specs.Items.{IsLineFault}
use Rattle.cable_definitions.specs.Document.{IsAcceptedDocument}
use Rattle.cable_definitions.specs.Refusal.{IsRefused, IsSiteWithCables, IsJudgeRefused}
use Rattle.cable_definitions.specs.Report.{report_text}
use Rattle.cable_definitions.specs.Drill.{IsDrillSite, drill_line}
use Rattle.cable_definitions.specs.Answers.{usage_note, site_note, document_note, read_fault_note, write_fault_note, memory_note, yes_line, legal_line, broken_line}
use Rattle.cable_definitions.specs.Stream.{IsAtEnd}
use Rattle.run_definitions.specs.declared.ending.Ending.{Ending}
use Rattle.run_definitions.specs.declared.ending.Ending.TheVariants.{Done, Usage, SiteRefused, Gap as EndsInGap, Partial as EndsOpen, Infeasible as EndsInfeasible, DocumentRefused, ReadFault, WriteFault, Memory}
use Rattle.run_definitions.specs.Bytes.{IsSiteOf, IsPlanFault, IsFrontSite, IsFrontFault}
use Rattle.run_definitions.specs.Effect.{Effect, Faulted, Untouched, Held, Wrote, WroteFirstPart, Noted, NoteFailed}
use Rattle.run_definitions.specs.Plan.{IsPlan, IsPlanBegun}

-- the number that the process ends with
abbrev pub status_of : Ending → ℕ
status_of Done = 0
status_of Usage = 1
status_of SiteRefused = 2
status_of EndsInGap = 3
status_of EndsOpen = 4
status_of EndsInfeasible = 5
status_of DocumentRefused = 6
status_of ReadFault = 7
status_of WriteFault = 8
status_of Memory = 9

-- ---- all commands
-- What a command promises: what it leaves in the output where it ends so and its work is done; what stands there where the output fails, and where
-- memory runs out; which code and place it may say of an input that is no site, and which line and cause of one that is no document.
pub record Promise : Type 1 where
  pub does : Ending → Effect → Type 0
  pub cut : Effect → Type 0
  pub short : Effect → Type 0
  pub no_site : SiteCode → ℕ → Type 0
  pub no_document : ℕ → Cause → Type 0

-- the input is no site, for this code at this place, and so much of the note on that was given
pub record RefusesSite (no_site : SiteCode → ℕ → Type 0) (Gave : List ℕ → Type 0) : Type 0 where
  pub code : SiteCode
  pub place : ℕ
  pub refused : no_site code place
  pub note : Gave (site_note code place)

-- the input is no document, for this cause at this line, and so much of the note on that was given
pub record RefusesDocument (no_document : ℕ → Cause → Type 0) (Gave : List ℕ → Type 0) : Type 0 where
  pub line : ℕ
  pub cause : Cause
  pub refused : no_document line cause
  pub note : Gave (document_note cause line)

-- How a command ends that has words: its work is done, and nothing is noted; or what was read is no site or no document, which is noted; or the
-- input failed; or the output failed, or the note of a refusal did; or memory ran out. Nothing is written but by work that is done, cut or short.
abbrev pub EndsBy : Promise → Effect → Effect → Effect → Ending → Type 0
EndsBy promise input out note Usage = ⊥
EndsBy promise input out note SiteRefused = Untouched out × RefusesSite promise.no_site (Wrote note)
EndsBy promise input out note DocumentRefused = Untouched out × RefusesDocument promise.no_document (Wrote note)
EndsBy promise input out note ReadFault = Faulted input × Untouched out × Noted note read_fault_note
EndsBy promise input out note WriteFault =
    (Faulted out × promise.cut out × Noted note write_fault_note)
    ⊎ (Untouched out × (RefusesSite promise.no_site (NoteFailed note) ⊎ RefusesDocument promise.no_document (NoteFailed note)))
EndsBy promise input out note Memory = promise.short out × Noted note memory_note
EndsBy promise input out note ending = promise.does ending out × Untouched note

-- how a call ends whose words are no command
abbrev pub UsageEnds : Effect → Effect → Effect → Ending → Type 0
UsageEnds input out note Usage = Untouched input × Untouched out × Wrote note usage_note
UsageEnds input out note WriteFault = Untouched input × Untouched out × NoteFailed note usage_note
UsageEnds input out note ending = ⊥

-- ---- plan
-- What was read is this valid site; where the input tells its bytes they are that site, and the input was read to its end.
pub record IsRead (input : Effect) (s : Site) : Type 0 where
  pub valid : IsValid s
  pub read : (bytes : List ℕ) → Held input bytes → IsSiteOf bytes s
  pub whole : IsAtEnd input.after.bytes

-- a plan of the site that was read was printed with this claim
pub record PrintsPlan (n lanes : ℕ) (input out : Effect) (claim : Claim) : Type 0 where
  pub site : Site
  pub printed : List ℕ
  pub read : IsRead input site
  pub plan : IsPlan site n lanes printed claim
  pub wrote : Wrote out printed

-- Nothing was printed; or a first part of the lines of the site that was read, the budget and accepted items; or a first part of a plan of that site.
abbrev pub PrintsPart : ℕ → ℕ → Effect → Effect → Type 0
PrintsPart n lanes input out =
    Untouched out
    ⊎ ((s : Site) × (text : List ℕ) × IsRead input s × (IsPlanBegun s n text ⊎ ((claim : Claim) × IsPlan s n lanes text claim)) × WroteFirstPart out text)

-- the claim that an ending stands for
abbrev pub EndsWith : Ending → Claim → Type 0
EndsWith Done claim = (best : ℕ) × (claim ≡ Optimal best)
EndsWith EndsInGap claim = (best : ℕ) × (bound : ℕ) × (claim ≡ Gap best bound)
EndsWith EndsOpen claim = (bound : ℕ) × (stuck : ℕ) × (claim ≡ Partial bound stuck)
EndsWith EndsInfeasible claim = claim ≡ Infeasible
EndsWith ending claim = ⊥

-- the input is no site that can be planned, for this code at this place
abbrev pub IsRefusedSite : Effect → SiteCode → ℕ → Type 0
IsRefusedSite input code place = (bytes : List ℕ) → Held input bytes → IsPlanFault bytes code place

-- `plan n lanes` prints a plan, and ends as its claim says
abbrev pub plan_promise : ℕ → ℕ → Effect → Promise
plan_promise n lanes input = record {
  does = λ ending out. (claim : Claim) × PrintsPlan n lanes input out claim × EndsWith ending claim;
  cut = PrintsPart n lanes input;
  short = PrintsPart n lanes input;
  no_site = IsRefusedSite input;
  no_document = λ line cause. ⊥;
}

-- a plan of this site was printed; the call ended as its claim says, and read the input to its end
pub record PrintsPlanOf (s : Site) (n lanes : ℕ) (input out : Effect) (ending : Ending) : Type 0 where
  pub printed : List ℕ
  pub claim : Claim
  pub plan : IsPlan s n lanes printed claim
  pub wrote : Wrote out printed
  pub ends : EndsWith ending claim
  pub whole : IsAtEnd input.after.bytes

-- ---- check
-- What was read is a document of this site with this claim, which is accepted; where the input tells its bytes they are that document, and the input
-- was read to its end. What the claim says of all legal layouts is true.
pub record IsChecked (input : Effect) (s : Site) (claim : Claim) : Type 0 where
  pub bytes : List ℕ
  pub document : IsAcceptedDocument bytes s claim
  pub read : (held : List ℕ) → Held input held → held ≡ bytes
  pub whole : IsAtEnd input.after.bytes
  pub says : Says s claim

-- a document was read and is accepted, with this yes
abbrev pub IsYes : Effect → List ℕ → Type 0
IsYes input text = (s : Site) × (claim : Claim) × IsChecked input s claim × (text ≡ yes_line claim)

-- the input is refused as a document at this line for this cause
abbrev pub IsRefusedInput : Effect → ℕ → Cause → Type 0
IsRefusedInput input line cause = (bytes : List ℕ) → Held input bytes → IsRefused bytes 1 line cause

-- what a command promises whose whole output is an answer of this kind to its input
abbrev pub answer_promise : (List ℕ → Type 0) → (SiteCode → ℕ → Type 0) → (ℕ → Cause → Type 0) → Promise
answer_promise IsAnswer no_site no_document = record {
  does = λ ending out. (ending ≡ Done) × ((text : List ℕ) × IsAnswer text × Wrote out text);
  cut = λ out. (text : List ℕ) × IsAnswer text × WroteFirstPart out text;
  short = Untouched;
  no_site = no_site;
  no_document = no_document;
}

-- `check` says yes to a document that is accepted, and refuses what is none
abbrev pub check_promise : Effect → Promise
check_promise input = answer_promise (IsYes input) (λ code place. ⊥) (IsRefusedInput input)

-- ---- site
-- what was read is this valid site; where the input tells its bytes it stands at their front, or they are a JSON text of it
pub record IsFront (input : Effect) (s : Site) : Type 0 where
  pub valid : IsValid s
  pub read : (bytes : List ℕ) → Held input bytes → IsFrontSite bytes s

-- the lines of a site that stands at the front of the input
abbrev pub IsRewriting : Effect → List ℕ → Type 0
IsRewriting input text = (s : Site) × IsFront input s × (text ≡ site_lines s)

-- no site stands at the front of the input, for this code at this place
abbrev pub IsRefusedFront : Effect → SiteCode → ℕ → Type 0
IsRefusedFront input code place = (bytes : List ℕ) → Held input bytes → IsFrontFault bytes code place

-- `site` writes the lines of the site, and refuses what is none
abbrev pub site_promise : Effect → Promise
site_promise input = answer_promise (IsRewriting input) (IsRefusedFront input) (λ line cause. ⊥)

-- ---- judge
-- What was read is this valid site with these cables; where the input tells its bytes they are these, and the input was read to its end.
pub record IsSiteWithLayout (input : Effect) (s : Site) (cables : List Cable) : Type 0 where
  pub valid : IsValid s
  pub read : (bytes : List ℕ) → Held input bytes → IsSiteWithCables bytes s cables
  pub whole : IsAtEnd input.after.bytes

-- what is answered of the cables: that they are a legal layout, with its cost, or the first broken rule with its two points by name
abbrev pub IsJudgement : Site → List Cable → List ℕ → Type 0
IsJudgement s cables text =
    (IsLegal s cables × (text ≡ legal_line (cost s cables)))
    ⊎ ((rule : Rule) × (a : ℕ) × (b : ℕ) × IsFirstBroken s cables rule a b × (text ≡ broken_line s rule a b))

-- the answer on the layout in the input
abbrev pub IsAnswered : Effect → List ℕ → Type 0
IsAnswered input text = (s : Site) × (cables : List Cable) × IsSiteWithLayout input s cables × IsJudgement s cables text

-- the input doesn't begin with the lines of a site, for this code at this place
abbrev pub IsRefusedInLines : Effect → SiteCode → ℕ → Type 0
IsRefusedInLines input code place = (bytes : List ℕ) → Held input bytes → (broken_line : Bool) × IsLineFault bytes 1 code place broken_line

-- what follows the site in the input is no layout, for this cause at this line
abbrev pub IsRefusedLayout : Effect → ℕ → Cause → Type 0
IsRefusedLayout input line cause = (bytes : List ℕ) → Held input bytes → IsJudgeRefused bytes line cause

-- `judge` answers on the layout, and refuses what is no site, and what follows a site and is no layout
abbrev pub judge_promise : Effect → Promise
judge_promise input = answer_promise (IsAnswered input) (IsRefusedInLines input) (IsRefusedLayout input)

-- ---- report
-- the report of a document that is accepted
abbrev pub IsReport : Effect → List ℕ → Type 0
IsReport input text = (s : Site) × (claim : Claim) × (checked : IsChecked input s claim) × (text ≡ report_text s checked.document.cables claim)

-- `report` writes the report of a document that is accepted, and refuses what is none
abbrev pub report_promise : Effect → Promise
report_promise input = answer_promise (IsReport input) (λ code place. ⊥) (IsRefusedInput input)

-- ---- drill
-- The summary of the site that is generated from the number k with so many turbines: there is a plan of it with the budget n, over one lane, whose
-- claim is the one in the summary.
pub record IsDrilled (k turbines n : ℕ) (claim : Claim) (text : List ℕ) : Type 0 where
  pub site : Site
  pub valid : IsValid site
  pub generated : IsDrillSite k turbines site
  pub printed : List ℕ
  pub plan : IsPlan site n 1 printed claim
  pub text_is : text ≡ drill_line site k turbines n (length plan.document.arcs) claim

-- such a summary was written, and the call ended as its claim says
abbrev pub WritesSummary : ℕ → ℕ → ℕ → Effect → Ending → Type 0
WritesSummary k turbines n out ending = (claim : Claim) × (text : List ℕ) × IsDrilled k turbines n claim text × Wrote out text × EndsWith ending claim

-- `drill` writes the summary of a generated site, and ends as its claim says
abbrev pub drill_promise : ℕ → ℕ → ℕ → Promise
drill_promise k turbines n = record {
  does = λ ending out. WritesSummary k turbines n out ending;
  cut = λ out. (claim : Claim) × (text : List ℕ) × IsDrilled k turbines n claim text × WroteFirstPart out text;
  short = Untouched;
  no_site = λ code place. ⊥;
  no_document = λ line cause. ⊥;
}

-- the call left a stream and its count of faults as they were
abbrev pub NotUsed : Effect → Type 0
NotUsed e = e.after ≡ e.before

-- ---- commands
-- how a command ends that the program knows
abbrev pub CommandEnds : Command → Effect → Effect → Effect → Ending → Type 0
CommandEnds (Plan n lanes) input out note ending = EndsBy (plan_promise n lanes input) input out note ending
CommandEnds Check input out note ending = EndsBy (check_promise input) input out note ending
CommandEnds SiteCommand input out note ending = EndsBy (site_promise input) input out note ending
CommandEnds Judge input out note ending = EndsBy (judge_promise input) input out note ending
CommandEnds Report input out note ending = EndsBy (report_promise input) input out note ending
CommandEnds Migrate input out note ending = ⊥
CommandEnds Rings input out note ending = ⊥
CommandEnds Carry input out note ending = ⊥
CommandEnds (Drill k turbines n) input out note ending = NotUsed input × EndsBy (drill_promise k turbines n) input out note ending
