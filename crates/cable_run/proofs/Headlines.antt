-- From how a command ends to what is promised of it.
use Rattle.std.proofs.Common.{◌≡◌, ℕ, List, refl, sym, ◌∙◌, subst, ⊎_elim}
use Rattle.cable_definitions.specs.declared.cable.Cable.{Cable}
use Rattle.cable_definitions.specs.declared.claim.Cause.{Cause}
use Rattle.cable_definitions.specs.declared.claim.Claim.{Claim}
use Rattle.cable_definitions.specs.declared.claim.Claim.TheVariants.{Optimal, Gap, Partial, Infeasible}
use Rattle.cable_definitions.specs.declared.command.Command.{Command}
use Rattle.cable_definitions.specs.declared.command.Command.TheVariants.{Plan, Check, Site as SiteCommand, Migrate, Judge, Report, Rings, Carry, Drill}
use Rattle.cable_definitions.specs.declared.site.SiteCode.{SiteCode}
use Rattle.cable_definitions.specs.Site.{Site}
use Rattle.cable_definitions.specs.Tree.{Says, LayoutAgrees}
use Rattle.cable_definitions.specs.Text.{site_lines}
use Rattle.cable_definitions.specs.Document.{IsAcceptedDocument}
use Rattle.cable_definitions.specs.Refusal.{IsSiteWithCables}
use Rattle.cable_definitions.specs.Answers.{yes_line}
use Rattle.site_json.proofs.Excluding.{site_same as one_site, site_no_fault as no_plan_fault, front_same as one_front, front_no_fault as no_front_fault}
use Rattle.site_laws.proofs.Fronts.{no_fault_in_front}
use Rattle.document_laws.proofs.Yes.{yes-same, yes-stands}
use Rattle.document_laws.proofs.Judged.{judged-same, judged-stands}
use Rattle.document_laws.proofs.WholeRead.{behind_site, document_parts}
use Rattle.run_definitions.specs.declared.ending.Ending.{Ending}
use Rattle.run_definitions.specs.declared.ending.Ending.TheVariants.{Done, Usage, SiteRefused, Gap as EndsInGap, Partial as EndsOpen, Infeasible as EndsInfeasible, DocumentRefused, ReadFault, WriteFault, Memory}
use Rattle.run_definitions.specs.Bytes.{IsSiteOf, IsFrontSite}
use Rattle.run_definitions.specs.Words.{AsksFor}
use Rattle.run_definitions.specs.Effect.{Effect, Held, Wrote, RanWell}
use Rattle.run_definitions.specs.Plan.{IsPlan}
use Rattle.run_definitions.specs.Yes.{IsReached, IsTrueYes}
use Rattle.run_definitions.specs.Ends.{Promise, EndsBy, plan_promise, check_promise, site_promise, judge_promise, report_promise, drill_promise, NotUsed, WritesSummary, PrintsPlanOf, IsChecked, IsJudgement, IsReport, CommandEnds}
use Rattle.cable_run.specs.Steps.{IsObeyed}
use Rattle.cable_run.proofs.Asked.{one_command}

-- where no stream failed, memory did not run out, and the input can't be refused, the work is done
done_well : (promise : Promise) (input out note : Effect) (ending : Ending) → EndsBy promise input out note ending → RanWell input out note ending
    → ((code : SiteCode) (place : ℕ) → promise.no_site code place → ⊥) → ((line : ℕ) (cause : Cause) → promise.no_document line cause → ⊥) → promise.does ending out
done_well promise input out note Done h r s d = h.0
done_well promise input out note EndsInGap h r s d = h.0
done_well promise input out note EndsOpen h r s d = h.0
done_well promise input out note EndsInfeasible h r s d = h.0
done_well promise input out note Usage h r s d = absurd h
done_well promise input out note SiteRefused h r s d = absurd (s h.1.code h.1.place h.1.refused)
done_well promise input out note DocumentRefused h r s d = absurd (d h.1.line h.1.cause h.1.refused)
done_well promise input out note ReadFault h r s d = absurd (r.input_held h.0)
done_well promise input out note WriteFault h r s d =
    absurd (⊎_elim (λ of_out. r.out_held of_out.0) (λ of_note. ⊎_elim (λ x. r.note_held x.note.failed) (λ x. r.note_held x.note.failed) of_note.1) h)
done_well promise input out note Memory h r s d = absurd (r.memory_held refl)

-- ---- plan
pub promise_of : (n lanes : ℕ) (bytes : List ℕ) (s : Site) (input out note : Effect) (ending : Ending) → EndsBy (plan_promise n lanes input) input out note ending → Held input bytes
    → IsSiteOf bytes s → RanWell input out note ending → PrintsPlanOf s n lanes input out ending
promise_of n lanes bytes s input out note ending h b a r =
    let did = done_well (plan_promise n lanes input) input out note ending h r (λ code place fault. no_plan_fault bytes s code place a (fault bytes b)) (λ line cause none. none) in
    let printed = did.1 in
    let same : printed.site ≡ s = one_site bytes printed.site s (printed.read.read bytes b) a in
    record {
      printed = printed.printed;
      claim = did.0;
      plan = subst (λ (u : Site). IsPlan u n lanes printed.printed did.0) same printed.plan;
      wrote = printed.wrote;
      ends = did.2;
      whole = printed.read.whole;
    }

-- ---- check
said : (s t : Site) (claim other : Claim) (out : Effect) (text : List ℕ) → t ≡ s → other ≡ claim → text ≡ yes_line other → Wrote out text → Says t other
    → Wrote out (yes_line claim) × Says s claim
said s t claim other out text same one is wrote says =
    (subst (λ (c : Claim). Wrote out (yes_line c)) one (subst (λ (x : List ℕ). Wrote out x) is wrote), subst (λ (u : Site). Says u claim) same (subst (λ (c : Claim). Says t c) one says))

read_as : (bytes other : List ℕ) (s : Site) (claim : Claim) → bytes ≡ other → IsAcceptedDocument other s claim → IsAcceptedDocument bytes s claim
read_as bytes other s claim e y = subst (λ (b : List ℕ). IsAcceptedDocument b s claim) (sym e) y

pub yes_of : (bytes : List ℕ) (s : Site) (claim : Claim) (input out note : Effect) (ending : Ending) → EndsBy (check_promise input) input out note ending → Held input bytes → IsAcceptedDocument bytes s claim
    → RanWell input out note ending → (ending ≡ Done) × Wrote out (yes_line claim) × Says s claim
yes_of bytes s claim input out note ending h b y r =
    let did = done_well (check_promise input) input out note ending h r (λ code place none. none) (λ line cause refused. yes-stands bytes s claim 1 line cause y (refused bytes b)) in
    let answer = did.1.1 in
    let t : Site = answer.0 in
    let other : Claim = answer.1 in
    let checked : IsChecked input t other = answer.2 in
    let same = yes-same bytes t s other claim (read_as bytes checked.bytes t other (checked.read bytes b) checked.document) y in
    let told = said s t claim other out did.1.0 same.sites same.claims answer.3 did.1.2 checked.says in
    (did.0, told.0, told.1)

reached_by : (s : Site) (cables : List Cable) (claim : Claim) → LayoutAgrees s cables claim → IsReached s claim
reached_by s cables (Optimal c) h = (cables, h.0, h.1)
reached_by s cables (Gap c b) h = (cables, h.0, h.1)
reached_by s cables (Partial b stuck) h = tt
reached_by s cables Infeasible h = tt

true_yes : (bytes : List ℕ) (input out : Effect) (s : Site) (claim : Claim) (text : List ℕ) → IsChecked input s claim → text ≡ yes_line claim → Wrote out text → Held input bytes → IsTrueYes bytes out
true_yes bytes input out s claim text checked is wrote b =
    let y : IsAcceptedDocument checked.bytes s claim = checked.document in
    record {
      site = s;
      rest = behind_site s y.budget y.items y.cables claim;
      front = record { valid = y.valid; text = checked.read bytes b ∙ y.text ∙ document_parts s y.budget y.items y.cables claim };
      claim = claim;
      written = subst (λ (x : List ℕ). Wrote out x) is wrote;
      says = checked.says;
      reached = reached_by s y.cables claim y.agrees.0;
    }

-- a `Done` is a true yes
pub bound_of : (bytes : List ℕ) (input out note : Effect) (ending : Ending) → EndsBy (check_promise input) input out note ending → Held input bytes → ending ≡ Done → IsTrueYes bytes out
bound_of bytes input out note ending h b e =
    let ended : EndsBy (check_promise input) input out note Done = subst (EndsBy (check_promise input) input out note) e h in
    let did = ended.0 in
    let answer = did.1.1 in
    true_yes bytes input out answer.0 answer.1 did.1.0 answer.2 answer.3 did.1.2 b

-- ---- site
pub lines_of : (bytes : List ℕ) (s : Site) (input out note : Effect) (ending : Ending) → EndsBy (site_promise input) input out note ending → Held input bytes → IsFrontSite bytes s
    → RanWell input out note ending → (ending ≡ Done) × Wrote out (site_lines s)
lines_of bytes s input out note ending h b f r =
    let did = done_well (site_promise input) input out note ending h r (λ code place fault. no_front_fault bytes s code place f (fault bytes b)) (λ line cause none. none) in
    let answer = did.1.1 in
    let t : Site = answer.0 in
    let same : t ≡ s = one_front bytes t s (answer.1.read bytes b) f in
    (did.0, subst (λ (u : Site). Wrote out (site_lines u)) same (subst (λ (x : List ℕ). Wrote out x) answer.2 did.1.2))

-- ---- judge
judged_as : (s t : Site) (cables others : List Cable) (text : List ℕ) → t ≡ s → others ≡ cables → IsJudgement t others text → IsJudgement s cables text
judged_as s t cables others text same one j =
    subst (λ (u : Site). IsJudgement u cables text) same (subst (λ (c : List Cable). IsJudgement t c text) one j)

pub judgement_of : (bytes : List ℕ) (s : Site) (cables : List Cable) (input out note : Effect) (ending : Ending) → EndsBy (judge_promise input) input out note ending → Held input bytes
    → IsSiteWithCables bytes s cables → RanWell input out note ending → (ending ≡ Done) × ((text : List ℕ) × IsJudgement s cables text × Wrote out text)
judgement_of bytes s cables input out note ending h b j r =
    let did = done_well (judge_promise input) input out note ending h r
    (λ code place refused. let fault = refused bytes b in no_fault_in_front bytes j.rest s 1 code place fault.0 j.front fault.1)
    (λ line cause refused. judged-stands bytes s cables line cause j (refused bytes b)) in
    let answer = did.1.1 in
    let same = judged-same bytes answer.0 s answer.1 cables (answer.2.read bytes b) j in
    (did.0, (did.1.0, judged_as s answer.0 cables answer.1 did.1.0 same.sites same.lists answer.3, did.1.2))

-- ---- report
pub report_of : (bytes : List ℕ) (s : Site) (claim : Claim) (input out note : Effect) (ending : Ending) → EndsBy (report_promise input) input out note ending → Held input bytes → IsAcceptedDocument bytes s claim
    → RanWell input out note ending → (ending ≡ Done) × ((text : List ℕ) × IsReport input text × Wrote out text)
report_of bytes s claim input out note ending h b y r =
    let did = done_well (report_promise input) input out note ending h r (λ code place none. none) (λ line cause refused. yes-stands bytes s claim 1 line cause y (refused bytes b)) in
    (did.0, did.1)

-- ---- drill
pub summary_of : (k turbines n : ℕ) (input out note : Effect) (ending : Ending) → NotUsed input × EndsBy (drill_promise k turbines n) input out note ending → RanWell input out note ending
    → NotUsed input × WritesSummary k turbines n out ending
summary_of k turbines n input out note ending h r = (h.0, done_well (drill_promise k turbines n) input out note ending h.1 r (λ code place none. none) (λ line cause none. none))

-- ---- words
-- the words ask for a command that can be obeyed
pub obeyed : (words : List (List ℕ)) (command : Command) → AsksFor words command → IsObeyed command
obeyed words (Plan n lanes) b = (b.0, b.1)
obeyed words Check b = tt
obeyed words SiteCommand b = tt
obeyed words Migrate b = b
obeyed words Judge b = tt
obeyed words Report b = tt
obeyed words Rings b = b
obeyed words Carry b = b
obeyed words (Drill k turbines n) b = (b.1, b.2, b.3)

-- words are at most one command, so a command ends as the words say
pub ends_as : (words : List (List ℕ)) (command other : Command) (input out note : Effect) (ending : Ending) → AsksFor words command → AsksFor words other
    → CommandEnds command input out note ending → CommandEnds other input out note ending
ends_as words command other input out note ending b e h = subst (λ (c : Command). CommandEnds c input out note ending) (one_command words command other b e) h

-- a command that is known never ends as words that are none
pub not_usage : (command : Command) (input out note : Effect) → CommandEnds command input out note Usage → ⊥
not_usage (Plan n lanes) input out note h = h
not_usage Check input out note h = h
not_usage SiteCommand input out note h = h
not_usage Judge input out note h = h
not_usage Report input out note h = h
not_usage Migrate input out note h = h
not_usage Rings input out note h = h
not_usage Carry input out note h = h
not_usage (Drill k turbines n) input out note h = h.1
