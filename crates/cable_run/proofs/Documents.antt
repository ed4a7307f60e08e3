-- Documents that are accepted, and refusals of what is none.
use Rattle.std.proofs.Common.{◌≡◌, ℕ, ◌+◌, ◌≤◌, ◌<◌, List, [], ◌∷◌, ◌++◌, length, map, Option, Some, inl, inr, refl, sym, ap, ◌∙◌, subst, append_assoc, arith, codes}
use Rattle.std.specs.Prelude.{◌^◌, All, Bool, Result, Ok, Err}
use Rattle.std.specs.List.{concat}
use Rattle.std.specs.Fmt.{decimal}
use Rattle.std.proofs.lemmas.List.Elements.{All-nil}
use Rattle.cable_definitions.specs.declared.cable.Cable.{Cable}
use Rattle.cable_definitions.specs.declared.cable.Arc.{Arc}
use Rattle.cable_definitions.specs.declared.claim.Claim.{Claim}
use Rattle.cable_definitions.specs.declared.claim.Claim.TheVariants.{Optimal, Gap, Partial, Infeasible}
use Rattle.cable_definitions.specs.declared.site.SiteCode.{SiteCode}
use Rattle.cable_definitions.specs.Site.{Site, IsValid}
use Rattle.cable_definitions.specs.Arcs.{AreArcs}
use Rattle.cable_definitions.specs.Tree.{Item, LayoutAgrees}
use Rattle.cable_definitions.specs.Text.{line, item_lines, cable_line, claim_line, site_lines, line_count, document_text}
use Rattle.cable_definitions.specs.Items.{IsLineFault}
use Rattle.cable_definitions.specs.Document.{IsAcceptedDocument}
use Rattle.cable_definitions.specs.Refusal.{AtBudget, IsRefusedAfter, IsRefusedBehind}
use Rattle.cable_definitions.specs.Report.{report_text}
use Rattle.cable_definitions.specs.Answers.{yes_line}
use Rattle.cable_definitions.specs.declared.claim.Refusal.{Refusal}
use Rattle.cable_definitions.specs.Stream.{GivesFront, IsAtEnd}
use Rattle.site_text.specs.Reading.{lines_after}
use Rattle.site_input.proofs.Forms.{behind, first_fault}
use Rattle.site_model.specs.declared.fault.SiteFault.{SiteFault}
use Rattle.site_model.specs.declared.fault.SiteFault.TheVariants.{Refused as RefusedSite, Read as SiteRead, Memory as SiteMemory}
use Rattle.proof_laws.proofs.FullLemma.{within-turbine}
use Rattle.proof_laws.proofs.Sound.{says-document}
use Rattle.plan_report.specs.Reported.{IsReported}
use Rattle.site_text.specs.Verdict.{NamesPoint}
use Rattle.plan_report.proofs.Legal.{legal_reported, grown_reported}
use Rattle.document_check.specs.declared.document.Accepted.{Accepted}
use Rattle.document_check.specs.declared.document.DocumentFault.{DocumentFault}
use Rattle.document_check.specs.declared.document.DocumentFault.TheVariants.{Refused as RefusedDocument, Read as DocumentRead, Memory as DocumentMemory}
use Rattle.document_check.specs.Behind.{text_behind, IsAcceptedBehind}
use Rattle.document_check.specs.Progress.{IfRefused}
use Rattle.cable_run.specs.declared.fault.Fault.{Fault}
use Rattle.cable_run.specs.declared.fault.Fault.TheVariants.{Write}
use Rattle.run_definitions.specs.declared.ending.Ending.TheVariants.{Done}
use Rattle.run_definitions.specs.Effect.{Effect, Faulted, Held, Wrote, WroteFirstPart}
use Rattle.run_definitions.specs.Ends.{IsChecked, IsReport}
use Rattle.cable_run.specs.Faults.{fault_in_document, document_fault}
use Rattle.cable_run.specs.Steps.{ReadsDocument, CheckGives, ReportGives}

-- a document is the lines of its site and the text behind it
site_in_front : (s : Site) (n : ℕ) (items : List Item) (cables : List Cable) (claim : Claim) → site_lines s ++ text_behind s n items cables claim ≡ document_text s n items cables claim
site_in_front s n items cables claim =
    parts (site_lines s) (line (codes "budget" ∷ decimal n ∷ [])) (concat (map item_lines items)) (line (codes "layout" ∷ decimal (length cables) ∷ [])) (concat (map (cable_line s) cables)) (claim_line s claim)
    (line (codes "end" ∷ codes "document" ∷ []))
  where
    parts : (a b c d e f g : List ℕ) → a ++ (b ++ c ++ d ++ e ++ f ++ g) ≡ a ++ b ++ c ++ d ++ e ++ f ++ g
    parts a b c d e f g = simp append_assoc

-- the document of a site and of what is accepted behind it
yes_behind : (s : Site) (middle : Option (List ℕ)) (cables : List Cable) (claim : Claim) → IsValid s → (h : IsAcceptedBehind s middle cables claim)
    → IsAcceptedDocument (document_text s h.budget h.items cables claim) s claim
yes_behind s middle cables claim valid h = record {
  arcs = h.arcs;
  budget = h.budget;
  items = h.items;
  cables = cables;
  kept = h.state;
  valid = valid;
  are_arcs = h.are_arcs;
  is_budget = h.is_budget;
  text = refl;
  in_order = h.in_order;
  accepted = h.accepted;
  in_range = h.in_range;
  agrees = h.agrees;
}

-- the bytes that are told are that document
bytes_are : (s : Site) (before middle : Option (List ℕ)) (cables : List Cable) (claim : Claim) (told : List ℕ) → GivesFront before middle (site_lines s) → (h : IsAcceptedBehind s middle cables claim)
    → before ≡ Some told → told ≡ document_text s h.budget h.items cables claim
bytes_are s before middle cables claim told gives h is =
    let b = behind before middle (site_lines s) told gives is in
    b.1 ∙ ap (λ (rest : List ℕ). site_lines s ++ rest) (h.text b.0 b.2) ∙ site_in_front s h.budget h.items cables claim

-- a site that is read, and what is accepted behind it
pub document_checked : (input : Effect) (s : Site) (before middle : Option (List ℕ)) (accepted : Accepted) → IsValid s → GivesFront before middle (site_lines s)
    → ((bytes : List ℕ) → Held input bytes → before ≡ Some bytes) → IsAcceptedBehind s middle accepted.layout accepted.claim → IsAtEnd input.after.bytes → ReadsDocument input (Ok (s, accepted))
unfolding yes_behind
document_checked input s before middle accepted valid gives told h ended =
    let yes = yes_behind s middle accepted.layout accepted.claim valid h in (
      record {
        bytes = document_text s h.budget h.items accepted.layout accepted.claim;
        document = yes;
        read = λ bytes t. bytes_are s before middle accepted.layout accepted.claim bytes gives h (told bytes t);
        whole = ended;
        says = says-document (document_text s h.budget h.items accepted.layout accepted.claim) s accepted.claim yes;
      },
      refl,
    )

-- how the fault of a site ends the reading of a document
fault_ends : (input : Effect) (fault : SiteFault) (lines : ℕ) (before : Option (List ℕ)) → lines ≡ 0 → ((bytes : List ℕ) → Held input bytes → before ≡ Some bytes)
    → ((bytes : List ℕ) (code : SiteCode) (place : ℕ) (broken : Bool) → before ≡ Some bytes → lines + 34100 < 2 ^ 64
    → ◌≡◌ {A = Result Site SiteFault} (Err fault) (Err (RefusedSite code place broken)) → IsLineFault bytes (lines + 1) code place broken)
    → (◌≡◌ {A = Result Site SiteFault} (Err fault) (Err SiteRead) → Faulted input) → ReadsDocument input (Err (fault_in_document fault))
fault_ends input (RefusedSite code place broken) lines before none told refused read =
    λ bytes t. inl (record { code = code; broken_line = broken; fault = first_fault lines bytes code place broken none (λ few. refused bytes code place broken (told bytes t) few refl); cause_is = refl })
fault_ends input SiteRead lines before none told refused read = read refl
fault_ends input SiteMemory lines before none told refused read = tt

pub site_fails : (input : Effect) (fault : SiteFault) (answer : Fault) (lines : ℕ) (before : Option (List ℕ)) → answer ≡ fault_in_document fault → lines ≡ 0
    → ((bytes : List ℕ) → Held input bytes → before ≡ Some bytes)
    → ((bytes : List ℕ) (code : SiteCode) (place : ℕ) (broken : Bool) → before ≡ Some bytes → lines + 34100 < 2 ^ 64
    → ◌≡◌ {A = Result Site SiteFault} (Err fault) (Err (RefusedSite code place broken)) → IsLineFault bytes (lines + 1) code place broken)
    → (◌≡◌ {A = Result Site SiteFault} (Err fault) (Err SiteRead) → Faulted input) → ReadsDocument input (Err answer)
site_fails input fault answer lines before is none told refused read = subst (λ (f : Fault). ReadsDocument input (Err f)) (sym is) (fault_ends input fault lines before none told refused read)

-- a refusal behind a site
refused_behind_site : (s : Site) (arcs : List Arc) (before middle : Option (List ℕ)) (bytes : List ℕ) (lines start : ℕ) (x : Refusal) → IsValid s → AreArcs s arcs → GivesFront before middle (site_lines s)
    → before ≡ Some bytes → start ≡ 0 → lines ≡ lines_after start (line_count (site_lines s)) → line_count (site_lines s) ≤ 34100
    → ((rest : List ℕ) → middle ≡ Some rest → lines + 60000000 < 2 ^ 64 → IsRefusedAfter s arcs AtBudget rest (lines + 1) x.line x.cause) → IsRefusedBehind bytes 1 x.line x.cause
refused_behind_site s arcs before middle bytes lines start x valid are gives told none number few h =
    let b = behind before middle (site_lines s) bytes gives told in
    let same : lines + 1 ≡ 1 + line_count (site_lines s) = omega (arith, none, number, few) in
    record {
      site = s;
      rest = b.0;
      front = record { valid = valid; text = b.1 };
      arcs = arcs;
      are_arcs = are;
      refused = subst (λ (base : ℕ). IsRefusedAfter s arcs AtBudget b.0 base x.line x.cause) same (h b.0 b.2 (omega (arith, none, number, few)));
    }

-- how the fault of a document behind its site ends the reading
fault_behind_ends : (input : Effect) (fault : DocumentFault) (s : Site) (before middle : Option (List ℕ)) (lines start : ℕ) → IsValid s → GivesFront before middle (site_lines s)
    → ((bytes : List ℕ) → Held input bytes → before ≡ Some bytes) → start ≡ 0 → lines ≡ lines_after start (line_count (site_lines s)) → line_count (site_lines s) ≤ 34100
    → ((x : Refusal) (rest : List ℕ) (others : List Arc) → ◌≡◌ {A = Result Accepted DocumentFault} (Err fault) (Err (RefusedDocument x)) → middle ≡ Some rest → AreArcs s others
    → lines + 60000000 < 2 ^ 64 → IsRefusedAfter s others AtBudget rest (lines + 1) x.line x.cause)
    → IfRefused {A = Accepted} (Err fault) (λ x. (arcs : List Arc) × AreArcs s arcs)
    → (◌≡◌ {A = Result Accepted DocumentFault} (Err fault) (Err DocumentRead) → Faulted input) → ReadsDocument input (Err (document_fault fault))
fault_behind_ends input (RefusedDocument x) s before middle lines start valid gives told none number few refused (arcs, are) read =
    λ bytes t. inr (refused_behind_site s arcs before middle bytes lines start x valid are gives (told bytes t) none number few (λ rest is small. refused x rest arcs refl is are small))
fault_behind_ends input DocumentRead s before middle lines start valid gives told none number few refused listed read = read refl
fault_behind_ends input DocumentMemory s before middle lines start valid gives told none number few refused listed read = tt

pub document_fails : (input : Effect) (fault : DocumentFault) (answer : Fault) (s : Site) (before middle : Option (List ℕ)) (lines start : ℕ) → answer ≡ document_fault fault
    → IsValid s → GivesFront before middle (site_lines s)
    → ((bytes : List ℕ) → Held input bytes → before ≡ Some bytes) → start ≡ 0 → lines ≡ lines_after start (line_count (site_lines s)) → line_count (site_lines s) ≤ 34100
    → ((x : Refusal) (rest : List ℕ) (others : List Arc) → ◌≡◌ {A = Result Accepted DocumentFault} (Err fault) (Err (RefusedDocument x)) → middle ≡ Some rest → AreArcs s others
    → lines + 60000000 < 2 ^ 64 → IsRefusedAfter s others AtBudget rest (lines + 1) x.line x.cause)
    → IfRefused {A = Accepted} (Err fault) (λ x. (arcs : List Arc) × AreArcs s arcs)
    → (◌≡◌ {A = Result Accepted DocumentFault} (Err fault) (Err DocumentRead) → Faulted input) → ReadsDocument input (Err answer)
document_fails input fault answer s before middle lines start is valid gives told none number few refused listed read =
    subst (λ (f : Fault). ReadsDocument input (Err f)) (sym is) (fault_behind_ends input fault s before middle lines start valid gives told none number few refused listed read)

-- the cables of a document can be reported
cables_reported : (s : Site) (cables : List Cable) (claim : Claim) → LayoutAgrees s cables claim → All (IsReported s cables) cables
cables_reported s cables (Optimal c) h = legal_reported s cables h.0
cables_reported s cables (Gap c b) h = legal_reported s cables h.0
cables_reported s cables (Partial b stuck) h = grown_reported s cables h.grown
cables_reported s cables Infeasible h = subst (λ (xs : List Cable). All (IsReported s xs) xs) (sym h) (All-nil (IsReported s []))

pub document_reported : (input : Effect) (s : Site) (cables : List Cable) (claim : Claim) (checked : IsChecked input s claim) → checked.document.cables ≡ cables → All (IsReported s cables) cables
document_reported input s cables claim checked same =
    let document = checked.document in
    subst (λ (xs : List Cable). All (IsReported s xs) xs) same (cables_reported s document.cables claim document.agrees.0)

-- a turbine that its claim names is a point of the site
claim_reported : (s : Site) (cables : List Cable) (claim : Claim) → LayoutAgrees s cables claim → NamesPoint s claim
claim_reported s cables (Optimal c) h = tt
claim_reported s cables (Gap c b) h = tt
claim_reported s cables (Partial b stuck) h = within-turbine s stuck h.turbine_is
claim_reported s cables Infeasible h = tt

pub document_named : (input : Effect) (s : Site) (claim : Claim) → IsChecked input s claim → NamesPoint s claim
document_named input s claim checked = let document = checked.document in claim_reported s document.cables claim document.agrees.0

-- the yes to a document that is accepted, whole or in part
pub yes_written : (input out : Effect) (s : Site) (claim : Claim) → IsChecked input s claim → Wrote out (yes_line claim) → CheckGives input out (Ok Done)
yes_written input out s claim checked wrote = (tt, (refl, (yes_line claim, (s, claim, checked, refl), wrote)))

pub yes_begun : (input out : Effect) (s : Site) (claim : Claim) → IsChecked input s claim → Faulted out → WroteFirstPart out (yes_line claim) → CheckGives input out (Err Write)
yes_begun input out s claim checked failed part = (failed, (yes_line claim, (s, claim, checked, refl), part))

-- the report of a document that is accepted, whole or in part
is_report : (input : Effect) (s : Site) (cables : List Cable) (claim : Claim) (checked : IsChecked input s claim) → checked.document.cables ≡ cables → IsReport input (report_text s cables claim)
is_report input s cables claim checked same = (s, claim, checked, ap (λ (xs : List Cable). report_text s xs claim) (sym same))

pub report_written : (input out : Effect) (s : Site) (cables : List Cable) (claim : Claim) (checked : IsChecked input s claim) → checked.document.cables ≡ cables → Wrote out (report_text s cables claim)
    → ReportGives input out (Ok Done)
report_written input out s cables claim checked same wrote = (tt, (refl, (report_text s cables claim, is_report input s cables claim checked same, wrote)))

pub report_begun : (input out : Effect) (s : Site) (cables : List Cable) (claim : Claim) (checked : IsChecked input s claim) → checked.document.cables ≡ cables → Faulted out
    → WroteFirstPart out (report_text s cables claim) → ReportGives input out (Err Write)
report_begun input out s cables claim checked same failed part = (failed, (report_text s cables claim, is_report input s cables claim checked same, part))
