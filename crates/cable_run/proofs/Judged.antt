-- Sites with layouts that are read, and refusals behind a site.
use Rattle.std.proofs.Common.{◌≡◌, ℕ, zero, suc, ◌+◌, ◌≤◌, ◌<◌, List, [], ◌∷◌, length, Option, Some, inl, ⊎_elim, refl, sym, ap, ◌∙◌, subst, arith}
use Rattle.std.specs.Prelude.{◌-◌, ◌^◌, ◌≤ℤ◌, ℤ, pos, negsuc, nat_abs, IsTrue, Bool, Result, Ok, Err}
use Rattle.std.proofs.lemmas.Bool.{false≢true, cases_lt}
use Rattle.std.proofs.lemmas.Int.{ints}
use Rattle.cable_definitions.specs.declared.cable.Arc.{Arc}
use Rattle.cable_definitions.specs.declared.cable.Cable.{Cable}
use Rattle.cable_definitions.specs.declared.claim.Cause.TheVariants.{Limit}
use Rattle.cable_definitions.specs.Site.{Site, IsValid}
use Rattle.cable_definitions.specs.Text.{site_lines, line_count, Whole}
use Rattle.cable_definitions.specs.declared.site.SiteCode.{SiteCode}
use Rattle.cable_definitions.specs.Items.{Field, within, IsLineFault}
use Rattle.cable_definitions.specs.Refusal.{DocLine, BudgetLine, RowLine, WorkLine, WeightLine, ActLine, LayoutLine, CableLine, ClaimLine, EndLine, Phase, AtJudged, AtAnyCables, Reader, reader_at, is_allowed, after_cable, IsReadable, ReadsLines, IsRefusedAfter, IsJudgeRefused}
use Rattle.cable_definitions.specs.declared.claim.Refusal.{Refusal}
use Rattle.cable_definitions.specs.Stream.{Rose, GivesFront}
use Rattle.cable_text.proofs.Writing.{Rose-after}
use Rattle.proof_text.specs.Reading.{line_number_after, RefusedAfter, IsRefusedHere, IfRefused, IfRead}
use Rattle.site_input.proofs.Forms.{behind, first_fault}
use Rattle.site_model.specs.declared.fault.SiteFault.{SiteFault}
use Rattle.site_model.specs.declared.fault.SiteFault.TheVariants.{Refused as RefusedSite, Read as SiteRead, Memory as SiteMemory}
use Rattle.proof_text.specs.declared.fault.ItemFault.{ItemFault}
use Rattle.proof_text.specs.declared.fault.ItemFault.TheVariants.{Refused as RefusedLine, Read as LineRead}
use Rattle.run_definitions.specs.declared.ending.Ending.TheVariants.{Done}
use Rattle.run_definitions.specs.Effect.{Effect, Faulted, Held, Wrote, WroteFirstPart}
use Rattle.run_definitions.specs.Ends.{IsSiteWithLayout, IsJudgement}
use Rattle.cable_run.specs.declared.fault.Fault.{Fault}
use Rattle.cable_run.specs.declared.fault.Fault.TheVariants.{Write}
use Rattle.cable_run.specs.Faults.{site_fault, line_fault}
use Rattle.cable_run.specs.Steps.{ReadsLayout, JudgeGives}

-- a line may stand where the reader stands
allowed_at : (s : Site) (r : Reader) (text : List ℕ) (l : DocLine) (phase : Phase) → r.phase ≡ phase → IsReadable s r (Whole text) l → IsTrue (is_allowed phase l)
allowed_at s r text l phase e h = subst (λ (p : Phase). IsTrue (is_allowed p l)) e h.line_is.allowed

one_less : (k : ℕ) → suc k - 1 ≡ k
one_less k = omega arith

-- where so many cables are to come, no more lines are read
cables_left : (s : Site) (arcs : List Arc) (r e : Reader) (bytes rest : List ℕ) (ls : List DocLine) (k : ℕ) → r.phase ≡ AtAnyCables k → ReadsLines s arcs r bytes ls e rest → length ls ≤ k
cables_left s arcs r e bytes rest [] k p h = omega arith
cables_left s arcs r e bytes rest (l ∷ ls) zero p h = absurd (none_allowed l (allowed_at s r h.0 l (AtAnyCables 0) p h.4))
  where
    none_allowed : (l : DocLine) → IsTrue (is_allowed (AtAnyCables 0) l) → ⊥
    none_allowed (BudgetLine n) t = false≢true t
    none_allowed (RowLine kind members) t = false≢true t
    none_allowed (WorkLine v k) t = false≢true t
    none_allowed (WeightLine r w) t = false≢true t
    none_allowed (ActLine act) t = false≢true t
    none_allowed (LayoutLine k) t = false≢true t
    none_allowed (CableLine a b t) u = false≢true u
    none_allowed (ClaimLine claim) t = false≢true t
    none_allowed EndLine t = false≢true t
cables_left s arcs r e bytes rest (CableLine a b t ∷ ls) (suc k) p h =
    let c = h.6 in
    omega (arith, cables_left s arcs h.2 e h.1 rest ls k (ap (λ (x : Reader). x.phase) c.2 ∙ ap after_cable p ∙ ap AtAnyCables (one_less k)) h.7)
cables_left s arcs r e bytes rest (BudgetLine n ∷ ls) (suc k) p h = absurd (false≢true (allowed_at s r h.0 (BudgetLine n) (AtAnyCables (suc k)) p h.4))
cables_left s arcs r e bytes rest (RowLine kind members ∷ ls) (suc k) p h = absurd (false≢true (allowed_at s r h.0 (RowLine kind members) (AtAnyCables (suc k)) p h.4))
cables_left s arcs r e bytes rest (WorkLine v n ∷ ls) (suc k) p h = absurd (false≢true (allowed_at s r h.0 (WorkLine v n) (AtAnyCables (suc k)) p h.4))
cables_left s arcs r e bytes rest (WeightLine n w ∷ ls) (suc k) p h = absurd (false≢true (allowed_at s r h.0 (WeightLine n w) (AtAnyCables (suc k)) p h.4))
cables_left s arcs r e bytes rest (ActLine act ∷ ls) (suc k) p h = absurd (false≢true (allowed_at s r h.0 (ActLine act) (AtAnyCables (suc k)) p h.4))
cables_left s arcs r e bytes rest (LayoutLine n ∷ ls) (suc k) p h = absurd (false≢true (allowed_at s r h.0 (LayoutLine n) (AtAnyCables (suc k)) p h.4))
cables_left s arcs r e bytes rest (ClaimLine claim ∷ ls) (suc k) p h = absurd (false≢true (allowed_at s r h.0 (ClaimLine claim) (AtAnyCables (suc k)) p h.4))
cables_left s arcs r e bytes rest (EndLine ∷ ls) (suc k) p h = absurd (false≢true (allowed_at s r h.0 EndLine (AtAnyCables (suc k)) p h.4))

few_cables : (s : Site) (r : Reader) (text : List ℕ) (z : ℤ) → IsReadable s r (Whole text) (LayoutLine z) → nat_abs z ≤ 256
few_cables s r text z h = ⊎_elim (λ many. absurd (h.none_found Limit (h.text, LayoutLine z, h.piece_is, h.line_is, λ limits. too_many z many (limits.0 0 (within_of z) (omega arith))))) (λ few. few) (cases_lt 256 (nat_abs z))
  where
    within_of : ℤ → Field
    within_of z = within (Some z) (pos 0) (pos 256)

    too_many : (z : ℤ) → 256 < nat_abs z → ((x : ℤ) → Some z ≡ Some x → (pos 0 ≤ℤ x) × (x ≤ℤ pos 256)) → ⊥
    too_many (pos n) many h = omega (arith, ints, many, (h (pos n) refl).1)
    too_many (negsuc n) many h = omega (arith, ints, (h (negsuc n) refl).0)

-- behind a site that is judged at most 257 lines are read
judged_lines : (s : Site) (arcs : List Arc) (e : Reader) (bytes rest : List ℕ) (ls : List DocLine) → ReadsLines s arcs (reader_at AtJudged) bytes ls e rest → length ls ≤ 257
judged_lines s arcs e bytes rest [] h = omega arith
judged_lines s arcs e bytes rest (LayoutLine z ∷ ls) h =
    omega (arith, few_cables s (reader_at AtJudged) h.0 z h.4, cables_left s arcs h.2 e h.1 rest ls (nat_abs z) (ap (λ (x : Reader). x.phase) h.6) h.7)
judged_lines s arcs e bytes rest (BudgetLine n ∷ ls) h = absurd (false≢true h.4.line_is.allowed)
judged_lines s arcs e bytes rest (RowLine kind members ∷ ls) h = absurd (false≢true h.4.line_is.allowed)
judged_lines s arcs e bytes rest (WorkLine v n ∷ ls) h = absurd (false≢true h.4.line_is.allowed)
judged_lines s arcs e bytes rest (WeightLine n w ∷ ls) h = absurd (false≢true h.4.line_is.allowed)
judged_lines s arcs e bytes rest (ActLine act ∷ ls) h = absurd (false≢true h.4.line_is.allowed)
judged_lines s arcs e bytes rest (CableLine a b t ∷ ls) h = absurd (false≢true h.4.line_is.allowed)
judged_lines s arcs e bytes rest (ClaimLine claim ∷ ls) h = absurd (false≢true h.4.line_is.allowed)
judged_lines s arcs e bytes rest (EndLine ∷ ls) h = absurd (false≢true h.4.line_is.allowed)

here_after : (s : Site) (arcs : List Arc) (rest : List ℕ) (lines base : ℕ) (x : Refusal) → lines + 1 ≡ base → base ≤ 40000 → IsRefusedHere s (reader_at AtJudged) rest lines x
    → IsRefusedAfter s arcs AtJudged rest base x.line x.cause
here_after s arcs rest lines base x b few h = record {
  read_lines = h.read_lines;
  reader = h.reader;
  left = h.left;
  reads = h.reads arcs;
  piece = h.piece;
  rest = h.rest;
  next = h.next;
  first = inl h.first;
  line_is = omega (arith, h.line_is, b, few, judged_lines s arcs h.reader rest h.left h.read_lines (h.reads arcs));
}

after_of : (s : Site) (middle : Option (List ℕ)) (rest : List ℕ) (lines : ℕ) (x : Refusal) → middle ≡ Some rest → RefusedAfter s (reader_at AtJudged) middle lines x → IsRefusedHere s (reader_at AtJudged) rest lines x
after_of s middle rest lines x e h = subst (λ (m : Option (List ℕ)). RefusedAfter s (reader_at AtJudged) m lines x) e h

-- a refusal behind a site
pub refused_behind_site : (s : Site) (before middle : Option (List ℕ)) (bytes : List ℕ) (lines start : ℕ) (x : Refusal) → IsValid s
    → GivesFront before middle (site_lines s) → before ≡ Some bytes → start ≡ 0 → lines ≡ line_number_after start (line_count (site_lines s)) → line_count (site_lines s) ≤ 34100
    → RefusedAfter s (reader_at AtJudged) middle lines x → IsJudgeRefused bytes x.line x.cause
refused_behind_site s before middle bytes lines start x valid gives told none number few h =
    let b = behind before middle (site_lines s) bytes gives told in
    record {
      site = s;
      rest = b.0;
      front = record { valid = valid; text = b.1 };
      refused = here_after s [] b.0 lines (1 + line_count (site_lines s)) x (omega (arith, none, number, few)) (omega (arith, few)) (after_of s middle b.0 lines x b.2 h);
    }

-- how the faults below end a reading
site_ends : (input : Effect) (fault : SiteFault) (lines : ℕ) (told_ahead : Option (List ℕ)) → lines ≡ 0
    → ((bytes : List ℕ) → Held input bytes → told_ahead ≡ Some bytes)
    → ((bytes : List ℕ) (code : SiteCode) (place : ℕ) (broken : Bool) → told_ahead ≡ Some bytes → lines + 34100 < 2 ^ 64
    → ◌≡◌ {A = Result Site SiteFault} (Err fault) (Err (RefusedSite code place broken)) → IsLineFault bytes (lines + 1) code place broken)
    → (◌≡◌ {A = Result Site SiteFault} (Err fault) (Err SiteRead) → Faulted input) → ReadsLayout input (Err (site_fault fault))
site_ends input (RefusedSite code place broken) lines told_ahead none told refused read =
    λ bytes t. (broken, first_fault lines bytes code place broken none (λ h. refused bytes code place broken (told bytes t) h refl))
site_ends input SiteRead lines told_ahead none told refused read = read refl
site_ends input SiteMemory lines told_ahead none told refused read = tt

pub site_fails : (input : Effect) (answer : Fault) (fault : SiteFault) (lines : ℕ) (told_ahead : Option (List ℕ)) → answer ≡ site_fault fault → lines ≡ 0
    → ((bytes : List ℕ) → Held input bytes → told_ahead ≡ Some bytes)
    → ((bytes : List ℕ) (code : SiteCode) (place : ℕ) (broken : Bool) → told_ahead ≡ Some bytes → lines + 34100 < 2 ^ 64
    → ◌≡◌ {A = Result Site SiteFault} (Err fault) (Err (RefusedSite code place broken)) → IsLineFault bytes (lines + 1) code place broken)
    → (◌≡◌ {A = Result Site SiteFault} (Err fault) (Err SiteRead) → Faulted input) → ReadsLayout input (Err answer)
site_fails input answer fault lines told_ahead is none told refused read =
    subst (λ (f : Fault). ReadsLayout input (Err f)) (sym is) (site_ends input fault lines told_ahead none told refused read)

lines_end : (A : Type 0) (input : Effect) (fault : ItemFault) (s : Site) (before middle : Option (List ℕ)) (lines start : ℕ) → IsValid s
    → GivesFront before middle (site_lines s) → ((bytes : List ℕ) → Held input bytes → before ≡ Some bytes) → start ≡ 0 → lines ≡ line_number_after start (line_count (site_lines s)) → line_count (site_lines s) ≤ 34100
    → IfRefused {A = A} (Err fault) (λ x. RefusedAfter s (reader_at AtJudged) middle lines x) → IfRead {A = A} (Err fault) (Faulted input) → ReadsLayout input (Err (line_fault fault))
lines_end A input (RefusedLine x) s before middle lines start valid gives told none number few h read =
    λ bytes t. refused_behind_site s before middle bytes lines start x valid gives (told bytes t) none number few h
lines_end A input LineRead s before middle lines start valid gives told none number few h read = read

pub lines_fail : (A : Type 0) (input : Effect) (answer : Fault) (fault : ItemFault) (s : Site) (before middle : Option (List ℕ)) (lines start : ℕ) → answer ≡ line_fault fault → IsValid s
    → GivesFront before middle (site_lines s) → ((bytes : List ℕ) → Held input bytes → before ≡ Some bytes) → start ≡ 0 → lines ≡ line_number_after start (line_count (site_lines s)) → line_count (site_lines s) ≤ 34100
    → IfRefused {A = A} (Err fault) (λ x. RefusedAfter s (reader_at AtJudged) middle lines x) → IfRead {A = A} (Err fault) (Faulted input) → ReadsLayout input (Err answer)
lines_fail A input answer fault s before middle lines start is valid gives told none number few h read =
    subst (λ (f : Fault). ReadsLayout input (Err f)) (sym is) (lines_end A input fault s before middle lines start valid gives told none number few h read)

-- a count that rose after the site was read rose in the call
pub faulted_on : (A : Type 0) (fault : ItemFault) (i j k : ℕ) → i ≤ j → j ≤ k → IfRead {A = A} (Err fault) (Rose j k) → IfRead {A = A} (Err fault) (Rose i k)
faulted_on A (RefusedLine x) i j k h l r = r
faulted_on A LineRead i j k h l r = Rose-after i j k h r

-- the answer on a layout, whole or in part
pub judgement_written : (input out : Effect) (s : Site) (cables : List Cable) (text : List ℕ) → IsSiteWithLayout input s cables → IsJudgement s cables text → Wrote out text → JudgeGives input out (Ok Done)
judgement_written input out s cables text read answer wrote = (tt, (refl, (text, (s, cables, read, answer), wrote)))

pub judgement_begun : (input out : Effect) (s : Site) (cables : List Cable) (text : List ℕ) → IsSiteWithLayout input s cables → IsJudgement s cables text → Faulted out → WroteFirstPart out text
    → JudgeGives input out (Err Write)
judgement_begun input out s cables text read answer failed part = (failed, (text, (s, cables, read, answer), part))
