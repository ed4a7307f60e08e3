-- What each stage of the check of a document does, over plain variables.
use Rattle.std.proofs.Common.{◌≡◌, ℕ, zero, suc, ◌+◌, ◌≤◌, ◌<◌, pos, List, [], ◌∷◌, ◌++◌, length, map, codes, Option, Some, None, Result, Ok, Err, refl, sym, ap, ◌∙◌, subst, arith, true}
use Rattle.std.specs.Prelude.{AllPairs, IfNone}
use Rattle.std.specs.List.{concat}
use Rattle.std.specs.Fmt.{decimal}
use Rattle.std.proofs.lemmas.List.{append-nil, length-append}
use Rattle.cable_definitions.specs.declared.cable.Cable.{Cable}
use Rattle.cable_definitions.specs.declared.cable.Arc.{Arc as CandidateArc}
use Rattle.cable_definitions.specs.declared.row.RowKind.{RowKind}
use Rattle.cable_definitions.specs.declared.claim.Claim.{Claim}
use Rattle.cable_definitions.specs.declared.claim.Cause.{Cause}
use Rattle.cable_definitions.specs.Site.{Site, IsValid}
use Rattle.cable_definitions.specs.Arcs.{AreArcs}
use Rattle.cable_definitions.specs.Command.{IsBudget}
use Rattle.cable_definitions.specs.Document.{IsClaimInRange}
use Rattle.cable_definitions.specs.Text.{line, cable_line, claim_line}
use Rattle.cable_definitions.specs.Tree.{Item, RowItem, WorkItem, ProofState, empty_state, Accepts, Agrees}
use Rattle.cable_definitions.specs.Refusal.{BudgetLine, LayoutLine, EndLine, RawClaim, ClaimLine, AtBudget, AtItem, AtCables, AtLast, Past, Reader, reader_at, IsRowRefused, IsWorkRefused, IsClaimOf, IsClaimRefused}
use Rattle.cable_definitions.specs.declared.claim.Refusal.{Refusal}
use Rattle.node_works.specs.declared.work.Work.{Work}
use Rattle.cable_definitions.specs.Stream.{GivesFront, IsAtEnd}
use Rattle.cable_text.specs.Lines.{to_come}
use Rattle.cable_text.specs.declared.fault.LineFault.{LineFault}
use Rattle.document_laws.proofs.ArcsOnce.{arcs-same}
use Rattle.proof_text.specs.declared.fault.ItemFault.{ItemFault}
use Rattle.proof_text.specs.declared.fault.ItemFault.TheVariants.{Refused as RefusedItem, Read as ReadItem}
use Rattle.proof_text.specs.declared.items.Next.{Next}
use Rattle.proof_text.specs.declared.items.Next.TheVariants.{Row as NextRow, Work as NextWork, Layout as NextLayout}
use Rattle.proof_text.specs.Reading.{line_number_after, ReadsTo, ReadsDocLine, RefusedAfter, IsAtOf, IfRefused as IfItemRefused}
use Rattle.proof_text.specs.Items.{ItemsState, ReadsRow, ReadsWork, ReadsNext}
use Rattle.proof_text.specs.Cables.{ReadsCables, cables_left}
use Rattle.proof_checker.specs.State.{CheckerState, Refuses}
use Rattle.document_check.specs.declared.document.DocumentFault.{DocumentFault}
use Rattle.document_check.specs.declared.document.DocumentFault.TheVariants.{Refused, Read, Memory}
use Rattle.document_check.specs.Behind.{IsAcceptedBehind}
use Rattle.document_check.specs.Feeding.{fault_from, FeedsItems, FeedsToLayout, FeedsNext}
use Rattle.document_check.specs.Progress.{HasCome, HasRead, IsRefusedFrom, ReadsOn, RefusesOn, OfRefusal, IfRefused, state, items_text, text_to_layout}
use Rattle.document_check.proofs.Onward.{from_of, come_first, read_on, refused_reading, row_on, row_refused, work_on, work_refused, claim_on, claim_refused}

-- the text from the budget to the cables
abbrev pub cables_text : Site → ℕ → ℕ → List Cable → List Item → List ℕ
cables_text s n count cables items = text_to_layout n count items ++ concat (map (cable_line s) cables)

-- ---- faults
-- what holds where nothing was kept
pub at_none : {A P : Type 0} → (kept : Option A) → kept ≡ None → IfNone kept P → P
at_none None e h = h
at_none (Some a) e h = absurd (cc)

pub pass_refusal : (A : Type 0) (fault : ItemFault) (other : DocumentFault) → other ≡ fault_from fault → (P Q : Refusal → Type 0) → ((refusal : Refusal) → P refusal → Q refusal) → IfItemRefused {A = A} (Err fault) P → OfRefusal other Q
pass_refusal A (RefusedItem refusal) other e P Q turn h = let R : DocumentFault → Type 0 = λ f. OfRefusal f Q in subst R (sym e) (turn refusal h)
pass_refusal A ReadItem other e P Q turn h = let R : DocumentFault → Type 0 = λ f. OfRefusal f Q in subst R (sym e) tt

-- the same where no fault was kept before
pub pass_first : (A : Type 0) (kept : Option ItemFault) (fault : ItemFault) (other : DocumentFault) → kept ≡ None → other ≡ fault_from fault → (P Q : Refusal → Type 0) → ((refusal : Refusal) → P refusal → Q refusal)
    → IfNone kept (IfItemRefused {A = A} (Err fault) P) → OfRefusal other Q
pass_first A kept fault other none e P Q turn h = pass_refusal A fault other e P Q turn (at_none kept none h)

-- what holds of every refusal holds of this one
pub of_any : {A : Type 0} → (result : Result A DocumentFault) (P : Refusal → Type 0) → ((refusal : Refusal) → P refusal) → IfRefused result P
of_any (Ok a) P h = tt
of_any (Err (Refused refusal)) P h = h refusal
of_any (Err Read) P h = tt
of_any (Err Memory) P h = tt

pub turn_refusal : (fault : DocumentFault) (P Q : Refusal → Type 0) → ((refusal : Refusal) → P refusal → Q refusal) → OfRefusal fault P → OfRefusal fault Q
turn_refusal (Refused refusal) P Q turn h = turn refusal h
turn_refusal Read P Q turn h = tt
turn_refusal Memory P Q turn h = tt

pub err_refused : {A : Type 0} → (result : Result A DocumentFault) (fault : DocumentFault) (Q : Refusal → Type 0) → result ≡ Err fault → OfRefusal fault Q → IfRefused result Q
err_refused {A = A} result fault Q e h = let P : Result A DocumentFault → Type 0 = λ r. IfRefused r Q in subst P (sym e) h

-- ---- the budget
pub begun : (s : Site) (arcs : List CandidateArc) (before after : Option (List ℕ)) (old new n budget : ℕ) (kept : ProofState) → budget ≡ n → kept ≡ empty_state
    → ((s : Site) (r : Reader) → r.phase ≡ AtBudget → ReadsTo s r before after (BudgetLine (pos n) ∷ []) (record r { phase = AtItem; budget = n })) → GivesFront before after (line (codes "budget" ∷ decimal n ∷ []))
    → new ≡ line_number_after old 1 → HasRead s arcs before after old new (state AtItem budget kept []) (items_text budget)
begun s arcs before after old new n budget kept e f reads text lines =
    let P : ℕ → Type 0 = λ m. HasRead s arcs before after old new (state AtItem m kept []) (items_text m) in
    let Q : ProofState → Type 0 = λ k. HasRead s arcs before after old new (state AtItem n k []) (items_text n) in
    let first = reader_at AtBudget in
    let budget_line = line (codes "budget" ∷ decimal n ∷ []) in
    let R : List ℕ → Type 0 = λ text. HasCome s arcs before after old new (state AtItem n empty_state []) text in
    subst P (sym e) (subst Q (sym f) (record {
      items = [];
      accepted = refl;
      come = subst R (sym (append-nil budget_line))
          (come_first s arcs before after old new (state AtItem n empty_state []) budget_line (BudgetLine (pos n) ∷ []) (from_of s arcs first (state AtItem n empty_state []) before after (BudgetLine (pos n) ∷ []) (reads s first refl)) text lines);
    }))

-- ---- rows
-- the row that is held
pub row_there : (before after : Option (List ℕ)) (old new : ℕ) (held : ItemsState) (next : Next) (kind : RowKind) (members : List ℕ) → next ≡ NextRow → kind ≡ held.kind → members ≡ held.members
    → (kept : Option ItemFault) → kept ≡ None → IfNone kept (ReadsNext before after old new held (Ok next))
    → ReadsRow before after kind members × (new ≡ line_number_after old 1)
row_there before after old new held next kind members e k m kept none h =
    let P : Next → Type 0 = λ x. ReadsNext before after old new held (Ok x) in
    let Q : RowKind → Type 0 = λ x. ReadsRow before after x members in
    let R : List ℕ → Type 0 = λ x. ReadsRow before after held.kind x in
    let there = subst P e (at_none kept none h) in
    (subst Q (sym k) (subst R (sym m) there.0), there.1)

pub fed_row : (old new : CheckerState) (before after : Option (List ℕ)) (lines later : ℕ) (kind : RowKind) (members : List ℕ) → ReadsRow before after kind members × (later ≡ line_number_after lines 1)
    → Accepts old.site old.arcs old.budget old.state (RowItem (record { kind = kind; members = members })) new.state
    → ((cause : Cause) → ¬ (IsRowRefused old.site old.arcs old.state (record { kind = kind; members = members }) cause)) → new ≡ record old { state = new.state }
    → FeedsNext old new before after lines later None
fed_row old new before after lines later kind members row accepts none stays = (
  record {
    state_is = stays;
    reads = λ first start h. row_on old.site old.arcs first before after start lines later old.budget old.state new.state kind members h row.0 row.1 accepts none;
  },
  let budget : new.budget ≡ old.budget = ap (λ (c : CheckerState). c.budget) stays in
      let rows = ap length accepts.rows ∙ length-append old.state.rows (record { kind = kind; members = members } ∷ []) in
      let most = accepts.rows_count in
      let works = accepts.works in
      omega (arith, budget, rows, most, works),
)

pub refused_row : (old new : CheckerState) (before after : Option (List ℕ)) (lines later number line : ℕ) (kind : RowKind) (members : List ℕ) (refusal : Refusal) → ReadsRow before after kind members × (later ≡ line_number_after lines 1) → number ≡ later → line ≡ number
    → Refuses old new line (IsRowRefused old.site old.arcs old.state (record { kind = kind; members = members })) refusal
    → RefusesOn old.site old.arcs before lines (state AtItem old.budget old.state []) (items_text old.budget) refusal
refused_row old new before after lines later number line kind members refusal row e f h first start there =
    row_refused old.site old.arcs first before after start lines old.budget old.state kind members refusal there row.0 (h.line_is ∙ f ∙ e ∙ row.1) h.cause_is

-- ---- works
pub work_there : (before after : Option (List ℕ)) (old new : ℕ) (held : ItemsState) (next : Next) (work : Work) → next ≡ NextWork → work ≡ held.work
    → (kept : Option ItemFault) → kept ≡ None → IfNone kept (ReadsNext before after old new held (Ok next))
    → ReadsWork before after work.node work.weights work.act × (new ≡ line_number_after old (2 + length work.weights))
work_there before after old new held next work e w kept none h =
    let P : Next → Type 0 = λ x. ReadsNext before after old new held (Ok x) in
    let Q : Work → Type 0 = λ x. ReadsWork before after x.node x.weights x.act × (new ≡ line_number_after old (2 + length x.weights)) in
    subst Q (sym w) (subst P e (at_none kept none h))

pub fed_work : (old new : CheckerState) (before after : Option (List ℕ)) (lines later : ℕ) (work : Work) → ReadsWork before after work.node work.weights work.act × (later ≡ line_number_after lines (2 + length work.weights))
    → Accepts old.site old.arcs old.budget old.state (WorkItem work.node work.weights work.act) new.state
    → ((cause : Cause) → ¬ (IsWorkRefused old.site old.arcs old.budget old.state work.node work.weights work.act cause)) → new ≡ record old { state = new.state }
    → FeedsNext old new before after lines later None
fed_work old new before after lines later work read accepts none stays = (
  record {
    state_is = stays;
    reads = λ first start h. work_on old.site old.arcs first before after start lines later old.budget old.state new.state work.node work.weights work.act h read.0 read.1 accepts none;
  },
  let budget : new.budget ≡ old.budget = ap (λ (c : CheckerState). c.budget) stays in
      let rows : length new.state.rows ≡ length old.state.rows = ap length accepts.rows in
      let more = accepts.within_budget in
      let works = accepts.works in
      omega (arith, budget, rows, more, works),
)

pub refused_work : (old new : CheckerState) (before after : Option (List ℕ)) (lines later number line : ℕ) (work : Work) (refusal : Refusal) → ReadsWork before after work.node work.weights work.act × (later ≡ line_number_after lines (2 + length work.weights)) → number ≡ later
    → line ≡ number → Refuses old new line (IsWorkRefused old.site old.arcs old.budget old.state work.node work.weights work.act) refusal
    → RefusesOn old.site old.arcs before lines (state AtItem old.budget old.state []) (items_text old.budget) refusal
refused_work old new before after lines later number line work refusal read e f h first start there =
    work_refused old.site old.arcs first before after start lines old.budget old.state work.node work.weights work.act refusal there read.0 (h.line_is ∙ f ∙ e ∙ read.1) h.cause_is

-- ---- the line with the number of cables
pub read_count : (c : CheckerState) (before after : Option (List ℕ)) (lines later : ℕ) (held : ItemsState) (next : Next) (count : ℕ) → next ≡ NextLayout count
    → (kept : Option ItemFault) → kept ≡ None → IfNone kept (ReadsNext before after lines later held (Ok next)) → FeedsToLayout c c before after lines later count
read_count c before after lines later held next count e kept none h =
    let P : Next → Type 0 = λ x. ReadsNext before after lines later held (Ok x) in
    let there = subst P e (at_none kept none h) in
    let layout = there.0 in
    let r = state AtItem c.budget c.state [] in
    record {
      state_is = refl;
      most = layout.most;
      reads = λ first start come. read_on c.site c.arcs first before after start lines later AtItem (AtCables count) c.budget c.state [] [] (items_text c.budget) (line (codes "layout" ∷ decimal count ∷ [])) (LayoutLine (pos count) ∷ []) come
          (from_of c.site c.arcs r (state (AtCables count) c.budget c.state []) before after (LayoutLine (pos count) ∷ []) (layout.reads c.site r refl)) layout.text there.1;
    }

-- an item or the number of cables is refused by reading
pub refused_item : (c : CheckerState) (before : Option (List ℕ)) (lines : ℕ) (refusal : Refusal) → ((s : Site) (r : Reader) → r.phase ≡ AtItem → RefusedAfter s r before lines refusal)
    → RefusesOn c.site c.arcs before lines (state AtItem c.budget c.state []) (items_text c.budget) refusal
refused_item c before lines refusal d first start h =
    let r = state AtItem c.budget c.state [] in
    refused_reading c.site c.arcs first before start lines r (items_text c.budget h.items) refusal h.come (d c.site r refl)

-- ---- all items
-- what holds between two items
pub record HasFed (old new : CheckerState) (before now : Option (List ℕ)) (lines later : ℕ) (reader : Option ItemFault) (kept : Option LineFault) (faults_old faults_new : ℕ) : Type 0 where
  pub fed : FeedsItems old new before now lines later
  pub readable : reader ≡ None
  pub unbroken : kept ≡ None
  pub count : faults_old ≤ faults_new

pub none_fed : (c : CheckerState) (now : Option (List ℕ)) (lines : ℕ) → FeedsItems c c now now lines lines
none_fed c now lines = record { state_is = refl; reads = λ first start h. h }

-- what follows items that were fed
pub items_then : (old mid new : CheckerState) (before middle after : Option (List ℕ)) (a b c : ℕ) → FeedsItems old mid before middle a b → FeedsItems mid new middle after b c → FeedsItems old new before after a c
items_then old mid new before middle after a b c h k =
    let P : CheckerState → Type 0 = λ x. FeedsItems x new middle after b c in
    let there = subst P h.state_is k in
    record { state_is = there.state_is; reads = λ first start come. there.reads first start (h.reads first start come) }

pub layout_then : (old mid new : CheckerState) (before middle after : Option (List ℕ)) (a b c count : ℕ) → FeedsItems old mid before middle a b → FeedsToLayout mid new middle after b c count → FeedsToLayout old new before after a c count
layout_then old mid new before middle after a b c count h k =
    let P : CheckerState → Type 0 = λ x. FeedsToLayout x new middle after b c count in
    let there = subst P h.state_is k in
    record { state_is = there.state_is; most = there.most; reads = λ first start come. there.reads first start (h.reads first start come) }

pub refused_then : (old mid : CheckerState) (before middle : Option (List ℕ)) (a b : ℕ) (refusal : Refusal) → FeedsItems old mid before middle a b
    → RefusesOn mid.site mid.arcs middle b (state AtItem mid.budget mid.state []) (items_text mid.budget) refusal → RefusesOn old.site old.arcs before a (state AtItem old.budget old.state []) (items_text old.budget) refusal
refused_then old mid before middle a b refusal h k =
    let P : CheckerState → Type 0 = λ x. RefusesOn x.site x.arcs middle b (state AtItem x.budget x.state []) (items_text x.budget) refusal in
    let there = subst P h.state_is k in
    λ first start come. there first start (h.reads first start come)

pub still_open : (old mid new : CheckerState) → old.refused ≡ None → mid ≡ record old { state = mid.state } → mid.refused ≡ None
still_open old mid new e h = ap (λ (c : CheckerState). c.refused) h ∙ e

-- ---- the claim
pub judged : (s : Site) (c : CheckerState) (before after : Option (List ℕ)) (lines later : ℕ) (cables : List Cable) (claim : Claim) → IsValid s → c.site ≡ s
    → (raw : RawClaim) × IsClaimOf s raw claim × ((r : Reader) → r.phase ≡ AtCables 0 → ReadsDocLine s r before after (ClaimLine raw)) → GivesFront before after (claim_line s claim) → later ≡ line_number_after lines 1
    → ((cause : Cause) → ¬ (IsClaimRefused c.site c.budget c.state cables claim cause))
    → (front : List Item → List ℕ) → ReadsOn s c.arcs before after lines later (state (AtCables 0) c.budget c.state cables) (state AtLast c.budget c.state cables) front (λ items. front items ++ claim_line s claim)
judged s c before after lines later cables claim valid own read gives e none front first start h =
    let P : Site → Type 0 = λ x. (cause : Cause) → ¬ (IsClaimRefused x c.budget c.state cables claim cause) in
    claim_on s c.arcs first before after start lines later c.budget c.state cables front read.0 claim valid h read.1 (read.2 (state (AtCables 0) c.budget c.state cables) refl) gives e (subst P own none)

pub refused_claim : (s : Site) (c new : CheckerState) (before after : Option (List ℕ)) (lines later number line : ℕ) (cables : List Cable) (claim : Claim) (refusal : Refusal) → IsValid s → c.site ≡ s
    → (raw : RawClaim) × IsClaimOf s raw claim × ((r : Reader) → r.phase ≡ AtCables 0 → ReadsDocLine s r before after (ClaimLine raw)) → later ≡ line_number_after lines 1 → number ≡ later → line ≡ number
    → Refuses c new line (IsClaimRefused c.site c.budget c.state cables claim) refusal
    → (front : List Item → List ℕ) → RefusesOn s c.arcs before lines (state (AtCables 0) c.budget c.state cables) front refusal
refused_claim s c new before after lines later number line cables claim refusal valid own read e n f k front first start h =
    let P : Site → Type 0 = λ x. Refuses c new line (IsClaimRefused x c.budget c.state cables claim) refusal in
    let there = subst P own k in
    claim_refused s c.arcs first before after start lines c.budget c.state cables front read.0 claim refusal valid h read.1 (read.2 (state (AtCables 0) c.budget c.state cables) refl) (there.line_is ∙ f ∙ n ∙ e) there.cause_is

-- the verdict line is refused by reading
pub refused_verdict : (s : Site) (c : CheckerState) (before : Option (List ℕ)) (lines : ℕ) (cables : List Cable) (refusal : Refusal) → ((x : Site) (r : Reader) → IsAtOf s (AtCables 0) x r → RefusedAfter x r before lines refusal)
    → (front : List Item → List ℕ) → RefusesOn s c.arcs before lines (state (AtCables 0) c.budget c.state cables) front refusal
refused_verdict s c before lines cables refusal d front first start h =
    let r = state (AtCables 0) c.budget c.state cables in
    refused_reading s c.arcs first before start lines r (front h.items) refusal h.come (d s r (refl, refl))

-- ---- the end of the document
-- how many lines are counted behind the cables
cables_counted : (start lines later count a b : ℕ) → lines ≡ line_number_after start a → b ≡ count → (1 ≤ count → later ≡ line_number_after lines count) → (count ≡ 0 → later ≡ lines) → later ≡ line_number_after lines b
cables_counted start lines later zero a b e f some none = let g = none refl in omega (arith, e, f, g)
cables_counted start lines later (suc count) a b e f some none = let g = some (omega arith) in omega (arith, f, g)

pub cables_on : (s : Site) (arcs : List CandidateArc) (n count : ℕ) (kept : ProofState) (cables : List Cable) (before after : Option (List ℕ)) (lines later : ℕ) → ReadsCables s true count 0 before after cables → GivesFront before after (concat (map (cable_line s) cables))
    → length cables ≡ count → (1 ≤ count → later ≡ line_number_after lines count) → (count ≡ 0 → later ≡ lines)
    → ReadsOn s arcs before after lines later (state (AtCables count) n kept []) (state (AtCables 0) n kept cables) (text_to_layout n count) (cables_text s n count cables)
cables_on s arcs n count kept cables before after lines later read gives size some none first start h =
    let r = state (AtCables count) n kept [] in
    let e = state (AtCables 0) n kept cables in
    read_on s arcs first before after start lines later (AtCables count) (AtCables 0) n kept [] cables (text_to_layout n count) (concat (map (cable_line s) cables)) read.read_lines h
    (from_of s arcs r e before after read.read_lines (read.reads r refl refl)) gives
    (cables_counted start lines later count (length h.come.read_lines) (length read.read_lines) h.come.lines_are (read.lines_count ∙ size) some none)

-- a cable line is refused by reading
pub refused_cable : (s : Site) (arcs : List CandidateArc) (n count : ℕ) (kept : ProofState) (before : Option (List ℕ)) (lines : ℕ) (refusal : Refusal) → ((r : Reader) → r.phase ≡ cables_left true count → r.cables ≡ [] → RefusedAfter s r before lines refusal)
    → RefusesOn s arcs before lines (state (AtCables count) n kept []) (text_to_layout n count) refusal
refused_cable s arcs n count kept before lines refusal d first start h =
    let r = state (AtCables count) n kept [] in
    refused_reading s arcs first before start lines r (text_to_layout n count h.items) refusal h.come (d r refl refl)

-- the last line is refused by reading
pub refused_last : (s : Site) (arcs : List CandidateArc) (n : ℕ) (kept : ProofState) (cables : List Cable) (front : List Item → List ℕ) (before : Option (List ℕ)) (lines : ℕ) (refusal : Refusal) → ((s : Site) (r : Reader) → r.phase ≡ AtLast → RefusedAfter s r before lines refusal)
    → RefusesOn s arcs before lines (state AtLast n kept cables) front refusal
refused_last s arcs n kept cables front before lines refusal d first start h =
    let r = state AtLast n kept cables in
    refused_reading s arcs first before start lines r (front h.items) refusal h.come (d s r refl)

-- the text of the whole document behind its site
whole_text : (first after : Option (List ℕ)) (text : List ℕ) → GivesFront first after text → IsAtEnd after → (bytes : List ℕ) → first ≡ Some bytes → bytes ≡ text
whole_text None after text h end bytes e = absurd (cc)
whole_text (Some whole) after text h end bytes e =
    let last : h.0 ≡ [] = subst IsAtEnd h.2 end in
    let same : whole ≡ bytes = cc in
    sym same ∙ h.1 ∙ ap (λ (rest : List ℕ). text ++ rest) last ∙ append-nil text

pub accepted_end : (s : Site) (arcs : List CandidateArc) (n count : ℕ) (kept : ProofState) (cables : List Cable) (claim : Claim) (before after : Option (List ℕ)) (lines later : ℕ) (first : Option (List ℕ)) (start : ℕ)
    → AreArcs s arcs → IsBudget n → length cables ≡ count → AllPairs (λ c d. c.from < d.from) cables → Agrees s n kept cables claim → IsClaimInRange claim
    → HasRead s arcs first before start lines (state AtLast n kept cables) (λ items. cables_text s n count cables items ++ claim_line s claim)
    → GivesFront before after (line (codes "end" ∷ codes "document" ∷ [])) → ((s : Site) (r : Reader) → r.phase ≡ AtLast → ReadsTo s r before after (EndLine ∷ []) (record r { phase = Past })) → later ≡ line_number_after lines 1 → IsAtEnd after
    → IsAcceptedBehind s first cables claim
accepted_end s arcs n count kept cables claim before after lines later first start are budget size order agrees range h gives reads e end =
    let r = state AtLast n kept cables in
    let last = read_on s arcs first before after start lines later AtLast Past n kept cables cables (λ items. cables_text s n count cables items ++ claim_line s claim) (line (codes "end" ∷ codes "document" ∷ [])) (EndLine ∷ []) h
    (from_of s arcs r (state Past n kept cables) before after (EndLine ∷ []) (reads s r refl)) gives e in
    record {
      arcs = arcs;
      budget = n;
      items = last.items;
      state = kept;
      are_arcs = are;
      is_budget = budget;
      in_order = order;
      accepted = last.accepted;
      in_range = range;
      agrees = agrees;
      text = λ bytes same.
          whole_text first after (cables_text s n count cables last.items ++ claim_line s claim ++ line (codes "end" ∷ codes "document" ∷ [])) last.come.text end bytes same
          ∙ ap (λ (k : ℕ). cables_text s n k cables last.items ++ claim_line s claim ++ line (codes "end" ∷ codes "document" ∷ [])) (sym size);
    }

-- ---- the document
-- no byte is left in the source either
pub source_end : (pending : List ℕ) (left : Option (List ℕ)) → IsAtEnd (to_come pending left) → IsAtEnd left
source_end pending None h = tt
source_end [] (Some left) h = h
source_end (b ∷ pending) (Some left) h = absurd (cc)

-- whatever the list of arcs is
pub any_arcs : (s : Site) (arcs : List CandidateArc) (first : Option (List ℕ)) (start : ℕ) (refusal : Refusal) → AreArcs s arcs → IsRefusedFrom s arcs first start refusal → (others : List CandidateArc) → AreArcs s others → IsRefusedFrom s others first start refusal
any_arcs s arcs first start refusal are h others there = let P : List CandidateArc → Type 0 = λ xs. IsRefusedFrom s xs first start refusal in subst P (arcs-same s arcs others are there) h

-- the refusal that is the answer
of_refusal : {A : Type 0} → (result : Result A DocumentFault) (fault : DocumentFault) (refusal : Refusal) (P : Refusal → Type 0) → result ≡ Err fault → result ≡ Err (Refused refusal) → OfRefusal fault P → P refusal
of_refusal result fault refusal P e f h =
    let same : fault ≡ Refused refusal = cc in
    let Q : DocumentFault → Type 0 = λ x. OfRefusal x P in
    subst Q same h

pub items_refused : {A : Type 0} → (s : Site) (c : CheckerState) (before middle : Option (List ℕ)) (start lines : ℕ) (result : Result A DocumentFault) (fault : DocumentFault) (refusal : Refusal) → result ≡ Err fault → result ≡ Err (Refused refusal) → c.site ≡ s → AreArcs s c.arcs
    → HasRead s c.arcs before middle start lines (state AtItem c.budget c.state []) (items_text c.budget) → OfRefusal fault (RefusesOn c.site c.arcs middle lines (state AtItem c.budget c.state []) (items_text c.budget))
    → (others : List CandidateArc) → AreArcs s others → IsRefusedFrom s others before start refusal
items_refused s c before middle start lines result fault refusal e f own are h faulty others there =
    let refused = of_refusal result fault refusal (RefusesOn c.site c.arcs middle lines (state AtItem c.budget c.state []) (items_text c.budget)) e f faulty in
    let P : Site → Type 0 = λ x. RefusesOn x c.arcs middle lines (state AtItem c.budget c.state []) (items_text c.budget) refusal in
    any_arcs s c.arcs before start refusal are (subst P own refused before start h) others there

pub end_refused : {A : Type 0} → (s : Site) (c d : CheckerState) (before middle after : Option (List ℕ)) (start lines later count : ℕ) (result : Result A DocumentFault) (fault : DocumentFault) (refusal : Refusal) → result ≡ Err fault → result ≡ Err (Refused refusal) → c.site ≡ s → AreArcs s c.arcs
    → HasRead s c.arcs before middle start lines (state AtItem c.budget c.state []) (items_text c.budget) → FeedsToLayout c d middle after lines later count
    → OfRefusal fault (RefusesOn s d.arcs after later (state (AtCables count) d.budget d.state []) (text_to_layout d.budget count)) → (others : List CandidateArc) → AreArcs s others → IsRefusedFrom s others before start refusal
end_refused s c d before middle after start lines later count result fault refusal e f own are h fed faulty others there =
    let refused = of_refusal result fault refusal (RefusesOn s d.arcs after later (state (AtCables count) d.budget d.state []) (text_to_layout d.budget count)) e f faulty in
    let P : CheckerState → Type 0 = λ x. RefusesOn s x.arcs after later (state (AtCables count) x.budget x.state []) (text_to_layout x.budget count) refusal in
    let Q : Site → Type 0 = λ x. ReadsOn x c.arcs middle after lines later (state AtItem c.budget c.state []) (state (AtCables count) c.budget d.state []) (items_text c.budget) (text_to_layout c.budget count) in
    any_arcs s c.arcs before start refusal are (subst P fed.state_is refused before start (subst Q own fed.reads before start h)) others there
