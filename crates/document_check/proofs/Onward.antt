-- How the reading of a document goes on from line to line, and how it is refused.
use Rattle.std.proofs.Common.{◌≡◌, ℕ, ◌+◌, ◌≤◌, ◌<◌, ◌^◌, inl, inr, ℤ, pos, List, [], ◌∷◌, ◌++◌, length, map, codes, Option, Some, None, refl, sym, ap, ◌∙◌, subst, append_assoc, arith}
use Rattle.std.specs.List.{concat}
use Rattle.std.specs.Fmt.{decimal}
use Rattle.std.proofs.lemmas.List.{append-nil, length-append, length-map, map-append}
use Rattle.std.proofs.lemmas.List.Folds.{concat-append}
use Rattle.cable_definitions.specs.declared.cable.Cable.{Cable}
use Rattle.cable_definitions.specs.declared.cable.Arc.{Arc as CandidateArc}
use Rattle.cable_definitions.specs.declared.row.RowKind.{RowKind}
use Rattle.cable_definitions.specs.declared.row.Act.{Act}
use Rattle.cable_definitions.specs.declared.claim.Claim.{Claim}
use Rattle.cable_definitions.specs.declared.claim.Cause.{Cause}
use Rattle.cable_definitions.specs.Site.{Site, IsValid}
use Rattle.cable_definitions.specs.Row.{Row}
use Rattle.cable_definitions.specs.Text.{line, item_lines, claim_line, Whole}
use Rattle.cable_definitions.specs.Tree.{Item, RowItem, WorkItem, ProofState, empty_state, Accepts, Leads}
use Rattle.cable_definitions.specs.Refusal.{DocLine, RowLine, WorkLine, WeightLine, ActLine, ClaimLine, RawClaim, act_from, row_from, Phase, AtBudget, AtItem, AtWeights, AtCables, AtLast, Reader, reader_at, IsFoundByFeeding, IsRowRefused, IsWorkRefused, IsClaimOf, IsClaimRefused, IsLeastCause, GoesOn, ReadsLines}
use Rattle.cable_definitions.specs.declared.claim.Refusal.{Refusal}
use Rattle.cable_definitions.specs.Stream.{GivesFront}
use Rattle.document_laws.proofs.Going.{claim-same, same_node, same_weights}
use Rattle.document_laws.proofs.Spelled.{members-read}
use Rattle.proof_text.specs.Reading.{line_number_after, ReadsTo, ReadsDocLine, RefusedAfter}
use Rattle.proof_text.specs.Items.{weight_lines, ReadsRow, ReadsWork}
use Rattle.proof_text.proofs.Behind.{reads_append}
use Rattle.document_check.specs.Progress.{ReadsFrom, HasCome, HasRead, IsRefusedFrom, state, items_text}
use Rattle.document_check.proofs.Short.{few_lines}

-- ---- runs over sources
pub from_of : (s : Site) (arcs : List CandidateArc) (r e : Reader) (before after : Option (List ℕ)) (ls : List DocLine) → ReadsTo s r before after ls e → ReadsFrom s arcs r before after ls e
from_of s arcs r e None after ls h = h
from_of s arcs r e (Some bytes) after ls h = (h.0, h.1, h.2 arcs)

pub from_then : (s : Site) (arcs : List CandidateArc) (r e f : Reader) (before middle after : Option (List ℕ)) (ls ms : List DocLine) → ReadsFrom s arcs r before middle ls e → ReadsFrom s arcs e middle after ms f → ReadsFrom s arcs r before after (ls ++ ms) f
from_then s arcs r e f None middle after ls ms h k = let P : Option (List ℕ) → Type 0 = λ o. ReadsFrom s arcs e o after ms f in subst P h k
from_then s arcs r e f (Some bytes) middle after ls ms h k =
    let P : Option (List ℕ) → Type 0 = λ o. ReadsFrom s arcs e o after ms f in
    let d = subst P h.1 k in
    (d.0, d.1, reads_append s arcs r e f bytes h.0 d.0 ls ms h.2 d.2)

-- a line that is fed
fed_line : (s : Site) (arcs : List CandidateArc) (r next : Reader) (before after : Option (List ℕ)) (l : DocLine) → ReadsDocLine s r before after l → ((cause : Cause) → ¬ (IsFoundByFeeding s arcs r l cause)) → GoesOn s arcs r l next
    → ReadsFrom s arcs r before after (l ∷ []) next
fed_line s arcs r next None after l h none goes = h.2
fed_line s arcs r next (Some bytes) after l h none goes = let found = h.2 in (found.0, found.2, (h.0, found.0, next, found.1, h.1, none, goes, (refl, refl)))

gives_then : (before middle after : Option (List ℕ)) (a b : List ℕ) → GivesFront before middle a → GivesFront middle after b → GivesFront before after (a ++ b)
gives_then None middle after a b h k = let P : Option (List ℕ) → Type 0 = λ o. GivesFront o after b in subst P h k
gives_then (Some bytes) middle after a b h k =
    let P : Option (List ℕ) → Type 0 = λ o. GivesFront o after b in
    let d = subst P h.2 k in
    (d.0, h.1 ∙ ap (λ (rest : List ℕ). a ++ rest) d.1 ∙ sym (append_assoc a b d.0), d.2)

gives_nothing : (now : Option (List ℕ)) → GivesFront now now []
gives_nothing None = refl
gives_nothing (Some bytes) = (bytes, refl, refl)

reads_nothing : (s : Site) (arcs : List CandidateArc) (r : Reader) (now : Option (List ℕ)) → ReadsFrom s arcs r now now [] r
reads_nothing s arcs r None = refl
reads_nothing s arcs r (Some bytes) = (bytes, refl, (refl, refl))

-- ---- going on
pub come_on : (s : Site) (arcs : List CandidateArc) (first now after : Option (List ℕ)) (start lines later : ℕ) (r e : Reader) (front more : List ℕ) (ms : List DocLine) → HasCome s arcs first now start lines r front
    → ReadsFrom s arcs r now after ms e → GivesFront now after more → later ≡ line_number_after lines (length ms) → HasCome s arcs first after start later e (front ++ more)
come_on s arcs first now after start lines later r e front more ms h reads gives n = record {
  read_lines = h.read_lines ++ ms;
  reads = from_then s arcs (reader_at AtBudget) r e first now after h.read_lines ms h.reads reads;
  lines_are = let a = h.lines_are in omega (arith, n, a, length-append h.read_lines ms);
  text = gives_then first now after front more h.text gives;
}

pub come_first : (s : Site) (arcs : List CandidateArc) (first after : Option (List ℕ)) (start later : ℕ) (e : Reader) (more : List ℕ) (ms : List DocLine) → ReadsFrom s arcs (reader_at AtBudget) first after ms e → GivesFront first after more
    → later ≡ line_number_after start (length ms) → HasCome s arcs first after start later e more
come_first s arcs first after start later e more ms reads gives n = record { read_lines = ms; reads = reads; lines_are = n; text = gives }

-- lines that aren't items
pub read_on : (s : Site) (arcs : List CandidateArc) (first now after : Option (List ℕ)) (start lines later : ℕ) (phase next : Phase) (n : ℕ) (kept : ProofState) (cables further : List Cable) (front : List Item → List ℕ) (more : List ℕ) (ms : List DocLine)
    → HasRead s arcs first now start lines (state phase n kept cables) front → ReadsFrom s arcs (state phase n kept cables) now after ms (state next n kept further) → GivesFront now after more → later ≡ line_number_after lines (length ms)
    → HasRead s arcs first after start later (state next n kept further) (λ items. front items ++ more)
read_on s arcs first now after start lines later phase next n kept cables further front more ms h reads gives e = record {
  items = h.items;
  accepted = h.accepted;
  come = come_on s arcs first now after start lines later (state phase n kept cables) (state next n kept further) (front h.items) more ms h.come reads gives e;
}

-- ---- refusals
-- a refusal is behind few lines
numbered : (start lines there line a b : ℕ) → lines ≡ line_number_after start a → line ≡ line_number_after lines (1 + b) → there ≡ a + b → there ≤ 51400002 → start + 60000000 < 2 ^ 64 → line ≡ start + 1 + there
numbered start lines there line a b h k e few small = omega (arith, h, k, e, few, small)

pub refused_reading : (s : Site) (arcs : List CandidateArc) (first now : Option (List ℕ)) (start lines : ℕ) (r : Reader) (front : List ℕ) (refusal : Refusal) → HasCome s arcs first now start lines r front
    → RefusedAfter s r now lines refusal → IsRefusedFrom s arcs first start refusal
refused_reading s arcs None now start lines r front refusal h d bytes e small = absurd (cc)
refused_reading s arcs (Some whole) now start lines r front refusal h d bytes e small =
    let reads = h.reads in
    let P : Option (List ℕ) → Type 0 = λ o. RefusedAfter s r o lines refusal in
    let here = subst P reads.1 d in
    let all = reads_append s arcs (reader_at AtBudget) r here.reader whole reads.0 here.left h.read_lines here.read_lines reads.2 (here.reads arcs) in
    let same : whole ≡ bytes = cc in
    let Q : List ℕ → Type 0 = λ b. ReadsLines s arcs (reader_at AtBudget) b (h.read_lines ++ here.read_lines) here.reader here.left in
    record {
      read_lines = h.read_lines ++ here.read_lines;
      reader = here.reader;
      left = here.left;
      reads = subst Q same all;
      piece = here.piece;
      rest = here.rest;
      next = here.next;
      first = inl here.first;
      line_is = numbered start lines (length (h.read_lines ++ here.read_lines)) refusal.line (length h.read_lines) (length here.read_lines) h.lines_are here.line_is (length-append h.read_lines here.read_lines)
          (few_lines s arcs here.reader whole here.left (h.read_lines ++ here.read_lines) all) small;
    }

pub refused_feeding : (s : Site) (arcs : List CandidateArc) (first now after : Option (List ℕ)) (start lines : ℕ) (r : Reader) (ls : List DocLine) (l : DocLine) (refusal : Refusal) → ReadsFrom s arcs (reader_at AtBudget) first now ls r → lines ≡ line_number_after start (length ls)
    → ReadsDocLine s r now after l → IsLeastCause (IsFoundByFeeding s arcs r l) refusal.cause → refusal.line ≡ line_number_after lines 1 → IsRefusedFrom s arcs first start refusal
refused_feeding s arcs None now after start lines r ls l refusal reads m d least n bytes e small = absurd (cc)
refused_feeding s arcs (Some whole) now after start lines r ls l refusal reads m d least n bytes e small =
    let P : Option (List ℕ) → Type 0 = λ o. ReadsDocLine s r o after l in
    let here = subst P reads.1 d in
    let same : whole ≡ bytes = cc in
    let Q : List ℕ → Type 0 = λ b. ReadsLines s arcs (reader_at AtBudget) b ls r reads.0 in
    record {
      read_lines = ls;
      reader = r;
      left = reads.0;
      reads = subst Q same reads.2;
      piece = Whole here.0;
      rest = here.2.0;
      next = here.2.1;
      first = inr (l, here.1, least);
      line_is = numbered start lines (length ls) refusal.line (length ls) 0 m (omega (arith, n)) (omega arith) (few_lines s arcs r whole reads.0 ls reads.2) small;
    }

-- a least cause of a fact that holds where another does
least_as : (P Q : Cause → Type 0) (cause : Cause) → ((c : Cause) → P c → Q c) → ((c : Cause) → Q c → P c) → IsLeastCause P cause → IsLeastCause Q cause
least_as P Q cause there back h = record { holds = there cause h.holds; least = λ other l k. h.least other l (back other k) }

-- ---- items
leads_one : (s : Site) (arcs : List CandidateArc) (n : ℕ) (items : List Item) (item : Item) (old mid new : ProofState) → Leads s arcs n old items mid → Accepts s arcs n mid item new → Leads s arcs n old (items ++ item ∷ []) new
leads_one s arcs n [] item old mid new l a = let P : ProofState → Type 0 = λ k. Accepts s arcs n k item new in (new, subst P l a, refl)
leads_one s arcs n (x ∷ items) item old mid new l a = (l.0, l.1, leads_one s arcs n items item l.0 mid new l.2 a)

one_text : (n : ℕ) (items : List Item) (item : Item) → items_text n items ++ item_lines item ≡ items_text n (items ++ item ∷ [])
one_text n items item =
    let budget = line (codes "budget" ∷ decimal n ∷ []) in
    append_assoc budget (concat (map item_lines items)) (item_lines item)
    ∙ ap (λ (more : List ℕ). budget ++ more)
    (ap (λ (last : List ℕ). concat (map item_lines items) ++ last) (sym (append-nil (item_lines item))) ∙ sym (concat-append (map item_lines items) (item_lines item ∷ []))
    ∙ ap concat (sym (map-append item_lines items (item ∷ []))))

-- an item more
item_on : (s : Site) (arcs : List CandidateArc) (first now after : Option (List ℕ)) (start lines later n : ℕ) (kept new : ProofState) (item : Item) (ms : List DocLine) → HasRead s arcs first now start lines (state AtItem n kept []) (items_text n)
    → ReadsFrom s arcs (state AtItem n kept []) now after ms (state AtItem n new []) → GivesFront now after (item_lines item) → later ≡ line_number_after lines (length ms) → Accepts s arcs n kept item new
    → HasRead s arcs first after start later (state AtItem n new []) (items_text n)
item_on s arcs first now after start lines later n kept new item ms h reads gives e accepts = record {
  items = h.items ++ item ∷ [];
  accepted = leads_one s arcs n h.items item empty_state kept new h.accepted accepts;
  come =
      let P : List ℕ → Type 0 = λ text. HasCome s arcs first after start later (state AtItem n new []) text in
      subst P (one_text n h.items item) (come_on s arcs first now after start lines later (state AtItem n kept []) (state AtItem n new []) (items_text n h.items) (item_lines item) ms h.come reads gives e);
}

row_read : (kind : RowKind) (members : List ℕ) → row_from kind (map pos members) ≡ record { kind = kind; members = members }
row_read kind members = ap (λ (ms : List ℕ). let row : Row = record { kind = kind; members = ms } in row) (members-read members)

pub row_on : (s : Site) (arcs : List CandidateArc) (first now after : Option (List ℕ)) (start lines later n : ℕ) (kept new : ProofState) (kind : RowKind) (members : List ℕ)
    → HasRead s arcs first now start lines (state AtItem n kept []) (items_text n) → ReadsRow now after kind members → later ≡ line_number_after lines 1
    → Accepts s arcs n kept (RowItem (record { kind = kind; members = members })) new → ((cause : Cause) → ¬ (IsRowRefused s arcs kept (record { kind = kind; members = members }) cause))
    → HasRead s arcs first after start later (state AtItem n new []) (items_text n)
row_on s arcs first now after start lines later n kept new kind members h row e accepts none =
    let r = state AtItem n kept [] in
    let same = sym (row_read kind members) in
    let P : Row → Type 0 = λ x. Accepts s arcs n kept (RowItem x) new in
    let Q : Row → Type 0 = λ x. (cause : Cause) → ¬ (IsRowRefused s arcs kept x cause) in
    item_on s arcs first now after start lines later n kept new (RowItem (record { kind = kind; members = members })) (RowLine kind (map pos members) ∷ []) h
    (fed_line s arcs r (state AtItem n new []) now after (RowLine kind (map pos members)) (row.reads s r refl) (subst Q same none) (new, subst P same accepts, refl)) row.text e accepts

pub row_refused : (s : Site) (arcs : List CandidateArc) (first now after : Option (List ℕ)) (start lines n : ℕ) (kept : ProofState) (kind : RowKind) (members : List ℕ) (refusal : Refusal)
    → HasRead s arcs first now start lines (state AtItem n kept []) (items_text n) → ReadsRow now after kind members → refusal.line ≡ line_number_after lines 1
    → IsLeastCause (IsRowRefused s arcs kept (record { kind = kind; members = members })) refusal.cause → IsRefusedFrom s arcs first start refusal
row_refused s arcs first now after start lines n kept kind members refusal h row e least =
    let r = state AtItem n kept [] in
    let P : Row → Type 0 = λ x. IsLeastCause (IsRowRefused s arcs kept x) refusal.cause in
    refused_feeding s arcs first now after start lines r h.come.read_lines (RowLine kind (map pos members)) refusal h.come.reads h.come.lines_are (row.reads s r refl) (subst P (sym (row_read kind members)) least) e

weight_count : (ws : List (ℕ × ℤ)) → length (weight_lines ws) ≡ length ws
weight_count ws = length-map ws (λ (r, w). WeightLine (pos r) w)

-- what feeding finds of an act is what is wrong with the work
module _ (s : Site) (arcs : List CandidateArc) {before after : Option (List ℕ)} (n : ℕ) (kept : ProofState) (v : ℕ) (weights : List (ℕ × ℤ)) (act : Act) (work : ReadsWork before after v weights act) where
  work_found : (cause : Cause) → IsFoundByFeeding s arcs (state (AtWeights v 0 weights) n kept []) (ActLine work.raw) cause → IsWorkRefused s arcs n kept v weights act cause
  work_found cause h =
      let one = sym h.2 in
      let P : ℕ → Type 0 = λ u. IsWorkRefused s arcs n kept u h.1 (act_from work.raw) cause in
      let Q : List (ℕ × ℤ) → Type 0 = λ ws. IsWorkRefused s arcs n kept v ws (act_from work.raw) cause in
      let R : Act → Type 0 = λ a. IsWorkRefused s arcs n kept v weights a cause in
      subst R work.act_is (subst Q (same_weights h.0 v h.1 weights one) (subst P (same_node h.0 v h.1 weights one) h.3))

  work_there : (cause : Cause) → IsWorkRefused s arcs n kept v weights act cause → IsFoundByFeeding s arcs (state (AtWeights v 0 weights) n kept []) (ActLine work.raw) cause
  work_there cause h = let R : Act → Type 0 = λ a. IsWorkRefused s arcs n kept v weights a cause in (v, weights, refl, subst R (sym work.act_is) h)

pub work_on : (s : Site) (arcs : List CandidateArc) (first now after : Option (List ℕ)) (start lines later n : ℕ) (kept new : ProofState) (v : ℕ) (weights : List (ℕ × ℤ)) (act : Act)
    → HasRead s arcs first now start lines (state AtItem n kept []) (items_text n) → ReadsWork now after v weights act → later ≡ line_number_after lines (2 + length weights)
    → Accepts s arcs n kept (WorkItem v weights act) new → ((cause : Cause) → ¬ (IsWorkRefused s arcs n kept v weights act cause))
    → HasRead s arcs first after start later (state AtItem n new []) (items_text n)
work_on s arcs first now after start lines later n kept new v weights act h work e accepts none =
    let r = state AtItem n kept [] in
    let at_act = state (AtWeights v 0 weights) n kept [] in
    let done = state AtItem n new [] in
    let front = WorkLine (pos v) (pos (length weights)) ∷ weight_lines weights in
    let P : Act → Type 0 = λ a. Accepts s arcs n kept (WorkItem v weights a) new in
    let act_read = fed_line s arcs at_act done work.middle after (ActLine work.raw) (work.reads_act s at_act refl) (λ cause found. none cause (work_found s arcs n kept v weights act work cause found))
    (v, weights, new, refl, subst P (sym work.act_is) accepts, refl) in
    item_on s arcs first now after start lines later n kept new (WorkItem v weights act) (front ++ ActLine work.raw ∷ []) h
    (from_then s arcs r at_act done now work.middle after front (ActLine work.raw ∷ []) (from_of s arcs r at_act now work.middle front (work.reads s r refl)) act_read)
    work.text (counts weights lines later front refl e) accepts
  where
    counts : (ws : List (ℕ × ℤ)) (lines later : ℕ) (front : List DocLine) → front ≡ WorkLine (pos v) (pos (length ws)) ∷ weight_lines ws → later ≡ line_number_after lines (2 + length ws) → later ≡ line_number_after lines (length (front ++ ActLine work.raw ∷ []))
    counts ws lines later front f e = let a = length-append front (ActLine work.raw ∷ []) in let b = ap length f in let c = weight_count ws in omega (arith, a, b, c, e)

pub work_refused : (s : Site) (arcs : List CandidateArc) (first now after : Option (List ℕ)) (start lines n : ℕ) (kept : ProofState) (v : ℕ) (weights : List (ℕ × ℤ)) (act : Act) (refusal : Refusal)
    → HasRead s arcs first now start lines (state AtItem n kept []) (items_text n) → ReadsWork now after v weights act → refusal.line ≡ line_number_after lines (2 + length weights)
    → IsLeastCause (IsWorkRefused s arcs n kept v weights act) refusal.cause → IsRefusedFrom s arcs first start refusal
work_refused s arcs first now after start lines n kept v weights act refusal h work e least =
    let r = state AtItem n kept [] in
    let at_act = state (AtWeights v 0 weights) n kept [] in
    let front = WorkLine (pos v) (pos (length weights)) ∷ weight_lines weights in
    refused_feeding s arcs first work.middle after start (line_number_after lines (1 + length weights)) at_act (h.come.read_lines ++ front) (ActLine work.raw) refusal
    (from_then s arcs (reader_at AtBudget) r at_act first now work.middle h.come.read_lines front h.come.reads (from_of s arcs r at_act now work.middle front (work.reads s r refl)))
    (counts h.come.read_lines weights start lines front refl h.come.lines_are) (work.reads_act s at_act refl)
    (least_as (IsWorkRefused s arcs n kept v weights act) (IsFoundByFeeding s arcs at_act (ActLine work.raw)) refusal.cause (work_there s arcs n kept v weights act work) (work_found s arcs n kept v weights act work) least) (omega (arith, e))
  where
    counts : (ls : List DocLine) (ws : List (ℕ × ℤ)) (start lines : ℕ) (front : List DocLine) → front ≡ WorkLine (pos v) (pos (length ws)) ∷ weight_lines ws → lines ≡ line_number_after start (length ls) → line_number_after lines (1 + length ws) ≡ line_number_after start (length (ls ++ front))
    counts ls ws start lines front f e = let a = length-append ls front in let b = ap length f in let c = weight_count ws in omega (arith, a, b, c, e)

-- ---- the claim
pub claim_on : (s : Site) (arcs : List CandidateArc) (first now after : Option (List ℕ)) (start lines later n : ℕ) (kept : ProofState) (cables : List Cable) (front : List Item → List ℕ) (raw : RawClaim) (claim : Claim) → IsValid s
    → HasRead s arcs first now start lines (state (AtCables 0) n kept cables) front → IsClaimOf s raw claim → ReadsDocLine s (state (AtCables 0) n kept cables) now after (ClaimLine raw) → GivesFront now after (claim_line s claim)
    → later ≡ line_number_after lines 1 → ((cause : Cause) → ¬ (IsClaimRefused s n kept cables claim cause)) → HasRead s arcs first after start later (state AtLast n kept cables) (λ items. front items ++ claim_line s claim)
claim_on s arcs first now after start lines later n kept cables front raw claim valid h of read gives e none =
    read_on s arcs first now after start lines later (AtCables 0) AtLast n kept cables cables front (claim_line s claim) (ClaimLine raw ∷ []) h
    (fed_line s arcs (state (AtCables 0) n kept cables) (state AtLast n kept cables) now after (ClaimLine raw) read found refl) gives e
  where
    found : (cause : Cause) → ¬ (IsFoundByFeeding s arcs (state (AtCables 0) n kept cables) (ClaimLine raw) cause)
    found cause k = let P : Claim → Type 0 = λ c. IsClaimRefused s n kept cables c cause in none cause (subst P (claim-same s valid raw k.0 claim k.1 of) k.2)

pub claim_refused : (s : Site) (arcs : List CandidateArc) (first now after : Option (List ℕ)) (start lines n : ℕ) (kept : ProofState) (cables : List Cable) (front : List Item → List ℕ) (raw : RawClaim) (claim : Claim) (refusal : Refusal) → IsValid s
    → HasRead s arcs first now start lines (state (AtCables 0) n kept cables) front → IsClaimOf s raw claim → ReadsDocLine s (state (AtCables 0) n kept cables) now after (ClaimLine raw)
    → refusal.line ≡ line_number_after lines 1 → IsLeastCause (IsClaimRefused s n kept cables claim) refusal.cause → IsRefusedFrom s arcs first start refusal
claim_refused s arcs first now after start lines n kept cables front raw claim refusal valid h of read e least =
    refused_feeding s arcs first now after start lines (state (AtCables 0) n kept cables) h.come.read_lines (ClaimLine raw) refusal h.come.reads h.come.lines_are read
    (least_as (IsClaimRefused s n kept cables claim) (IsFoundByFeeding s arcs (state (AtCables 0) n kept cables) (ClaimLine raw)) refusal.cause (λ c k. (claim, of, k)) back least) e
  where
    back : (c : Cause) → IsFoundByFeeding s arcs (state (AtCables 0) n kept cables) (ClaimLine raw) c → IsClaimRefused s n kept cables claim c
    back c k = let P : Claim → Type 0 = λ x. IsClaimRefused s n kept cables x c in subst P (claim-same s valid raw k.0 claim k.1 of) k.2

-- ---- the budget
pub refused_budget : (s : Site) (arcs : List CandidateArc) (before : Option (List ℕ)) (lines : ℕ) (refusal : Refusal) → ((s : Site) (r : Reader) → r.phase ≡ AtBudget → RefusedAfter s r before lines refusal) → IsRefusedFrom s arcs before lines refusal
refused_budget s arcs before lines refusal d bytes e small =
    let r = reader_at AtBudget in
    refused_reading s arcs before before lines lines r [] refusal
    (record { read_lines = []; reads = reads_nothing s arcs r before; lines_are = omega (arith, small); text = gives_nothing before }) (d s r refl) bytes e small
