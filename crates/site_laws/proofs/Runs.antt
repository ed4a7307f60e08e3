-- Two runs of good items from one draft over one text, neither of which could go on, are one.
use Rattle.std.proofs.Common.{◌≡◌, ℕ, ◌+◌, List, [], ◌∷◌, length, Bool, true, false, ◌==◌, refl, sym, ap, ◌∙◌, subst, arith}
use Rattle.std.specs.Prelude.{nat_le}
use Rattle.std.proofs.lemmas.Bool.{eqb-true, leb-true, and_parts}
use Rattle.cable_definitions.specs.declared.site.SiteCode.{SiteCode}
use Rattle.cable_definitions.specs.declared.site.SiteCode.TheVariants.{Form, Shape}
use Rattle.cable_definitions.specs.Items.{RawItem, AVersion, AMode, AType, APoint, AnObstacle, ACorner, APair, TheEnd, Misshapen, Stray, Unended, Missing, Overlong, Draft, empty_draft, is_settled, is_broken_line, IsFirstCode, IsGood, Adds, IsItemAt, ReadsItems, IsLineFault}
use Rattle.site_model.proofs.Codes.{IsFirstCode-unique, IsFirstCode-good, not_broken}
use Rattle.site_laws.proofs.LineItems.{next_item, next_rest}
use Rattle.site_laws.proofs.Adding.{NamesDiffer, NamesDiffer-empty, adds_same, names_kept}

-- no good item stands next
abbrev pub Stops : Draft → List ℕ → Type 0
Stops d bytes = (item : RawItem) (after : List ℕ) → IsItemAt d.site.version bytes item after → IsGood d item → ⊥

-- no item is good behind the end
pub ended : (d : Draft) (item : RawItem) → d.stage ≡ 6 → IsGood d item → ⊥
ended d (AVersion v) six good = good Form (λ t. let s = eqb-true d.stage 0 t in omega arith)
ended d (AMode m) six good = good Form (λ t. let s = eqb-true d.stage 1 t in omega arith)
ended d (AType c p l) six good = good Form (λ t. let s = eqb-true d.stage 2 t in omega arith)
ended d (APoint n x y k) six good = good Form (λ t. let s = leb-true d.stage 3 (and_parts (is_settled d) (nat_le d.stage 3) t).1 in omega arith)
ended d (AnObstacle k) six good = good Form (λ t. let s = leb-true d.stage 4 (and_parts (is_settled d) (nat_le d.stage 4) t).1 in omega arith)
ended d (ACorner x y) six good = good Form (λ t. let s = eqb-true d.stage 4 (and_parts (d.stage == 4) (nat_le 1 d.missing) t).0 in omega arith)
ended d (APair a b r) six good = good Form (λ t. let s = leb-true d.stage 5 (and_parts (is_settled d) (nat_le d.stage 5) t).1 in omega arith)
ended d TheEnd six good = good Form (λ t. let s = leb-true d.stage 5 (and_parts (is_settled d) (nat_le d.stage 5) t).1 in omega arith)
ended d Misshapen six good = good Shape (λ h. let t : false ≡ true = h.0 in cc)
ended d Stray six good = good Form (λ t. let s : false ≡ true = t in cc)
ended d Unended six good = good Form (λ t. let s : false ≡ true = t in cc)
ended d Missing six good = good Form (λ t. let s : false ≡ true = t in cc)
ended d Overlong six good = good Form (λ t. let s : false ≡ true = t in cc)

-- so a run stops behind the end
pub stops_ended : (d : Draft) (bytes : List ℕ) → d.stage ≡ 6 → Stops d bytes
stops_ended d bytes six item after at good = ended d item six good

-- a run stops before a bad item
pub stops_bad : (d : Draft) (bytes rest : List ℕ) (bad : RawItem) (code : SiteCode) → IsItemAt d.site.version bytes bad rest → IsFirstCode d bad code → Stops d bytes
stops_bad d bytes rest bad code here first item after at good =
    let G : RawItem → Type 0 = λ i. IsGood d i in
    IsFirstCode-good d bad code (subst G (next_item d.site.version bytes item bad after rest at here) good) first

-- what adds to a draft is no broken line
pub adds_whole : (d e : Draft) (item : RawItem) → Adds d item e → is_broken_line item ≡ false
adds_whole d e item h = let Added : RawItem → Type 0 = λ i. Adds d i e in not_broken item (λ b. subst Added b h) (λ b. subst Added b h) (λ b. subst Added b h)

-- two runs that are one
pub record SameRun (items others : List RawItem) (e f : Draft) (rest left : List ℕ) : Type 0 where
  pub items_are : items ≡ others
  pub draft_is : e ≡ f
  pub rest_is : rest ≡ left

-- a run that has stopped goes on with no item
stopped : (d e : Draft) (bytes rest after : List ℕ) (item : RawItem) → (e ≡ d) × (rest ≡ bytes) → Stops e rest → IsItemAt d.site.version bytes item after → IsGood d item → ⊥
stopped d e bytes rest after item h stops at good =
    let P : Draft → Type 0 = λ g. Stops g rest in
    let Q : List ℕ → Type 0 = λ b. Stops d b in
    subst Q h.1 (subst P h.0 stops) item after at good

-- two runs that have stopped are one
pub same_run : (items others : List RawItem) (d e f : Draft) (bytes rest left : List ℕ) → NamesDiffer d → ReadsItems d bytes items e rest → Stops e rest → ReadsItems d bytes others f left → Stops f left → SameRun items others e f rest left
same_run [] [] d e f bytes rest left names h stop k end = record { items_are = refl; draft_is = h.0 ∙ sym k.0; rest_is = h.1 ∙ sym k.1 }
same_run [] (j ∷ js) d e f bytes rest left names h stop k end = absurd (stopped d e bytes rest k.1 j h stop k.2 k.3)
same_run (i ∷ is) [] d e f bytes rest left names h stop k end = absurd (stopped d f bytes left h.1 i k end h.2 h.3)
same_run (i ∷ is) (j ∷ js) d e f bytes rest left names h stop k end =
    let here = next_item d.site.version bytes i j h.1 k.1 h.2 k.2 in
    let behind = next_rest d.site.version bytes i j h.1 k.1 h.2 k.2 (adds_whole d h.0 i h.4) in
    let A : RawItem → Type 0 = λ x. Adds d x h.0 in
    let same = adds_same d j h.0 k.0 names (subst A here h.4) k.4 in
    let P : Draft → Type 0 = λ g. ReadsItems g h.1 is e rest in
    let Q : List ℕ → Type 0 = λ b. ReadsItems k.0 b is e rest in
    let later = same_run is js k.0 e f k.1 rest left (names_kept d k.0 j names k.3 k.4) (subst Q behind (subst P same h.5)) stop k.5 end in
    let t = later.items_are in
    record { items_are = cc; draft_is = later.draft_is; rest_is = later.rest_is }

-- ---- faults
-- the good lines before a fault can't go on
fault_stops : (bytes : List ℕ) (base : ℕ) (code : SiteCode) (place : ℕ) (broken_line : Bool) → (h : IsLineFault bytes base code place broken_line) → Stops h.draft h.left
fault_stops bytes base code place broken_line h = stops_bad h.draft h.left h.rest h.bad code h.bad_at h.first

-- one item stands next, and its first code is one
next_code : (d e : Draft) (bytes left rest after : List ℕ) (item other : RawItem) (code found : SiteCode) → d ≡ e → bytes ≡ left → IsItemAt d.site.version bytes item rest → IsFirstCode d item code
    → IsItemAt e.site.version left other after → IsFirstCode e other found → (item ≡ other) × (code ≡ found)
next_code d e bytes left rest after item other code found same here at first next second =
    let P : Draft → Type 0 = λ g. IsItemAt g.site.version bytes item rest in
    let Q : List ℕ → Type 0 = λ b. IsItemAt e.site.version b item rest in
    let one = next_item e.site.version left item other rest after (subst Q here (subst P same at)) next in
    let R : Draft → Type 0 = λ g. IsFirstCode g item code in
    let S : RawItem → Type 0 = λ i. IsFirstCode e i code in
    (one, IsFirstCode-unique e other code found (subst S one (subst R same first)) second)

-- a fault of lines is one
pub line_fault_same : (bytes : List ℕ) (base : ℕ) (code other : SiteCode) (place there : ℕ) (broken_line broken : Bool) → IsLineFault bytes base code place broken_line → IsLineFault bytes base other there broken
    → (code ≡ other) × (place ≡ there) × (broken_line ≡ broken)
line_fault_same bytes base code other place there broken_line broken h k =
    let run = same_run h.good k.good empty_draft h.draft k.draft bytes h.left k.left NamesDiffer-empty h.reads (fault_stops bytes base code place broken_line h) k.reads (fault_stops bytes base other there broken k) in
    let next = next_code h.draft k.draft h.left k.left h.rest k.rest h.bad k.bad code other run.draft_is run.rest_is h.bad_at h.first k.bad_at k.first in (
      next.1,
      h.place_is ∙ ap (λ (is : List RawItem). base + length is) run.items_are ∙ sym k.place_is,
      h.broken_line_is ∙ ap is_broken_line next.0 ∙ sym k.broken_line_is,
    )

-- a run to the end leaves no fault
pub no_line_fault : (bytes rest : List ℕ) (items : List RawItem) (e : Draft) (base : ℕ) (code : SiteCode) (place : ℕ) (broken_line : Bool) → ReadsItems empty_draft bytes items e rest → e.stage ≡ 6 → IsLineFault bytes base code place broken_line → ⊥
no_line_fault bytes rest items e base code place broken_line h six k =
    let run = same_run items k.good empty_draft e k.draft bytes rest k.left NamesDiffer-empty h (stops_ended e rest six) k.reads (fault_stops bytes base code place broken_line k) in
    k.not_ended (ap (λ (g : Draft). g.stage) (sym run.draft_is) ∙ six)

-- two runs to the end are one
pub ended_same : (bytes rest left : List ℕ) (items others : List RawItem) (e f : Draft) → ReadsItems empty_draft bytes items e rest → e.stage ≡ 6 → ReadsItems empty_draft bytes others f left → f.stage ≡ 6 → SameRun items others e f rest left
ended_same bytes rest left items others e f h six k also = same_run items others empty_draft e f bytes rest left NamesDiffer-empty h (stops_ended e rest six) k (stops_ended f left also)
