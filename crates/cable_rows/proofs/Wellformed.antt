-- Members of well-formed rows, and tables of them.
use Rattle.std.proofs.Common.{◌≡◌, ◌≢◌, ℕ, zero, suc, ◌+◌, ◌-◌, ◌<◌, ◌≤◌, ◌⊎◌, inl, inr, Bool, true, false, List, [], ◌∷◌, length, get_or, set, take, slice_get, Some, refl, ap, sym, ◌∙◌, subst, arith}
use Rattle.std.specs.Prelude.{◌==◌, ◌||◌, All, AllPairs, IsTrue, replicate}
use Rattle.std.proofs.lemmas.Bool.{cases_order}
use Rattle.std.proofs.lemmas.Bool.Decides.{eqb_tells}
use Rattle.std.proofs.lemmas.List.{get_or-set_same, get_or-set_other, get_or-replicate, get_or_past, take_more, length-replicate}
use Rattle.std.proofs.lemmas.List.Folds.{list_any-append}
use Rattle.std.proofs.lemmas.Option.{slice_get-get_or}
use Rattle.cable_definitions.specs.declared.cable.Arc.{Arc}
use Rattle.cable_definitions.specs.declared.row.RowKind.{RowKind}
use Rattle.cable_definitions.specs.declared.row.RowKind.TheVariants.{Out, Flow, Inlet, Bend, Power, One, Cut}
use Rattle.cable_definitions.specs.Site.{Site, IsValid}
use Rattle.cable_definitions.specs.Row.{IsWellFormed, RightCount, InRange, Ascending, member_count, is_member, has_one_member}

-- a row on points asks for points
counts_points : (s : Site) (arcs : List Arc) (kind : RowKind) → kind ≢ One → member_count s arcs kind ≡ length s.points
counts_points s arcs Out n = refl
counts_points s arcs Flow n = refl
counts_points s arcs Inlet n = refl
counts_points s arcs Bend n = refl
counts_points s arcs Power n = refl
counts_points s arcs One n = absurd (n refl)
counts_points s arcs Cut n = refl

-- the members of a row on points are below 256
pub points_below : (s : Site) (arcs : List Arc) (kind : RowKind) (members : List ℕ) → IsValid s → IsWellFormed s arcs (record { kind = kind; members = members }) → kind ≢ One → All (λ m. m < 256) members
points_below s arcs kind members v w n k d l = omega (arith, w InRange k 0 (get_or members k d) (slice_get-get_or members k d l), counts_points s arcs kind n, v.points_count)

-- a row has at most 256 members
pub few_members : (s : Site) (arcs : List Arc) (kind : RowKind) (members : List ℕ) → IsWellFormed s arcs (record { kind = kind; members = members }) → length members ≤ 256
few_members s arcs kind members w = (w RightCount 0 0).1

-- a row of one member has one
pub one_member : (s : Site) (arcs : List Arc) (kind : RowKind) (members : List ℕ) → IsWellFormed s arcs (record { kind = kind; members = members }) → IsTrue (has_one_member kind) → length members ≡ 1
one_member s arcs kind members w = (w RightCount 0 0).0

-- neighbours that ascend are below all that come later
later_above : (members : List ℕ) → ((i m n : ℕ) → slice_get members i ≡ Some m → slice_get members (i + 1) ≡ Some n → m < n) → (i k : ℕ) (d : ℕ) → i + 1 + k < length members → get_or members i d < get_or members (i + 1 + k) d
later_above members a i zero d l =
    let h = a i (get_or members i d) (get_or members (i + 1) d) (slice_get-get_or members i d (omega arith)) (slice_get-get_or members (i + 1) d (omega arith)) in
    let e : i + 1 + 0 ≡ i + 1 = omega arith in
    rw e h
later_above members a i (suc k) d l =
    let before = later_above members a i k d (omega arith) in
    let h = a (i + 1 + k) (get_or members (i + 1 + k) d) (get_or members (i + 1 + k + 1) d) (slice_get-get_or members (i + 1 + k) d (omega arith)) (slice_get-get_or members (i + 1 + k + 1) d (omega arith)) in
    let e : i + 1 + suc k ≡ i + 1 + k + 1 = omega arith in
    rw e (omega (arith, before, h))

-- the members of a row ascend
pub members_ascend : (s : Site) (arcs : List Arc) (kind : RowKind) (members : List ℕ) → IsWellFormed s arcs (record { kind = kind; members = members }) → AllPairs (λ m n. m < n) members
members_ascend s arcs kind members w i j d l h =
    let e : i + 1 + (j - (i + 1)) ≡ j = omega arith in
    rw e at (later_above members (λ k. w Ascending k 0) i (j - (i + 1)) d (omega arith))

-- ---- the table of members
-- an empty table has no member
pub no_members : (n p : ℕ) → get_or (replicate n false) p false ≡ false
no_members n p = elim (cases_order p n) [
  | inl e ↦ get_or_past (replicate n false) p false (omega (arith, length-replicate n false))
  | inr (inl below) ↦ get_or-replicate n p false false below
  | inr (inr above) ↦ get_or_past (replicate n false) p false (omega (arith, length-replicate n false))
]

-- one more member is told
pub member_told : (has : List Bool) (members : List ℕ) (i m d : ℕ) → i < length members → m ≡ get_or members i d → m < length has
    → ((p : ℕ) → get_or has p false ≡ is_member (take i members) p) → (p : ℕ) → get_or (set has m true) p false ≡ is_member (take (i + 1) members) p
member_told has members i m d l e within before p =
    let more = take_more members i d l in
    let parts = list_any-append (λ n. n == p) (take i members) (get_or members i d ∷ []) in
    (by_case (eqb_tells m p) ∙ ap (λ (b : Bool). b || (m == p || false)) (before p)) ∙ (ap (λ (n : ℕ). is_member (take i members) p || (n == p || false)) e ∙ (sym parts ∙ ap (λ (ms : List ℕ). is_member ms p) (sym more)))
  where
    or_nothing : (b : Bool) → b ≡ (b || (false || false))
    or_nothing true = refl
    or_nothing false = refl

    or_all : (b : Bool) → true ≡ (b || (true || false))
    or_all true = refl
    or_all false = refl

    by_case : (((m == p) ≡ true) × (m ≡ p)) ⊎ (((m == p) ≡ false) × (m ≢ p)) → get_or (set has m true) p false ≡ (get_or has p false || (m == p || false))
    by_case (inl (t, same)) = rw t (subst (λ (q : ℕ). get_or (set has m true) q false ≡ (get_or has q false || (true || false))) same (get_or-set_same has m true false within ∙ or_all (get_or has m false)))
    by_case (inr (t, other)) = rw t (get_or-set_other has m p true false (λ q. other (sym q)) ∙ or_nothing (get_or has p false))
