-- The arcs that the cables of a layout lie on, and the left sides of rows as sums over cables.
use Rattle.std.proofs.Common.{◌≡◌, ℕ, ◌+◌, ◌<◌, inl, inr, Bool, true, false, cond, ℤ, pos, ◌+ℤ◌, ◌*ℤ◌, List, [], ◌∷◌, map, slice_get, Some, refl, ap, sym, ◌∙◌, arith, eq-eqb, eqb-true}
use Rattle.std.specs.Prelude.{◌==◌, ◌&&◌}
use Rattle.std.specs.List.{enumerate_from, zip}
use Rattle.std.proofs.lemmas.Int.{ints}
use Rattle.cable_definitions.specs.declared.cable.Cable.{Cable}
use Rattle.cable_definitions.specs.declared.cable.Arc.{Arc}
use Rattle.cable_definitions.specs.Site.{Site}
use Rattle.cable_definitions.specs.Arcs.{AreArcs, ArcBefore}
use Rattle.cable_definitions.specs.Walk.{load}
use Rattle.cable_definitions.specs.Layout.{IsCable, KeepsCandidate}
use Rattle.cable_definitions.specs.Row.{Row, on_use, on_load, count_of, left, has_arc, flow_of}
use Rattle.number_laws.proofs.Ring.{var, nat, plus, times, same_value}
use Rattle.number_laws.proofs.Sums.{sum_int, sum_int-cons, sum_int-same}
use Rattle.layout_laws.specs.Alike.{StartsDiffer}
use Rattle.layout_laws.proofs.Used.{sum_int-used_arcs}
use Rattle.proof_laws.proofs.Lists.{any_at, pairs_at, both, both_pass, list_any-place, list_any-at, sum_int-enumerate}

-- whether a cable lies on an arc
abbrev pub is_on : Cable → Arc → Bool
is_on c a = (c.from == a.from) && (c.to == a.to)

-- a cable on an arc has its start and its end
pub is_on-ends : (c : Cable) (a : Arc) → is_on c a ≡ true → (c.from ≡ a.from) × (c.to ≡ a.to)
is_on-ends c a h = let r = both (c.from == a.from) (c.to == a.to) h in (eqb-true c.from a.from r.0, eqb-true c.to a.to r.1)

-- and lies on it where it has
pub is_on-from_ends : (c : Cable) (a : Arc) → c.from ≡ a.from → c.to ≡ a.to → is_on c a ≡ true
is_on-from_ends c a e f = both_pass (c.from == a.from) (c.to == a.to) (eq-eqb c.from a.from e) (eq-eqb c.to a.to f)

-- A cable of the list with the start and the end of an arc.
pub record CableOn (cables : List Cable) (a : Arc) : Type 0 where
  pub place : ℕ
  pub cable : Cable
  pub is_cable : IsCable cables place cable
  pub from : cable.from ≡ a.from
  pub to : cable.to ≡ a.to

-- a layout that has an arc has a cable on it
pub cable_on : (cables : List Cable) (a : Arc) → has_arc cables a ≡ true → CableOn cables a
cable_on cables a h =
    let r = list_any-place (λ c. is_on c a) cables h in
    let e = is_on-ends r.1 a r.3 in
    record { place = r.0; cable = r.1; is_cable = r.2; from = e.0; to = e.1 }

-- a layout has the arcs of its cables
pub has_arc-from : (cables : List Cable) (a : Arc) (i : ℕ) (c : Cable) → IsCable cables i c → c.from ≡ a.from → c.to ≡ a.to → has_arc cables a ≡ true
has_arc-from cables a i c e f g = list_any-at (λ c. is_on c a) cables i c e (is_on-from_ends c a f g)

-- two arcs of one start and one end stand at one place
pub arc_place : (s : Site) (arcs : List Arc) → AreArcs s arcs → (i j : ℕ) (a b : Arc) → slice_get arcs i ≡ Some a → slice_get arcs j ≡ Some b → a.from ≡ b.from → a.to ≡ b.to → i ≡ j
arc_place s arcs are i j a b e f u v = by_lt i j (λ l. absurd (before a b (pairs_at ArcBefore arcs are.in_order i j a b l e f) u v)) (λ l. absurd (before b a (pairs_at ArcBefore arcs are.in_order j i b a l f e) (sym u) (sym v)))
  where
    before : (x y : Arc) → ArcBefore x y → x.from ≡ y.from → x.to ≡ y.to → ⊥
    before x y h u v = elim h [ inl l ↦ (let m : x.from < y.from = l in omega arith) | inr l ↦ (let m : x.to < y.to = l.1 in omega arith) ]

    by_lt : (m n : ℕ) → (m < n → m ≡ n) → (n < m → m ≡ n) → m ≡ n
    by_lt m n f g = grind arith

-- each cable of candidate arcs lies on a listed arc
pub arc_of : (s : Site) (arcs : List Arc) (cables : List Cable) → AreArcs s arcs → ((i : ℕ) → KeepsCandidate s cables i) → (i : ℕ) (c : Cable) → IsCable cables i c
    → (k : ℕ) × (a : Arc) × (slice_get arcs k ≡ Some a) × (a.from ≡ c.from) × (a.to ≡ c.to)
arc_of s arcs cables are candidate i c e =
    let r = any_at (λ (a : Arc). (a.from ≡ c.from) × (a.to ≡ c.to)) arcs (are.all_candidates c.from c.to (candidate i c e)) in
    (r.0, r.1, r.2, r.3.0, r.3.1)

-- two places in the list of one start are one
pub place-by_start : (cables : List Cable) → StartsDiffer cables → (i j : ℕ) (c d : Cable) → IsCable cables i c → IsCable cables j d → c.from ≡ d.from → i ≡ j
place-by_start cables differ i j c d e f same = by_lt i j (λ l. absurd (differ j i d c f e l same)) (λ l. absurd (differ i j c d e f l (sym same)))
  where
    by_lt : (m n : ℕ) → (m < n → m ≡ n) → (n < m → m ≡ n) → m ≡ n
    by_lt m n f g = grind arith

-- the left side of a row, where each arc's use and load is given by a function
pub left-by : (row : Row) (flow : Arc → ℕ × ℕ) (arcs : List Arc)
    → left row arcs (map flow arcs) ≡ sum_int (λ (x : ℕ × Arc). count_of row (x.0, (x.1, flow x.1))) (enumerate_from 0 arcs)
left-by row flow arcs = from 0 arcs
  where
    from : (n : ℕ) (arcs : List Arc) → sum_int (count_of row) (enumerate_from n (zip arcs (map flow arcs))) ≡ sum_int (λ (x : ℕ × Arc). count_of row (x.0, (x.1, flow x.1))) (enumerate_from n arcs)
    from n [] = refl
    from n (a ∷ arcs) =
        omega (
          arith,
          ints,
          sum_int-cons (count_of row) (n, (a, flow a)) (enumerate_from (n + 1) (zip arcs (map flow arcs))),
          sum_int-cons (λ (x : ℕ × Arc). count_of row (x.0, (x.1, flow x.1))) (n, a) (enumerate_from (n + 1) arcs),
          from (n + 1) arcs,
        )

-- what a row counts an arc as: what it counts its use and each unit of its load as, where it is used
pub counted-if : (b : Bool) (u v : ℤ) (n : ℕ) → (u *ℤ pos (cond b 1 0) +ℤ v *ℤ pos (cond b n 0)) ≡ cond b (u +ℤ v *ℤ pos n) (pos 0)
counted-if true u v n = same_value (plus (times (var u) (nat 1)) (times (var v) (nat n))) (plus (var u) (times (var v) (nat n))) (omega arith)
counted-if false u v n = same_value (plus (times (var u) (nat 0)) (times (var v) (nat 0))) (nat 0) (omega arith)

-- the left side of a row whose counts don't depend on the numbers of arcs is a sum over the cables
pub left-over_cables : (s : Site) (arcs : List Arc) (cables : List Cable) → AreArcs s arcs → StartsDiffer cables → ((i : ℕ) → KeepsCandidate s cables i)
    → (row : Row) (on_cable : ℕ → ℕ → ℤ) → ((a p q : ℕ) → on_use row.kind row.members a p q ≡ on_cable p q)
    → left row arcs (map (flow_of s cables) arcs) ≡ sum_int (λ (c : Cable). on_cable c.from c.to +ℤ on_load row.kind row.members c.from c.to *ℤ pos (load s cables c.from)) cables
left-over_cables s arcs cables are differ candidate row on_cable e =
    let g = λ (p q : ℕ). on_cable p q +ℤ on_load row.kind row.members p q *ℤ pos (load s cables p) in
    let f = λ (a : Arc). cond (has_arc cables a) (g a.from a.to) (pos 0) in
    left-by row (flow_of s cables) arcs
    ∙ sum_int-same (λ (x : ℕ × Arc). count_of row (x.0, (x.1, flow_of s cables x.1))) (λ x. f x.1) (enumerate_from 0 arcs) (λ x.
    ap (λ (u : ℤ). u *ℤ pos (cond (has_arc cables x.1) 1 0) +ℤ on_load row.kind row.members x.1.from x.1.to *ℤ pos (cond (has_arc cables x.1) (load s cables x.1.from) 0)) (e x.0 x.1.from x.1.to)
    ∙ counted-if (has_arc cables x.1) (on_cable x.1.from x.1.to) (on_load row.kind row.members x.1.from x.1.to) (load s cables x.1.from))
    ∙ sum_int-enumerate f arcs 0
    ∙ sum_int-used_arcs s arcs cables are candidate differ g
