-- The weights of turbines where no arc is marked unused.
use Rattle.std.proofs.Common.{◌≡◌, ◌≢◌, ℕ, zero, suc, ◌<◌, ◌≤◌, ◌⊎◌, inl, inr, ℤ, List, [], ◌∷◌, slice_get, slice_index_or, Some, IsTrue, refl, ap, sym, ◌∙◌, subst, arith}
use Rattle.std.specs.Prelude.{All}
use Rattle.std.proofs.lemmas.Bool.{cases_order}
use Rattle.std.proofs.lemmas.Bool.Decides.{eqb_tells}
use Rattle.cable_definitions.specs.declared.cable.Arc.{Arc}
use Rattle.cable_definitions.specs.declared.row.Mark.{Mark}
use Rattle.cable_definitions.specs.declared.row.Mark.TheVariants.{Unused}
use Rattle.cable_definitions.specs.declared.row.RowKind.{RowKind}
use Rattle.cable_definitions.specs.declared.row.RowKind.TheVariants.{Out, Flow, Inlet, Bend, Power, One, Cut}
use Rattle.cable_definitions.specs.Site.{Site}
use Rattle.cable_definitions.specs.Arcs.{AreArcs, IsCandidate, kind_of, is_turbine, power_of, cost_of}
use Rattle.cable_definitions.specs.Budget.{IsLeastOut}
use Rattle.cable_definitions.specs.Row.{Row, IsWellFormed}
use Rattle.layout_laws.proofs.Typing.{all-at}
use Rattle.proof_laws.specs.Decided.{HasPointRows}
use Rattle.proof_laws.specs.OutWeights.{AreOutWeights, AreNearestWeights}
use Rattle.proof_laws.proofs.Lists.{any_at, pairs_at}
use Rattle.proof_laws.proofs.FullLemma.{row_at-formed, within-turbine}
use Rattle.proof_laws.proofs.NearestValue.{out-row}
use Rattle.proof_laws.proofs.TurbineWeights.{nearest-out}
use Rattle.turbine_weights.specs.Turbines.{out_row, IsLeft, IsLeastLeft, IsFirstRow, IsTurbineWeight, AreTurbineWeights}
use Rattle.turbine_weights.proofs.Weighing.{same_turbine}

-- ---- all arcs are left
-- a candidate arc out of p is left
left_from : (s : Site) (arcs : List Arc) (marks : List Mark) → AreArcs s arcs → ((a : ℕ) → slice_get marks a ≢ Some Unused) → (p q : ℕ) → IsCandidate s p q
    → (a : ℕ) × (arc : Arc) × IsLeft arcs marks p a arc × (arc.to ≡ q)
left_from s arcs marks are free p q way =
    let r = any_at (λ (a : Arc). (a.from ≡ p) × (a.to ≡ q)) arcs (are.all_candidates p q way) in
    (r.0, r.1, record { listed = r.2; start = r.3.0; not_unused = free r.0 }, r.3.1)

-- an arc out of p that is left is a candidate
left_way : (s : Site) (arcs : List Arc) (marks : List Mark) → AreArcs s arcs → (p a : ℕ) (arc : Arc) → IsLeft arcs marks p a arc → IsCandidate s p arc.to
left_way s arcs marks are p a arc left =
    subst (λ (q : ℕ). IsCandidate s q arc.to) left.start (all-at (λ (a : Arc). IsCandidate s a.from a.to) arcs a arc are.candidates left.listed)

-- the least cost of what is left is the least cost out of p
pub least_out-left : (s : Site) (arcs : List Arc) (marks : List Mark) → AreArcs s arcs → ((a : ℕ) → slice_get marks a ≢ Some Unused) → (p cost : ℕ) → IsLeastLeft s arcs marks p cost → IsLeastOut s p cost
least_out-left s arcs marks are free p cost h = record {
  to = h.arc.to;
  grade = h.grade;
  candidate = left_way s arcs marks are p h.a h.arc h.is_left;
  bears = h.bears;
  reached = h.reached;
  least = λ q other way bears.
      let r = left_from s arcs marks are free p q way in
      subst (λ (k : ℕ). cost ≤ cost_of s p k other (power_of s p)) r.3 (h.least r.0 other r.1 r.2 bears);
}

-- and the other way round
pub least_left-out : (s : Site) (arcs : List Arc) (marks : List Mark) → AreArcs s arcs → ((a : ℕ) → slice_get marks a ≢ Some Unused) → (p cost : ℕ) → IsLeastOut s p cost → IsLeastLeft s arcs marks p cost
least_left-out s arcs marks are free p cost h =
    let r = left_from s arcs marks are free p h.to h.candidate in
    record {
      a = r.0;
      arc = r.1;
      grade = h.grade;
      is_left = r.2;
      bears = h.bears;
      reached = h.reached ∙ ap (λ (k : ℕ). cost_of s p k h.grade (power_of s p)) (sym r.3);
      least = λ b other beside left bears. h.least beside.to other (left_way s arcs marks are p b beside left) bears;
    }

-- ---- first rows
-- whether the kind and the members are those of turbine p's row
is_out_row : (p : ℕ) (kind : RowKind) (members : List ℕ) → (record { kind = kind; members = members } ≡ out_row p) ⊎ (record { kind = kind; members = members } ≢ out_row p)
is_out_row p Out [] = inr (λ e. let q : [] ≡ p ∷ [] = ap (λ (r : Row). r.members) e in absurd (cc))
is_out_row p Out (m ∷ []) = elim (eqb_tells m p) [
  | inl same ↦ inl (ap out_row same.1)
  | inr other ↦ inr (λ e. other.1 (ap (λ (r : Row). slice_index_or r.members 0 0) e))
]
is_out_row p Out (m ∷ n ∷ members) = inr (λ e. let q : m ∷ n ∷ members ≡ p ∷ [] = ap (λ (r : Row). r.members) e in absurd (cc))
is_out_row p Flow members = inr (λ e. let q : Flow ≡ Out = ap (λ (r : Row). r.kind) e in absurd (cc))
is_out_row p Inlet members = inr (λ e. let q : Inlet ≡ Out = ap (λ (r : Row). r.kind) e in absurd (cc))
is_out_row p Bend members = inr (λ e. let q : Bend ≡ Out = ap (λ (r : Row). r.kind) e in absurd (cc))
is_out_row p Power members = inr (λ e. let q : Power ≡ Out = ap (λ (r : Row). r.kind) e in absurd (cc))
is_out_row p One members = inr (λ e. let q : One ≡ Out = ap (λ (r : Row). r.kind) e in absurd (cc))
is_out_row p Cut members = inr (λ e. let q : Cut ≡ Out = ap (λ (r : Row). r.kind) e in absurd (cc))

-- where a row of p is listed, one is the first
some_first : (rows : List Row) (p i : ℕ) → slice_get rows i ≡ Some (out_row p) → (r : ℕ) × IsFirstRow rows p r
some_first [] p i e = absurd (cc)
some_first (row ∷ rows) p zero e = (0, record { listed = e; first = λ i f. omega arith })
some_first (row ∷ rows) p (suc i) e = elim (is_out_row p row.kind row.members) [
  | inl same ↦ (0, record { listed = ap (λ (r : Row). Some r) same; first = λ i f. omega arith })
  | inr other ↦
      let r = some_first rows p i e in
      (suc r.0, record { listed = r.1.listed; first = later r.0 r.1 other })
]
  where
    later : (r : ℕ) → IsFirstRow rows p r → row ≢ out_row p → (i : ℕ) → slice_get (row ∷ rows) i ≡ Some (out_row p) → suc r ≤ i
    later r h other zero f = absurd (other (let same : row ≡ out_row p = cc in same))
    later r h other (suc i) f = let l = h.first i f in omega (arith, l)

-- ---- the weights
-- where all rows of points are listed and no arc is unused, the weights are the least costs out of the turbines
pub turbine_weights-nearest : (s : Site) (arcs : List Arc) (rows : List Row) (marks : List Mark) (weights : List (ℕ × ℤ)) → AreArcs s arcs → All (IsWellFormed s arcs) rows → HasPointRows s arcs rows
    → ((a : ℕ) → slice_get marks a ≢ Some Unused) → AreTurbineWeights s arcs rows marks weights → AreNearestWeights s rows weights
turbine_weights-nearest s arcs rows marks weights are formed has free h = record {
  listed = λ i w e.
      let t = weight_at i w e in
      (t.turbine, t.cost, t.row.listed, stands w.0 t.turbine t.row.listed, least_out-left s arcs marks are free t.turbine t.cost t.least, t.value);
  once = λ i j p v w e f a b.
      let t = weight_at i v e in
      let u = weight_at j w f in
      let low : v.0 ≤ w.0 = t.row.first w.0 (b ∙ ap (λ (q : ℕ). Some (out_row q)) (same_turbine rows v.0 p t.turbine a t.row.listed)) in
      let high : w.0 ≤ v.0 = u.row.first v.0 (a ∙ ap (λ (q : ℕ). Some (out_row q)) (same_turbine rows w.0 p u.turbine b u.row.listed)) in
      elim (cases_order i j) [
        | inl same ↦ same
        | inr (inl less) ↦ absurd (let l = pairs_at (λ (v w : ℕ × ℤ). v.0 < w.0) weights h.ascending i j v w less e f in omega (arith, l, high))
        | inr (inr more) ↦ absurd (let l = pairs_at (λ (v w : ℕ × ℤ). v.0 < w.0) weights h.ascending j i w v more f e in omega (arith, l, low))
      ];
  each = λ p cost turbine least some.
      let row = has (out_row p) (inl refl) (row_at-formed s arcs Out p (λ e. cc) (λ e. cc) (within-turbine s p turbine) turbine) in
      weighed p cost (some_first rows p row.0 row.1) least some;
}
  where
    weight_at : (i : ℕ) (w : ℕ × ℤ) → slice_get weights i ≡ Some w → IsTurbineWeight s arcs rows marks w.0 w.1
    weight_at i w e = all-at (λ (w : ℕ × ℤ). IsTurbineWeight s arcs rows marks w.0 w.1) weights i w h.are_weights e

    weighed : (p cost : ℕ) → ((r : ℕ) × IsFirstRow rows p r) → IsLeastOut s p cost → cost ≢ 0 → (i : ℕ) × (w : ℕ × ℤ) × (slice_get weights i ≡ Some w) × (slice_get rows w.0 ≡ Some (out_row p))
    weighed p cost (r, first) least some =
        let found = any_at (λ (w : ℕ × ℤ). w.0 ≡ r) weights (h.each p r cost first (least_left-out s arcs marks are free p cost least) some) in
        (found.0, found.1, found.2, ap (slice_get rows) found.3 ∙ first.listed)

    stands : (r p : ℕ) → slice_get rows r ≡ Some (out_row p) → IsTrue (is_turbine (kind_of s p))
    stands r p e =
        let t = out-row s arcs (out_row p) refl (all-at (IsWellFormed s arcs) rows r (out_row p) formed e) in
        subst (λ (q : ℕ). IsTrue (is_turbine (kind_of s q))) (sym (ap (λ (ms : List ℕ). slice_index_or ms 0 0) t.members_are)) t.turbine_there

-- so they are weights on the rows of turbines that reach the least costs and exceed no arc's
pub turbine_weights-out : (s : Site) (arcs : List Arc) (rows : List Row) (marks : List Mark) (weights : List (ℕ × ℤ)) → AreArcs s arcs → All (IsWellFormed s arcs) rows → HasPointRows s arcs rows
    → ((a : ℕ) → slice_get marks a ≢ Some Unused) → AreTurbineWeights s arcs rows marks weights → AreOutWeights s arcs rows marks weights
turbine_weights-out s arcs rows marks weights are formed has free h =
    nearest-out s arcs rows marks weights are formed (turbine_weights-nearest s arcs rows marks weights are formed has free h)
