-- One weight on the row of each turbine, 2^20 times the least cost out of it: these weights raise the value to the sum of the least costs.
use Rattle.std.proofs.Common.{◌≡◌, ℕ, zero, suc, ◌*◌, ◌^◌, ◌<◌, ◌≤◌, Bool, true, false, cond, eqb, ℤ, pos, ◌*ℤ◌, ◌≤ℤ◌, List, [], ◌∷◌, length, slice_get, Some, None, Option, refl, ap, sym, ◌∙◌, subst, arith, eq-eqb, eqb-true}
use Rattle.std.specs.Prelude.{◌||◌, IsTrue, All}
use Rattle.std.specs.List.{list_any}
use Rattle.std.proofs.lemmas.Int.{ints}
use Rattle.std.proofs.Math.Nat.{mul-le-mul_left}
use Rattle.cable_definitions.specs.declared.cable.Arc.{Arc}
use Rattle.cable_definitions.specs.declared.row.Mark.{Mark}
use Rattle.cable_definitions.specs.declared.row.RowKind.TheVariants.{Out}
use Rattle.cable_definitions.specs.Site.{Site}
use Rattle.cable_definitions.specs.Arcs.{AreArcs, IsCandidate, kind_of, is_turbine, power_of, cost_of}
use Rattle.cable_definitions.specs.Budget.{IsLeastOut, IsNearest}
use Rattle.cable_definitions.specs.Row.{Row, is_member, one_if, IsWellFormed}
use Rattle.cable_definitions.specs.Choice.{at_row, IsValue}
use Rattle.number_laws.proofs.Ring.{var, nat, times, same_value}
use Rattle.number_laws.proofs.Sums.{sum_int-same_on}
use Rattle.number_laws.proofs.Matches.{count_by-at_most_one, sum_int-one_match}
use Rattle.layout_laws.proofs.Typing.{all-at}
use Rattle.layout_laws.proofs.LeastOut.{some_least_out, IsLeastOut-same}
use Rattle.proof_laws.specs.OutWeights.{weight_at, AreOutWeights, AreNearestWeights}
use Rattle.proof_laws.proofs.Lists.{list_any-at}
use Rattle.proof_laws.proofs.NearestValue.{value-nearest}

-- whether a row has the member p
abbrev pub has_member : ℕ → Option Row → Bool
has_member p None = false
has_member p (Some row) = is_member row.members p

-- the weight of one member
weight_of-member : (z c : ℤ) (q p : ℕ) → ((q ≡ p) → z ≡ c) → z *ℤ one_if (is_member (q ∷ []) p) ≡ cond (is_member (q ∷ []) p) c (pos 0)
weight_of-member z c q p h = by (eqb q p) refl
  where
    by : (b : Bool) → eqb q p ≡ b → z *ℤ one_if (eqb q p || false) ≡ cond (eqb q p || false) c (pos 0)
    by true e = rw e (same_value (times (var z) (nat 1)) (var z) (omega arith) ∙ h (eqb-true q p e))
    by false e = rw e (same_value (times (var z) (nat 0)) (nat 0) (omega arith))

-- the weight of a turbine is 2^20 times the least cost out of it, where it has one
weight_at-one : (s : Site) (rows : List Row) (weights : List (ℕ × ℤ)) → AreNearestWeights s rows weights → (p cost : ℕ) → IsLeastOut s p cost
    → weight_at rows weights p ≡ cond (list_any (λ (w : ℕ × ℤ). has_member p (slice_get rows w.0)) weights) (pos (2 ^ 20 * cost)) (pos 0)
weight_at-one s rows weights near p cost least =
    sum_int-same_on (λ (w : ℕ × ℤ). w.1 *ℤ at_row (λ row. one_if (is_member row.members p)) (slice_get rows w.0)) (λ w. cond (test w) (pos (2 ^ 20 * cost)) (pos 0)) weights (λ i w e.
    let l = near.listed i w e in
    ap (λ (o : Option Row). w.1 *ℤ at_row (λ row. one_if (is_member row.members p)) o) l.2
    ∙ weight_of-member w.1 (pos (2 ^ 20 * cost)) l.0 p (λ same. l.5 ∙ ap (λ (k : ℕ). pos (2 ^ 20 * k)) (IsLeastOut-same s p l.1 cost (subst (λ (q : ℕ). IsLeastOut s q l.1) same l.4) least))
    ∙ sym (ap (λ (o : Option Row). cond (has_member p o) (pos (2 ^ 20 * cost)) (pos 0)) l.2))
    ∙ sum_int-one_match test (pos (2 ^ 20 * cost)) weights (count_by-at_most_one test weights (λ i j v w e f below t u.
    let same : i ≡ j = near.once i j p v w e f (row_of i v e t) (row_of j w f u) in
    omega arith))
  where
    test : ℕ × ℤ → Bool
    test w = has_member p (slice_get rows w.0)

    at_member : (q : ℕ) → is_member (q ∷ []) p ≡ true → q ≡ p
    at_member q t = by (eqb q p) refl t
      where
        by : (b : Bool) → eqb q p ≡ b → (b || false) ≡ true → q ≡ p
        by true e u = eqb-true q p e
        by false e u = absurd (cc)

    row_of : (i : ℕ) (w : ℕ × ℤ) → slice_get weights i ≡ Some w → has_member p (slice_get rows w.0) ≡ true → slice_get rows w.0 ≡ Some (record { kind = Out; members = p ∷ [] })
    row_of i w e t =
        let l = near.listed i w e in
        let same : l.0 ≡ p = at_member l.0 (sym (ap (has_member p) l.2) ∙ t) in
        l.2 ∙ ap (λ (q : ℕ). Some (let row : Row = record { kind = Out; members = q ∷ [] } in row)) same

-- these weights are weights on the rows of turbines that reach the least costs and exceed no arc's
pub nearest-out : (s : Site) (arcs : List Arc) (rows : List Row) (marks : List Mark) (weights : List (ℕ × ℤ)) → AreArcs s arcs → All (IsWellFormed s arcs) rows → AreNearestWeights s rows weights → AreOutWeights s arcs rows marks weights
nearest-out s arcs rows marks weights are formed near = record {
  listed = λ i w e.
      let l = near.listed i w e in
      (record { kind = Out; members = l.0 ∷ [] }, l.2, refl, all-at (IsWellFormed s arcs) rows w.0 (record { kind = Out; members = l.0 ∷ [] }) formed l.2);
  enough = λ p cost turbine least. by_cost p cost turbine least cost refl;
  not_above = λ a grade arc mark e f left turbine bears.
      let way = all-at (λ (a : Arc). IsCandidate s a.from a.to) arcs a arc are.candidates e in
      let o = some_least_out s arcs (some_types grade bears.listed) are arc.from arc.to way in
      let low : o.0 ≤ cost_of s arc.from arc.to grade (power_of s arc.from) = o.1.least arc.to grade way bears in
      let scaled = mul-le-mul_left (2 ^ 20) low in
      let most = at_most (list_any (λ (w : ℕ × ℤ). has_member arc.from (slice_get rows w.0)) weights) o.0 in
      let is = weight_at-one s rows weights near arc.from o.0 o.1 in
      omega (arith, ints, scaled, most, is);
}
  where
    some_types : (grade : ℕ) → grade < length s.types → 1 ≤ length s.types
    some_types grade l = omega arith

    at_most : (b : Bool) (n : ℕ) → cond b (pos (2 ^ 20 * n)) (pos 0) ≤ℤ pos (2 ^ 20 * n)
    at_most true n = omega (arith, ints)
    at_most false n = omega (arith, ints)

    by_cost : (p cost : ℕ) → IsTrue (is_turbine (kind_of s p)) → IsLeastOut s p cost → (n : ℕ) → cost ≡ n → pos (2 ^ 20 * cost) ≤ℤ weight_at rows weights p
    by_cost p cost turbine least zero e =
        let is = weight_at-one s rows weights near p cost least in
        let none = nothing (list_any (λ (w : ℕ × ℤ). has_member p (slice_get rows w.0)) weights) cost e in
        omega (arith, ints, is, none)
      where
        nothing : (b : Bool) (n : ℕ) → n ≡ 0 → pos (2 ^ 20 * n) ≤ℤ cond b (pos (2 ^ 20 * n)) (pos 0)
        nothing true n e = omega (arith, ints)
        nothing false n e = omega (arith, ints)
    by_cost p cost turbine least (suc n) e =
        let w = near.each p cost turbine least (λ z. let q : 0 ≡ suc n = sym z ∙ e in omega arith) in
        let own : is_member (p ∷ []) p ≡ true = ap (λ b. b || false) (eq-eqb p p refl) in
        let any = list_any-at (λ (w : ℕ × ℤ). has_member p (slice_get rows w.0)) weights w.0 w.1 w.2 (ap (has_member p) w.3 ∙ own) in
        let is = weight_at-one s rows weights near p cost least ∙ ap (λ (b : Bool). cond b (pos (2 ^ 20 * cost)) (pos 0)) any in
        omega (arith, ints, is)

-- so their value is at least the sum of the least costs out of the turbines, in every box
pub nearest-value : (s : Site) (arcs : List Arc) (rows : List Row) (marks : List Mark) (weights : List (ℕ × ℤ)) (value : ℤ) (nearest : ℕ) → AreArcs s arcs → All (IsWellFormed s arcs) rows
    → AreNearestWeights s rows weights → IsValue s arcs rows marks weights value → IsNearest s nearest → pos (2 ^ 20 * nearest) ≤ℤ value
nearest-value s arcs rows marks weights value nearest are formed near =
    value-nearest s arcs rows marks weights value nearest (nearest-out s arcs rows marks weights are formed near)
