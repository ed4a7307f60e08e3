-- The row of a set of turbines: it is well formed, and its right side is at least 1.
use Rattle.std.proofs.Common.{◌≡◌, ℕ, zero, suc, ◌+◌, ◌-◌, ◌*◌, ◌<◌, ◌≤◌, inl, inr, pos, List, length, get_or, sum_by, slice_get, Some, IsTrue, AllPairs, refl, ap, arith}
use Rattle.std.proofs.lemmas.Bool.{cases_lt}
use Rattle.std.proofs.lemmas.List.Sums.{get_or-le-sum_by}
use Rattle.std.proofs.lemmas.Option.{slice_get_within, slice_get-get_or, get_or_from_slice_get}
use Rattle.cable_definitions.specs.declared.cable.Arc.{Arc}
use Rattle.cable_definitions.specs.declared.site.Kind.{Kind}
use Rattle.cable_definitions.specs.declared.site.Kind.TheVariants.{Turbine, Substation, Bend}
use Rattle.cable_definitions.specs.declared.row.RowKind.TheVariants.{Cut}
use Rattle.cable_definitions.specs.Site.{Site, IsValid}
use Rattle.cable_definitions.specs.Arcs.{kind_of, is_turbine, is_substation, power_of, largest_capacity}
use Rattle.cable_definitions.specs.Row.{Question, SomeMember, RightCount, InRange, Ascending, RightKind, NoSubstation, Incompatible, Meets, IsWellFormed, rounded_up, right}
use Rattle.number_laws.proofs.Ceiling.{ceiling-enough}
use Rattle.layout_laws.proofs.Ending.{power_of-some}
use Rattle.layout_laws.proofs.Typing.{all-at}
use Rattle.proof_laws.proofs.FullLemma.{within-turbine}
use Rattle.proof_laws.proofs.Points.{largest_capacity-some}
use Rattle.intree_floor.specs.Weights.{IsTurbineSet}
use Rattle.floor_rows.specs.Listed.{cut_row}

-- numbers that ascend are each at least their place
place-le : (numbers : List ℕ) → AllPairs (λ m n. m < n) numbers → (i : ℕ) → i < length numbers → i ≤ get_or numbers i 0
place-le numbers ascending zero l = omega arith
place-le numbers ascending (suc i) l =
    let low = place-le numbers ascending i (omega arith) in
    let less = ascending i (suc i) 0 (omega arith) l in
    omega (arith, low, less)

-- a member of a set of turbines is one
turbine-at : (s : Site) (members : List ℕ) → IsTurbineSet s members → (i m : ℕ) → slice_get members i ≡ Some m → IsTrue (is_turbine (kind_of s m))
turbine-at s members set i m e = all-at (λ (p : ℕ). IsTrue (is_turbine (kind_of s p))) members i m set.turbines e

-- and so a point
point-at : (s : Site) (members : List ℕ) → IsTurbineSet s members → (i m : ℕ) → slice_get members i ≡ Some m → m < length s.points
point-at s members set i m e = within-turbine s m (turbine-at s members set i m e)

-- a set of turbines has no more members than there are points
pub set-count : (s : Site) (members : List ℕ) → IsTurbineSet s members → length members ≤ length s.points
set-count s members set = elim (cases_lt 0 (length members)) [
  | inr none ↦ omega (arith, none)
  | inl some ↦
      let last : length members - 1 < length members = omega (arith, some) in
      let low = place-le members set.ascending (length members - 1) last in
      let high = point-at s members set (length members - 1) (get_or members (length members - 1) 0) (slice_get-get_or members (length members - 1) 0 last) in
      omega (arith, some, low, high)
]

-- a turbine is no substation
no_substation : (kind : Kind) → IsTrue (is_turbine kind) → ¬ (IsTrue (is_substation kind))
no_substation (Turbine power) t = λ h. absurd (cc)
no_substation (Substation feeders power) t = absurd (cc)
no_substation Bend t = absurd (cc)

-- the row of a set of turbines is well formed
pub set-formed : (s : Site) (arcs : List Arc) (members : List ℕ) → IsValid s → IsTurbineSet s members → IsWellFormed s arcs (cut_row members)
set-formed s arcs members valid set = meets
  where
    meets : (question : Question) (i j : ℕ) → Meets s arcs Cut members question i j
    meets SomeMember i j = λ e. let some = set.some in let none = ap (length {A = ℕ}) e in absurd (omega (arith, some, none))
    meets RightCount i j = (λ h. absurd (cc), (let few = set-count s members set in let most = valid.points_count in omega (arith, few, most)))
    meets InRange i j = λ m e. point-at s members set i m e
    meets Ascending i j = λ m n e f.
        let less = set.ascending i (i + 1) 0 (omega arith) (slice_get_within members (i + 1) n f) in
        let low = get_or_from_slice_get members i m 0 e in
        let high = get_or_from_slice_get members (i + 1) n 0 f in
        omega (arith, less, low, high)
    meets RightKind i j = λ m e. refl
    meets NoSubstation i j = λ m e k. no_substation (kind_of s m) (turbine-at s members set i m e)
    meets Incompatible i j = λ m n a b e. absurd (cc)

-- the powers of its members sum to at least 1
pub set-power : (s : Site) (members : List ℕ) → IsValid s → IsTurbineSet s members → 1 ≤ sum_by (power_of s) members
set-power s members valid set =
    let some = set.some in
    let within : 0 < length members = omega (arith, some) in
    let power = power_of-some s valid (get_or members 0 0) (turbine-at s members set 0 (get_or members 0 0) (slice_get-get_or members 0 0 within)) in
    let part = get_or-le-sum_by (power_of s) members 0 0 within in
    omega (arith, power, part)

-- so the right side of its row is at least 1
pub set-right : (s : Site) (members : List ℕ) → IsValid s → IsTurbineSet s members → (n : ℕ) × (right s Cut members ≡ pos n) × (1 ≤ n)
set-right s members valid set =
    (rounded_up (sum_by (power_of s) members) (largest_capacity s), refl, above (sum_by (power_of s) members) (largest_capacity s) (largest_capacity-some s valid) (set-power s members valid set))
  where
    positive : (n k q : ℕ) → 1 ≤ n → n ≤ k * q → 1 ≤ q
    positive n k q l h = grind arith

    above : (n k : ℕ) → 1 ≤ k → 1 ≤ n → 1 ≤ rounded_up n k
    above n k h l = positive n k (rounded_up n k) l (ceiling-enough n k h)
