-- A fraction's value is in range, and is the value of no other fraction.
use Rattle.std.proofs.Common.{◌≡◌, ◌≤◌, ◌^◌, sym, ap, ◌∙◌, pos, ◌≤ℤ◌}
use Rattle.std.specs.Prelude.{unsigned_abs}
use mathlib.Core.HLevel.{is_prop→PathP}
use native.Mathlib.Bridge.{le_prop}
use native.Mathlib.Nat.{ℕ_set}
use lib.Dec.{T_prop}
use Rattle.fraction_laws.specs.Divisor.{AreCoprime}
use Rattle.bounded_fractions.specs.declared.fraction.Fraction.{Fraction}
use Rattle.bounded_fractions.specs.Range.{IsInRange}
use Rattle.bounded_fractions.specs.Value.{value_of}
use Rattle.bounded_fractions.proofs.Steps.{den_is}

-- the value of a fraction is in range
pub IsInRange-value_of : (f : Fraction) → IsInRange (value_of f)
unfolding value_of
IsInRange-value_of f = record { num = f.num_in_range; den = f.den_in_range }

-- a fraction is its numerator and its denominator
same_from_parts : (f g : Fraction) → f.num ≡ g.num → f.den ≡ g.den → f ≡ g
same_from_parts f g e d = λ i. record {
  num = e i;
  den = d i;
  positive = is_prop→PathP (λ j. pos 1 ≤ℤ d j) (λ j. hlevel T_prop) f.positive g.positive i;
  lowest = is_prop→PathP (λ j. AreCoprime (unsigned_abs (e j)) (unsigned_abs (d j))) (λ j. hlevel ℕ_set) f.lowest g.lowest i;
  num_in_range = is_prop→PathP (λ j. unsigned_abs (e j) ≤ 2 ^ 62) (λ j. le_prop) f.num_in_range g.num_in_range i;
  den_in_range = is_prop→PathP (λ j. unsigned_abs (d j) ≤ 2 ^ 62) (λ j. le_prop) f.den_in_range g.den_in_range i;
}

-- a fraction is its value
pub same_from_value : (f g : Fraction) → value_of f ≡ value_of g → f ≡ g
unfolding value_of
same_from_value f g e =
    same_from_parts f g (ap (λ q. q.num) e) (den_is f ∙ ap (λ q. pos q.den) e ∙ sym (den_is g))
