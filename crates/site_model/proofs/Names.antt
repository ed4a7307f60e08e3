-- The number of a name among the points.
use Rattle.std.proofs.Common.{◌≡◌, ℕ, ℤ, ◌<◌, ◌≤◌, ⊎_elim, List, length, get_or, Option, Some, None, IsTrue, ◌↔◌, MatchOption, refl, subst, arith}
use Rattle.std.specs.Prelude.{Any, slice_get, is_some}
use Rattle.std.proofs.lemmas.Option.{slice_get_cases}
use Rattle.cable_definitions.specs.declared.site.Point.{Point}
use Rattle.cable_definitions.specs.Text.{name_from}
use Rattle.cable_definitions.specs.Items.{IsAt}

-- a point of this number has the name
pub Any-named : (points : List Point) (name : List ℕ) (k : ℕ) → k < length points → name_from (slice_get points k) ≡ name → Any (λ p. p.name ≡ name) points
Any-named points name k l named =
    ⊎_elim
    (λ (w : (x : Point) × (k < length points) × (slice_get points k ≡ Some x) × (get_or points k x ≡ x)).
    (k, w.0, w.1, w.3, subst (λ (o : Option Point). name_from o ≡ name) w.2 named))
    (λ (w : (length points ≤ k) × (slice_get points k ≡ None)). absurd (omega (arith, w.0)))
    (slice_get_cases points k).1

-- whether a number was found says whether some point has the name
pub is_some-number : (points : List Point) (name : List ℕ) (r : Option ℕ) → MatchOption r (¬ (Any (λ p. p.name ≡ name) points)) (λ k. (k < length points) × (name_from (slice_get points k) ≡ name)) → IsTrue (is_some r) ↔ Any (λ p. p.name ≡ name) points
is_some-number points name None h = (λ e. absurd (cc), λ named. absurd (h named))
is_some-number points name (Some k) h = (λ e. Any-named points name k h.0 h.1, λ named. refl)

-- some point of the same points stands at the same coordinates
pub Any-placed_same : (points others : List Point) (x y u v : Option ℤ) → points ≡ others → x ≡ u → y ≡ v → Any (λ p. IsAt x y p.at) points → Any (λ p. IsAt u v p.at) others
Any-placed_same points others x y u v same x_is y_is h =
    subst (λ (ps : List Point). Any (λ p. IsAt u v p.at) ps) same
    (subst (λ (w : Option ℤ). Any (λ p. IsAt u w p.at) points) y_is (subst (λ (w : Option ℤ). Any (λ p. IsAt w y p.at) points) x_is h))
