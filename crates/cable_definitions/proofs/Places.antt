-- A place is its two coordinates: the facts on their ranges have one proof.
use Rattle.std.proofs.Common.{◌≡◌, ℤ, ap, subst, ◌∙◌}
use Rattle.std.specs.Prelude.{◌≤ℤ◌}
use lib.Dec.{T_prop}
use Rattle.cable_definitions.specs.declared.place.Place.{Place}
use Rattle.cable_definitions.specs.Coordinate.{IsCoordinate}

one_order : {a b : ℤ} (h k : a ≤ℤ b) → h ≡ k
one_order h k = ap (λ t. record { le = t }) (T_prop _ h.le k.le)

one_range : (z : ℤ) (h k : IsCoordinate z) → h ≡ k
one_range z h k = ap (λ l. record { least = l; most = h.most }) (one_order h.least k.least) ∙ ap (λ m. record { least = k.least; most = m }) (one_order h.most k.most)

placed : (x y : ℤ) → IsCoordinate x → IsCoordinate y → Place
placed x y h k = record { x = x; y = y; x_in_range = h; y_in_range = k }

same_x : {x z y : ℤ} → x ≡ z → (h : IsCoordinate x) (k : IsCoordinate y) (l : IsCoordinate z) → placed x y h k ≡ placed z y l k
same_x {x} {z} {y} e h k = subst (λ v. (l : IsCoordinate v) → placed x y h k ≡ placed v y l k) e (λ l. ap (λ i. placed x y i k) (one_range x h l))

same_y : {x y w : ℤ} → y ≡ w → (h : IsCoordinate x) (k : IsCoordinate y) (m : IsCoordinate w) → placed x y h k ≡ placed x w h m
same_y {x} {y} {w} e h k = subst (λ v. (m : IsCoordinate v) → placed x y h k ≡ placed x v h m) e (λ m. ap (λ i. placed x y h i) (one_range y k m))

-- two places with the same coordinates are one
pub one_place : (a b : Place) → a.x ≡ b.x → a.y ≡ b.y → a ≡ b
unfolding placed
one_place a b e f = same_x e a.x_in_range a.y_in_range b.x_in_range ∙ same_y f b.x_in_range a.y_in_range b.y_in_range
