-- The corners so far of the obstacle.
use Rattle.std.proofs.Common.{◌≡◌, ℕ, suc, ℤ, pos, List, [], ◌∷◌, ◌++◌, Some, sym, subst}
use Rattle.std.specs.Prelude.{All}
use Rattle.std.proofs.lemmas.List.Elements.{All-weaker}
use Rattle.cable_definitions.specs.declared.place.Place.{Place}
use Rattle.cable_definitions.specs.Plane.{IsOutside}
use Rattle.cable_definitions.specs.Items.{Draft, ACorner, IsAt, Adds}
use Rattle.cable_definitions.specs.Drill.{IsPlaceAt}
use Rattle.drill_site.specs.Growing.{IsBeside, GainsSquare}
use Rattle.drill_site.proofs.Square.{IsOutside-beside}

-- the site so far with an obstacle of these corners so far, of which so many are missing
abbrev pub with_open : Draft → List Place → ℕ → Draft
with_open d corners missing = record d { stage = 4; corners = corners; missing = missing }

-- one corner more
pub record Cornered (d : Draft) (corners : List Place) (missing : ℕ) (x y : ℤ) (e : Draft) : Type 0 where
  pub corner : Place
  pub at : IsPlaceAt corner x y
  pub becomes : e ≡ with_open d (corners ++ corner ∷ []) missing

-- the coordinates of a corner
IsPlaceAt-corner : (corner : Place) (x y : ℤ) → IsAt (Some x) (Some y) corner → IsPlaceAt corner x y
IsPlaceAt-corner corner x y at = let u = at.x_is in let v = at.y_is in (cc, cc)

-- a corner that isn't the last
pub Cornered-adds : (d f e : Draft) (corners : List Place) (left : ℕ) (x y : ℤ) → f ≡ with_open d corners (suc (suc left)) → Adds f (ACorner (Some x) (Some y)) e → Cornered d corners (suc left) x y e
Cornered-adds d f e corners left x y is added =
    let here : Adds (with_open d corners (suc (suc left))) (ACorner (Some x) (Some y)) e = subst (λ (g : Draft). Adds g (ACorner (Some x) (Some y)) e) is added in
    record { corner = here.0; at = IsPlaceAt-corner here.0 x y here.1; becomes = here.2 }

-- the last one
pub GainsSquare-adds : (d f e : Draft) (a b c : Place) → IsPlaceAt a (pos 4500) (pos 500) → IsPlaceAt b (pos 4900) (pos 500) → IsPlaceAt c (pos 4900) (pos 900) → f ≡ with_open d (a ∷ b ∷ c ∷ []) 1
    → Adds f (ACorner (Some (pos 4500)) (Some (pos 900))) e → GainsSquare d e
GainsSquare-adds d f e a b c at_a at_b at_c is added =
    let here : Adds (with_open d (a ∷ b ∷ c ∷ []) 1) (ACorner (Some (pos 4500)) (Some (pos 900))) e = subst (λ (g : Draft). Adds g (ACorner (Some (pos 4500)) (Some (pos 900))) e) is added in
    (a ∷ b ∷ c ∷ here.0 ∷ [], (at_a, at_b, at_c, IsPlaceAt-corner here.0 (pos 4500) (pos 900) here.1), here.2)

-- no point stands in the obstacle that is complete with the last corner
pub clear_last : (d f : Draft) (a b c last : Place) → IsPlaceAt a (pos 4500) (pos 500) → IsPlaceAt b (pos 4900) (pos 500) → IsPlaceAt c (pos 4900) (pos 900) → IsPlaceAt last (pos 4500) (pos 900)
    → f ≡ with_open d (a ∷ b ∷ c ∷ []) 1 → All IsBeside d.site.points → All (λ p. IsOutside p.at (f.corners ++ last ∷ [])) f.site.points
clear_last d f a b c last at_a at_b at_c at_last is beside =
    subst (λ (g : Draft). All (λ p. IsOutside p.at (g.corners ++ last ∷ [])) g.site.points) (sym is)
    (All-weaker IsBeside (λ p. IsOutside p.at (a ∷ b ∷ c ∷ last ∷ [])) (λ p h. IsOutside-beside p.at a b c last at_a at_b at_c at_last h) d.site.points beside)
