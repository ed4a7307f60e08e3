-- What a cable passes, point by point and edge by edge.
use Rattle.std.proofs.Common.{◌≡◌, ◌≢◌, ℕ, ◌+◌, ◌<◌, ◌≤◌, List, [], ◌∷◌, length, get_or, drop, slice_get, Some, None, Bool, false, IsTrue, ◌↔◌, sym, ◌∙◌, subst, ap, refl, arith}
use Rattle.std.proofs.lemmas.Bool.{false≢true}
use Rattle.std.proofs.lemmas.List.{at_drop_more, at_drop_all}
use Rattle.std.proofs.lemmas.Option.{slice_get_read}
use Rattle.std.proofs.lemmas.List.Elements.{All-head, All-tail, All-cons, All-nil}
use Rattle.cable_definitions.specs.declared.place.Place.{Place}
use Rattle.cable_definitions.specs.declared.site.Kind.TheVariants.{Bend}
use Rattle.cable_definitions.specs.declared.site.Point.{Point}
use Rattle.cable_definitions.specs.Plane.{IsOn, Meet, edges, edges_from, last_corner}
use Rattle.site_model.specs.Passing.{IsNotPassed, IsClear}

-- what a test that is false denies
pub denied : {A : Type 0} → (b : Bool) → IsTrue b ↔ A → b ≡ false → ¬ A
denied b h e a = false≢true (sym e ∙ h.1 a)

-- the test denies that the point of this number is passed
pub not_passed : (points : List Point) (from to r : ℕ) (a b : Place) (point : Point) (result : Bool) → r < length points → point ≡ get_or points r point
    → IsTrue result ↔ ((r ≢ from) × (r ≢ to) × ((point.kind ≢ Bend) × IsOn point.at a b)) → result ≡ false → IsNotPassed points from to a b r
not_passed points from to r a b point result l e says f other is n m kind on =
    let same : other ≡ point = let p = slice_get_read points (length points) r point (omega arith) l e in cc in
    denied result says f (n, m, (subst (λ (p : Point). (p.kind ≢ Bend) × IsOn p.at a b) same (kind, on)))

-- the edges from a corner on
edges_next : (before corner : Place) (corners : List Place) (i : ℕ) → i < length corners → corner ≡ get_or corners i corner
    → edges_from before (drop i corners) ≡ (before, corner) ∷ edges_from corner (drop (i + 1) corners)
edges_next before corner corners i l e = at_drop_more (edges_from before) corners i corner l ∙ ap (λ (c : Place). edges_from before (c ∷ drop (i + 1) corners)) (sym e)

-- one more edge that isn't met
pub clear_more : (before corner a b : Place) (corners : List Place) (i : ℕ) → i < length corners → corner ≡ get_or corners i corner → ¬ (Meet a b before corner)
    → IsClear a b (edges_from before (drop i corners)) ↔ IsClear a b (edges_from corner (drop (i + 1) corners))
clear_more before corner a b corners i l e not_met =
    let P = λ (x : Place × Place). ¬ (Meet a b x.0 x.1) in
    let d = edges_next before corner corners i l e in
    (λ h. All-tail P _ _ (subst (IsClear a b) d h), λ h. subst (IsClear a b) (sym d) (All-cons P (before, corner) _ not_met h))

-- an edge that is met
pub not_clear : (before corner a b : Place) (corners : List Place) (i : ℕ) → i < length corners → corner ≡ get_or corners i corner → Meet a b before corner
    → ¬ (IsClear a b (edges_from before (drop i corners)))
not_clear before corner a b corners i l e met h =
    let P = λ (x : Place × Place). ¬ (Meet a b x.0 x.1) in
    All-head P (before, corner) _ (subst (IsClear a b) (edges_next before corner corners i l e) h) met

-- no edge is left
pub clear_end : (before a b : Place) (corners : List Place) (i : ℕ) → length corners ≤ i → IsClear a b (edges_from before (drop i corners))
clear_end before a b corners i h = subst (IsClear a b) (sym (at_drop_all (edges_from before) corners i h)) (All-nil (λ (x : Place × Place). ¬ (Meet a b x.0 x.1)))

-- an equivalence after another
pub ↔_then : {A B C : Type 0} → A ↔ B → B ↔ C → A ↔ C
↔_then h k = (λ a. k.0 (h.0 a), λ c. h.1 (k.1 c))

-- the edges of a polygon that has a first corner
pub edges_are : (corners : List Place) (first : Place) → Some first ≡ slice_get corners 0 → edges corners ≡ edges_from (last_corner first corners) corners
edges_are [] first e = absurd (no_corner first e)
  where
    no_corner : (first : Place) → Some first ≡ None → ⊥
    no_corner first e = cc
edges_are (corner ∷ corners) first e = refl
