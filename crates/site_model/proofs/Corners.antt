-- The first code of an obstacle and of a corner, one test after another.
use Rattle.std.proofs.Common.{◌≡◌, ℕ, suc, ◌-◌, ◌<◌, ◌≤◌, ℤ, pos, List, [], ◌∷◌, ◌++◌, length, Some, IsTrue, refl, sym, ap, ◌∙◌, subst, arith, get_or, to_z, of_z, FitsSigned}
use Rattle.std.specs.Prelude.{All, Any, IsSome}
use Rattle.std.specs.Int.{w128}
use Rattle.std.proofs.Math.Dec.{T_prop}
use Rattle.std.proofs.lemmas.Bool.{and_parts, leb-true, eqb-true}
use Rattle.std.proofs.lemmas.List.{get_or_read}
use Rattle.std.proofs.lemmas.List.Elements.{All-nil, All-cons, All-head}
use mathlib.Core.HLevel.{is_prop→PathP}
use Rattle.cable_definitions.specs.declared.place.Place.{Place}
use Rattle.cable_definitions.specs.declared.site.Point.{Point}
use Rattle.cable_definitions.specs.declared.site.SiteCode.TheVariants.{Range, BadName, SameName, SamePlace, UnknownName, SamePair, InObstacle, TooMany}
use Rattle.cable_definitions.specs.Coordinate.{IsCoordinate}
use Rattle.cable_definitions.specs.Plane.{IsOutside}
use Rattle.cable_definitions.specs.Items.{RawItem, Draft, AnObstacle, ACorner, Overlong, may_stand, Field, within, coordinate, IsWithin, IsAt, IsGood, IsFirstCode, Adds, with_corner}
use Rattle.site_model.specs.Drafts.{IsDraft, item_of_corner}
use Rattle.site_model.proofs.Ranges.{passed, passed_two}
use Rattle.site_model.proofs.Codes.{KeepsBelow, KeepsBelow-past, KeepsBelow-shaped, IsFirstCode-at, IsGood-kept}
use Rattle.site_model.proofs.Points.{coordinate_within}
use Rattle.site_model.proofs.Drafts.{IsDraft-obstacle, IsDraft-corner}

-- ---- obstacles
-- the number of corners
abbrev count_field : ℤ → Field
count_field z = within (Some z) (pos 3) (pos 1024)

-- an obstacle that may stand, with its number given
KeepsBelow-obstacle_stands : (d : Draft) (z : ℤ) → IsTrue (may_stand d (AnObstacle (Some z))) → KeepsBelow d (AnObstacle (Some z)) 4
KeepsBelow-obstacle_stands d z stands = KeepsBelow-shaped d (AnObstacle (Some z)) (λ e. absurd (no_line e)) stands refl (All-cons (λ f. IsSome f.value) (count_field z) [] refl (All-nil _))
  where
    no_line : AnObstacle (Some z) ≡ Overlong → ⊥
    no_line e = cc

-- an obstacle whose number, as it was passed on, is out of range
pub IsFirstCode-count : (d : Draft) (z : ℤ) → IsTrue (may_stand d (AnObstacle (Some z))) → FitsSigned w128 z → ¬ (IsWithin (count_field (to_z w128 (of_z w128 z)))) → IsFirstCode d (AnObstacle (Some z)) Range
IsFirstCode-count d z stands fits out =
    let not_in : ¬ (IsWithin (count_field z)) = passed (λ v. ¬ (IsWithin (count_field v))) z fits out in
    IsFirstCode-at d (AnObstacle (Some z)) Range (KeepsBelow-obstacle_stands d z stands) (λ all. not_in (All-head IsWithin (count_field z) [] all))

-- the site so far with an obstacle begun
pub IsDraft-begun : (d e : Draft) (z : ℤ) (n : ℕ) (obstacles : List (List Place)) (corners : List Place) → d ≡ e → IsDraft d → IsGood e (AnObstacle (Some z)) → z ≡ pos n → obstacles ≡ d.site.obstacles → corners ≡ []
    → IsDraft (record d { stage = 4; site = record d.site { obstacles = obstacles }; corners = corners; missing = n })
IsDraft-begun d e z n obstacles corners same draft good is kept none =
    let good_here : IsGood d (AnObstacle (Some (pos n))) = subst (λ (v : ℤ). IsGood d (AnObstacle (Some v))) is (subst (λ (f : Draft). IsGood f (AnObstacle (Some z))) (sym same) good) in
    subst (λ (os : List (List Place)). IsDraft (record d { stage = 4; site = record d.site { obstacles = os }; corners = corners; missing = n })) (sym kept)
    (subst (λ (cs : List Place). IsDraft (record d { stage = 4; corners = cs; missing = n })) (sym none) (IsDraft-obstacle d n draft good_here))

-- ---- corners
-- places with the same coordinates are one
same_place : (a b : Place) → a.x ≡ b.x → a.y ≡ b.y → a ≡ b
same_place a b e f = λ i. record {
  x = e i;
  y = f i;
  x_in_range = is_prop→PathP (λ j. IsCoordinate (e j)) (λ j. hlevel T_prop) a.x_in_range b.x_in_range i;
  y_in_range = is_prop→PathP (λ j. IsCoordinate (f j)) (λ j. hlevel T_prop) a.y_in_range b.y_in_range i;
}

-- two places of one corner are one
same_corner : (x y : ℤ) (a b : Place) → IsAt (Some x) (Some y) a → IsAt (Some x) (Some y) b → a ≡ b
same_corner x y a b at_a at_b =
    let ax = at_a.x_is in
    let bx = at_b.x_is in
    let ay = at_a.y_is in
    let by_ = at_b.y_is in
    same_place a b (cc) (cc)

-- a corner that may stand, with its numbers given
pub KeepsBelow-corner_stands : (d : Draft) (x y : ℤ) → IsTrue (may_stand d (ACorner (Some x) (Some y))) → KeepsBelow d (ACorner (Some x) (Some y)) 4
KeepsBelow-corner_stands d x y stands =
    let P : Field → Type 0 = λ f. IsSome f.value in
    KeepsBelow-shaped d (ACorner (Some x) (Some y)) (λ e. absurd (no_line e)) stands refl
    (All-cons P (coordinate (Some x)) (coordinate (Some y) ∷ []) refl (All-cons P (coordinate (Some y)) [] refl (All-nil P)))
  where
    no_line : ACorner (Some x) (Some y) ≡ Overlong → ⊥
    no_line e = cc

-- a corner whose coordinates, as they were passed on, are out of range
pub IsFirstCode-corner : (d : Draft) (x y : ℤ) → IsTrue (may_stand d (ACorner (Some x) (Some y))) → FitsSigned w128 x → FitsSigned w128 y
    → ¬ (All IsWithin (coordinate (Some (to_z w128 (of_z w128 x))) ∷ coordinate (Some (to_z w128 (of_z w128 y))) ∷ [])) → IsFirstCode d (ACorner (Some x) (Some y)) Range
IsFirstCode-corner d x y stands fits_x fits_y out =
    IsFirstCode-at d (ACorner (Some x) (Some y)) Range (KeepsBelow-corner_stands d x y stands)
    (passed_two (λ u v. ¬ (All IsWithin (coordinate (Some u) ∷ coordinate (Some v) ∷ []))) x y fits_x fits_y out)

-- a corner in range keeps each rule before that on points inside
KeepsBelow-corner : (d : Draft) (x y : ℤ) (corner : Place) → IsTrue (may_stand d (ACorner (Some x) (Some y))) → IsAt (Some x) (Some y) corner → KeepsBelow d (ACorner (Some x) (Some y)) 10
KeepsBelow-corner d x y corner stands at =
    let item = ACorner (Some x) (Some y) in
    let in_range : All IsWithin (coordinate (Some x) ∷ coordinate (Some y) ∷ []) =
    All-cons IsWithin (coordinate (Some x)) (coordinate (Some y) ∷ []) (coordinate_within x corner.x corner.x_in_range.least corner.x_in_range.most at.x_is)
    (All-cons IsWithin (coordinate (Some y)) [] (coordinate_within y corner.y corner.y_in_range.least corner.y_in_range.most at.y_is) (All-nil _)) in
    let ranged : KeepsBelow d item 5 = KeepsBelow-past d item Range (KeepsBelow-corner_stands d x y stands) (λ out. out in_range) in
    let named : KeepsBelow d item 6 = KeepsBelow-past d item BadName ranged (λ bad. bad (All-nil _)) in
    let fresh : KeepsBelow d item 8 = KeepsBelow-past d item SamePlace (KeepsBelow-past d item SameName named (λ h. h)) (λ h. h) in
    KeepsBelow-past d item SamePair (KeepsBelow-past d item UnknownName fresh (λ h. h)) (λ h. h)

-- some point isn't outside the obstacle that is complete with this corner
abbrev pub IsInside : Draft → Place → Type 0
IsInside d corner = (d.missing ≡ 1) × Any (λ p. ¬ (IsOutside p.at (d.corners ++ corner ∷ []))) d.site.points

-- a last corner of an obstacle that some point isn't outside of
pub IsFirstCode-inside : (d : Draft) (x y : ℤ) (corner : Place) → IsTrue (may_stand d (ACorner (Some x) (Some y))) → IsAt (Some x) (Some y) corner → IsInside d corner → IsFirstCode d (ACorner (Some x) (Some y)) InObstacle
IsFirstCode-inside d x y corner stands at inside = IsFirstCode-at d (ACorner (Some x) (Some y)) InObstacle (KeepsBelow-corner d x y corner stands at) (inside.0, (corner, at, inside.1))

-- a corner with no point inside
pub IsGood-corner : (d : Draft) (x y : ℤ) (corner : Place) → IsTrue (may_stand d (ACorner (Some x) (Some y))) → IsAt (Some x) (Some y) corner → ¬ (IsInside d corner) → IsGood d (ACorner (Some x) (Some y))
IsGood-corner d x y corner stands at clear =
    let item = ACorner (Some x) (Some y) in
    IsGood-kept d item
    (KeepsBelow-past d item TooMany
    (KeepsBelow-past d item InObstacle (KeepsBelow-corner d x y corner stands at)
    (λ h. clear (h.0, subst (λ (c : Place). Any (λ p. ¬ (IsOutside p.at (d.corners ++ c ∷ []))) d.site.points) (same_corner x y h.1.0 corner h.1.1 at) h.1.2)))
    (λ h. h))

-- what a corner that may stand says of the corners that are missing
pub some_missing : (d : Draft) (x y : ℤ) → IsTrue (may_stand d (ACorner (Some x) (Some y))) → (d.stage ≡ 4) × (1 ≤ d.missing)
some_missing d x y stands =
    let parts = and_parts _ _ stands in
    (eqb-true d.stage 4 parts.0, leb-true 1 d.missing parts.1)

-- the good item of the corner's place
good_place : (d e : Draft) (x y : ℤ) (corner : Place) → d ≡ e → IsAt (Some x) (Some y) corner → IsGood e (ACorner (Some x) (Some y)) → IsGood d (item_of_corner corner)
good_place d e x y corner same at good =
    let x_is = at.x_is in
    let y_is = at.y_is in
    let items : ACorner (Some x) (Some y) ≡ item_of_corner corner = cc in
    subst (λ (i : RawItem). IsGood d i) items (subst (λ (f : Draft). IsGood f (ACorner (Some x) (Some y))) (sym same) good)

-- the site so far with a corner more, where others are still missing
pub IsDraft-more_corner : (d e : Draft) (x y : ℤ) (corner : Place) (corners : List Place) (left : ℕ) → d ≡ e → IsDraft d → IsGood e (ACorner (Some x) (Some y)) → IsAt (Some x) (Some y) corner
    → corners ≡ d.corners ++ corner ∷ [] → d.missing ≡ suc left → 0 < left → IsDraft (record d { corners = corners; missing = left })
IsDraft-more_corner d e x y corner corners left same draft good at pushed missing some =
    let two : d.missing ≡ suc (suc (left - 1)) = omega arith in
    let step : IsDraft (record d { corners = d.corners ++ corner ∷ []; missing = suc (left - 1) }) = IsDraft-corner d corner (suc (suc (left - 1))) two draft (good_place d e x y corner same at good) in
    let is_left : suc (left - 1) ≡ left = omega arith in
    subst (λ (cs : List Place). IsDraft (record d { corners = cs; missing = left })) (sym pushed) (subst (λ (m : ℕ). IsDraft (record d { corners = d.corners ++ corner ∷ []; missing = m })) is_left step)

-- what such a corner adds
pub Adds-more_corner : (d e : Draft) (x y : ℤ) (corner : Place) (corners : List Place) (left : ℕ) → d ≡ e → IsAt (Some x) (Some y) corner → corners ≡ d.corners ++ corner ∷ [] → d.missing ≡ suc left → 0 < left
    → Adds e (ACorner (Some x) (Some y)) (record d { corners = corners; missing = left })
Adds-more_corner d e x y corner corners left same at pushed missing some =
    let two : d.missing ≡ suc (suc (left - 1)) = omega arith in
    let is_left : left ≡ suc (left - 1) = omega arith in
    let F : Draft = record d { corners = corners; missing = left } in
    let step : F ≡ with_corner d corner (suc (suc (left - 1))) =
    ap (λ (cs : List Place). record d { corners = cs; missing = left }) pushed ∙ ap (λ (m : ℕ). record d { corners = d.corners ++ corner ∷ []; missing = m }) is_left in
    let here : F ≡ with_corner d corner d.missing = step ∙ ap (with_corner d corner) (sym two) in
    (corner, at, here ∙ ap (λ (f : Draft). with_corner f corner f.missing) same)

-- the site so far with the last corner of an obstacle
pub IsDraft-last_corner : (d e : Draft) (x y : ℤ) (corner : Place) (obstacles : List (List Place)) (corners : List Place) (left : ℕ) → d ≡ e → IsDraft d → IsGood e (ACorner (Some x) (Some y))
    → IsAt (Some x) (Some y) corner → obstacles ≡ d.site.obstacles ++ (d.corners ++ corner ∷ []) ∷ [] → corners ≡ [] → left ≡ 0 → d.missing ≡ 1
    → IsDraft (record d { site = record d.site { obstacles = obstacles }; corners = corners; missing = left })
IsDraft-last_corner d e x y corner obstacles corners left same draft good at pushed none no_more missing =
    let step : IsDraft (record d { site = record d.site { obstacles = d.site.obstacles ++ (d.corners ++ corner ∷ []) ∷ [] }; corners = []; missing = 0 }) =
    IsDraft-corner d corner 1 missing draft (good_place d e x y corner same at good) in
    subst (λ (os : List (List Place)). IsDraft (record d { site = record d.site { obstacles = os }; corners = corners; missing = left })) (sym pushed)
    (subst (λ (cs : List Place). IsDraft (record d { site = record d.site { obstacles = d.site.obstacles ++ (d.corners ++ corner ∷ []) ∷ [] }; corners = cs; missing = left })) (sym none)
    (subst (λ (m : ℕ). IsDraft (record d { site = record d.site { obstacles = d.site.obstacles ++ (d.corners ++ corner ∷ []) ∷ [] }; corners = []; missing = m })) (sym no_more) step))

-- what the last corner of an obstacle adds
pub Adds-last_corner : (d e : Draft) (x y : ℤ) (corner : Place) (obstacles : List (List Place)) (corners : List Place) (left : ℕ) → d ≡ e → IsAt (Some x) (Some y) corner
    → obstacles ≡ d.site.obstacles ++ (d.corners ++ corner ∷ []) ∷ [] → corners ≡ [] → left ≡ 0 → d.missing ≡ 1
    → Adds e (ACorner (Some x) (Some y)) (record d { site = record d.site { obstacles = obstacles }; corners = corners; missing = left })
Adds-last_corner d e x y corner obstacles corners left same at pushed none no_more missing =
    let F : Draft = record d { site = record d.site { obstacles = obstacles }; corners = corners; missing = left } in
    let step : F ≡ with_corner d corner 1 =
    ap (λ (os : List (List Place)). record d { site = record d.site { obstacles = os }; corners = corners; missing = left }) pushed
    ∙ ap (λ (cs : List Place). record d { site = record d.site { obstacles = d.site.obstacles ++ (d.corners ++ corner ∷ []) ∷ [] }; corners = cs; missing = left }) none
    ∙ ap (λ (m : ℕ). record d { site = record d.site { obstacles = d.site.obstacles ++ (d.corners ++ corner ∷ []) ∷ [] }; corners = []; missing = m }) no_more in
    let here : F ≡ with_corner d corner d.missing = step ∙ ap (with_corner d corner) (sym missing) in
    (corner, at, here ∙ ap (λ (f : Draft). with_corner f corner f.missing) same)

-- ---- points inside
-- a point of the list that is outside
pub IsOutside-at : (points : List Point) (corners : List Place) (i k : ℕ) (x d : Point) → k ≡ i → i < length points → x ≡ get_or points i x → IsOutside x.at corners → IsOutside (get_or points k d).at corners
IsOutside-at points corners i k x d e l is out =
    subst (λ (j : ℕ). IsOutside (get_or points j d).at corners) (sym e) (subst (λ (p : Point). IsOutside p.at corners) (get_or_read points i x l is d) out)

-- points inside the same corners, of the same points
pub Any-inside_same : (points others : List Point) (corners : List Place) (same_corners : List Place) → points ≡ others → corners ≡ same_corners → Any (λ p. ¬ (IsOutside p.at corners)) points → Any (λ p. ¬ (IsOutside p.at same_corners)) others
Any-inside_same points others corners same_corners same e h =
    subst (λ (ps : List Point). Any (λ p. ¬ (IsOutside p.at same_corners)) ps) same (subst (λ (cs : List Place). Any (λ p. ¬ (IsOutside p.at cs)) points) e h)
