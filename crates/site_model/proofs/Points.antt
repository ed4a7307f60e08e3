-- The first code of a point, one test after another.
use Rattle.std.proofs.Common.{◌≡◌, ℕ, ◌<◌, ◌≤◌, ℤ, pos, neg_ℤ, ◌≤ℤ◌, List, [], ◌∷◌, ◌++◌, length, Some, IsTrue, refl, sym, ap, subst, arith, to_z, of_z, FitsSigned}
use Rattle.std.specs.Prelude.{All, Any, IsSome}
use Rattle.std.specs.Int.{w128}
use Rattle.std.proofs.lemmas.Int.{ints, to_z-of_z}
use Rattle.std.proofs.lemmas.List.Elements.{All-nil, All-cons, All-head, All-tail}
use Rattle.cable_definitions.specs.declared.place.Place.{Place}
use Rattle.cable_definitions.specs.declared.site.Kind.{Kind}
use Rattle.cable_definitions.specs.declared.site.Kind.TheVariants.{Turbine as KnownTurbine, Substation as KnownSubstation, Bend as KnownBend}
use Rattle.cable_definitions.specs.declared.site.Point.{Point}
use Rattle.cable_definitions.specs.declared.site.SiteCode.TheVariants.{Range, BadName, SamePlace, UnknownName, SamePair, InObstacle, TooMany}
use Rattle.cable_definitions.specs.Naming.{IsName}
use Rattle.cable_definitions.specs.Site.{IsKind}
use Rattle.cable_definitions.specs.Items.{RawItem, Draft, may_stand, Field, within, coordinate, kind_fields, IsWithin, IsAt, raw_kind, IsGood, IsFirstCode, Adds}
use Rattle.site_model.specs.declared.raw.RawKind.{RawKind}
use Rattle.site_model.specs.declared.raw.RawKind.TheVariants.{Turbine, Substation, Bend}
use Rattle.site_model.specs.Building.{point_item, kind_item}
use Rattle.site_model.specs.Drafts.{IsDraft, item_of_point}
use Rattle.site_model.proofs.Ranges.{IsWithin-some}
use Rattle.site_model.proofs.Codes.{KeepsBelow, KeepsBelow-past, KeepsBelow-shaped, IsFirstCode-at, IsGood-kept}
use Rattle.site_model.proofs.Drafts.{IsDraft-point}

-- each number of a kind is given
kind_given : (kind : RawKind) → All (λ f. IsSome f.value) (kind_fields (kind_item kind))
kind_given (Turbine power) = All-cons (λ f. IsSome f.value) (within (Some power) (pos 1) (pos 1000)) [] refl (All-nil _)
kind_given (Substation feeders power) =
    All-cons (λ f. IsSome f.value) (within (Some feeders) (pos 0) (pos 256)) (within (Some power) (pos 0) (pos 300000) ∷ []) refl
    (All-cons (λ f. IsSome f.value) (within (Some power) (pos 0) (pos 300000)) [] refl (All-nil _))
kind_given Bend = All-nil _

-- a point that may stand, with its numbers given
pub KeepsBelow-point_stands : (d : Draft) (name : List ℕ) (x y : ℤ) (kind : RawKind) → IsTrue (may_stand d (point_item name x y kind)) → KeepsBelow d (point_item name x y kind) 4
KeepsBelow-point_stands d name x y kind stands =
    let P : Field → Type 0 = λ f. IsSome f.value in
    KeepsBelow-shaped d (point_item name x y kind) (λ e. absurd (cc)) stands refl
    (All-cons P (coordinate (Some x)) (coordinate (Some y) ∷ kind_fields (kind_item kind)) refl
    (All-cons P (coordinate (Some y)) (kind_fields (kind_item kind)) refl (kind_given kind)))

-- a point whose coordinates, as they were passed on, are out of range
pub IsFirstCode-place : (d : Draft) (name : List ℕ) (x y : ℤ) (kind : RawKind) → IsTrue (may_stand d (point_item name x y kind)) → FitsSigned w128 x → FitsSigned w128 y
    → ¬ (All IsWithin (coordinate (Some (to_z w128 (of_z w128 x))) ∷ coordinate (Some (to_z w128 (of_z w128 y))) ∷ [])) → IsFirstCode d (point_item name x y kind) Range
IsFirstCode-place d name x y kind stands fits_x fits_y out =
    let not_in : ¬ (All IsWithin (coordinate (Some x) ∷ coordinate (Some y) ∷ [])) = rw (to_z-of_z w128 x fits_x, to_z-of_z w128 y fits_y) at out in
    IsFirstCode-at d (point_item name x y kind) Range (KeepsBelow-point_stands d name x y kind stands)
    (λ all. not_in
    (All-cons IsWithin (coordinate (Some x)) (coordinate (Some y) ∷ []) (All-head IsWithin (coordinate (Some x)) (coordinate (Some y) ∷ kind_fields (kind_item kind)) all)
    (All-cons IsWithin (coordinate (Some y)) [] (All-head IsWithin (coordinate (Some y)) (kind_fields (kind_item kind)) (All-tail IsWithin (coordinate (Some x)) (coordinate (Some y) ∷ kind_fields (kind_item kind)) all)) (All-nil IsWithin))))

-- a point whose kind is out of range
pub IsFirstCode-kind : (d : Draft) (name : List ℕ) (x y : ℤ) (kind : RawKind) → IsTrue (may_stand d (point_item name x y kind)) → ¬ (All IsWithin (kind_fields (kind_item kind))) → IsFirstCode d (point_item name x y kind) Range
IsFirstCode-kind d name x y kind stands out =
    IsFirstCode-at d (point_item name x y kind) Range (KeepsBelow-point_stands d name x y kind stands)
    (λ all. out (All-tail IsWithin (coordinate (Some y)) (kind_fields (kind_item kind)) (All-tail IsWithin (coordinate (Some x)) (coordinate (Some y) ∷ kind_fields (kind_item kind)) all)))

-- the numbers of a kind in range
kind_within : (known : Kind) → IsKind known → All IsWithin (kind_fields (raw_kind known))
kind_within (KnownTurbine power) h = All-cons IsWithin (within (Some (pos power)) (pos 1) (pos 1000)) [] (IsWithin-some (pos power) (pos 1) (pos 1000) (omega (arith, ints, h.0)) (omega (arith, ints, h.1))) (All-nil _)
kind_within (KnownSubstation feeders power) h =
    All-cons IsWithin (within (Some (pos feeders)) (pos 0) (pos 256)) (within (Some (pos power)) (pos 0) (pos 300000) ∷ []) (IsWithin-some (pos feeders) (pos 0) (pos 256) (omega (arith, ints)) (omega (arith, ints, h.0)))
    (All-cons IsWithin (within (Some (pos power)) (pos 0) (pos 300000)) [] (IsWithin-some (pos power) (pos 0) (pos 300000) (omega (arith, ints)) (omega (arith, ints, h.1))) (All-nil _))
kind_within KnownBend h = All-nil _

-- a coordinate of a place
pub coordinate_within : (x : ℤ) (z : ℤ) → neg_ℤ (pos 1000000) ≤ℤ z → z ≤ℤ pos 1000000 → Some x ≡ Some z → IsWithin (coordinate (Some x))
coordinate_within x z lower upper e =
    let same : x ≡ z = cc in
    IsWithin-some x (neg_ℤ (pos 1000000)) (pos 1000000) (subst (λ (v : ℤ). neg_ℤ (pos 1000000) ≤ℤ v) (sym same) lower) (subst (λ (v : ℤ). v ≤ℤ pos 1000000) (sym same) upper)

-- what a point's numbers as they were passed on are
pub IsAt-passed : (x y : ℤ) (at : Place) → FitsSigned w128 x → FitsSigned w128 y → IsAt (Some (to_z w128 (of_z w128 x))) (Some (to_z w128 (of_z w128 y))) at → IsAt (Some x) (Some y) at
IsAt-passed x y at fits_x fits_y h = rw (to_z-of_z w128 x fits_x, to_z-of_z w128 y fits_y) at h

-- a point in range
pub KeepsBelow-point_ranges : (d : Draft) (name : List ℕ) (x y : ℤ) (kind : RawKind) (at : Place) (known : Kind) → IsTrue (may_stand d (point_item name x y kind)) → IsAt (Some x) (Some y) at
    → kind_item kind ≡ raw_kind known → IsKind known → KeepsBelow d (point_item name x y kind) 5
KeepsBelow-point_ranges d name x y kind at known stands h same is_kind =
    KeepsBelow-past d (point_item name x y kind) Range (KeepsBelow-point_stands d name x y kind stands)
    (λ out. out
    (All-cons IsWithin (coordinate (Some x)) (coordinate (Some y) ∷ kind_fields (kind_item kind)) (coordinate_within x at.x at.x_in_range.least at.x_in_range.most h.x_is)
    (All-cons IsWithin (coordinate (Some y)) (kind_fields (kind_item kind)) (coordinate_within y at.y at.y_in_range.least at.y_in_range.most h.y_is)
    (subst (λ k. All IsWithin (kind_fields k)) (sym same) (kind_within known is_kind)))))

-- a point whose name is none
pub IsFirstCode-bad_name : (d : Draft) (name : List ℕ) (x y : ℤ) (kind : RawKind) → KeepsBelow d (point_item name x y kind) 5 → ¬ (IsName name) → IsFirstCode d (point_item name x y kind) BadName
IsFirstCode-bad_name d name x y kind kept bad =
    IsFirstCode-at d (point_item name x y kind) BadName kept (λ all. bad (All-head IsName name [] all))

-- a point whose name is one
pub KeepsBelow-point_name : (d : Draft) (name : List ℕ) (x y : ℤ) (kind : RawKind) → KeepsBelow d (point_item name x y kind) 5 → IsName name → KeepsBelow d (point_item name x y kind) 6
KeepsBelow-point_name d name x y kind kept named =
    KeepsBelow-past d (point_item name x y kind) BadName kept (λ bad. bad (All-cons IsName name [] named (All-nil _)))

-- a point past the rules on names and places, none of which but those on counts is left
pub KeepsBelow-point_place : (d : Draft) (name : List ℕ) (x y : ℤ) (kind : RawKind) → KeepsBelow d (point_item name x y kind) 7 → ¬ (Any (λ p. IsAt (Some x) (Some y) p.at) d.site.points) → KeepsBelow d (point_item name x y kind) 11
KeepsBelow-point_place d name x y kind kept free =
    let item = point_item name x y kind in
    KeepsBelow-past d item InObstacle
    (KeepsBelow-past d item SamePair (KeepsBelow-past d item UnknownName (KeepsBelow-past d item SamePlace kept free) (λ h. h)) (λ h. h)) (λ h. h)

-- a point that isn't one too many
pub IsGood-point : (d : Draft) (name : List ℕ) (x y : ℤ) (kind : RawKind) → KeepsBelow d (point_item name x y kind) 11 → length d.site.points < 256 → IsGood d (point_item name x y kind)
IsGood-point d name x y kind kept few =
    IsGood-kept d (point_item name x y kind) (KeepsBelow-past d (point_item name x y kind) TooMany kept (λ (many : 256 ≤ length d.site.points). omega arith))

-- the site so far with a good point more
pub IsDraft-pushed_point : (d e : Draft) (item : RawItem) (p : Point) (points : List Point) → d ≡ e → IsDraft d → IsGood e item → item ≡ item_of_point p → points ≡ d.site.points ++ p ∷ []
    → IsDraft (record d { stage = 3; site = record d.site { points = points } })
IsDraft-pushed_point d e item p points same draft good said pushed =
    let good_here : IsGood d (item_of_point p) = subst (λ (i : RawItem). IsGood d i) said (subst (λ (f : Draft). IsGood f item) (sym same) good) in
    subst (λ (ps : List Point). IsDraft (record d { stage = 3; site = record d.site { points = ps } })) (sym pushed) (IsDraft-point d p draft good_here)

-- what a point adds
pub Adds-pushed_point : (d e : Draft) (item : RawItem) (p : Point) (points : List Point) → d ≡ e → item ≡ item_of_point p → points ≡ d.site.points ++ p ∷ []
    → Adds e item (record d { stage = 3; site = record d.site { points = points } })
Adds-pushed_point d e item p points same said pushed =
    let F : Draft = record d { stage = 3; site = record d.site { points = points } } in
    let here : Adds d (item_of_point p) F = (p, refl, record { x_is = refl; y_is = refl }, refl, ap (λ (ps : List Point). record d { stage = 3; site = record d.site { points = ps } }) pushed) in
    subst (λ (f : Draft). Adds f item F) same (subst (λ (i : RawItem). Adds d i F) (sym said) here)
