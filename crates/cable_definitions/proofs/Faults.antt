-- Codes of items: a name that stands already, a version that isn't read, a pair that is ruled already, a ninth type, and a point on an obstacle.
use Rattle.std.proofs.Common.{◌≡◌, zero, suc, ◌<◌, inr, [], ◌∷◌, ℤ, pos, neg_ℤ, Bool, true, false, refl, arith, ap}
use Rattle.std.proofs.lemmas.Bool.{false≢true}
use Rattle.std.specs.Prelude.{codes, Some, unwrap_or, All, IsSome, replicate, ◌≤ℤ◌}
use Rattle.std.specs.List.{AllPass}
use Rattle.std.proofs.lemmas.Int.{ints}
use Rattle.cable_definitions.specs.Naming.{IsName, is_name_byte}
use Rattle.cable_definitions.specs.declared.site.Version.TheVariants.{One}
use Rattle.cable_definitions.specs.declared.site.Mode.TheVariants.{Tree}
use Rattle.cable_definitions.specs.declared.site.Kind.TheVariants.{Bend}
use Rattle.cable_definitions.specs.declared.site.SiteCode.{SiteCode}
use Rattle.cable_definitions.specs.declared.site.SiteCode.TheVariants.{TooLong, Form, Shape, Range, BadName, SameName, SamePlace, UnknownName, SamePair, InObstacle, TooMany}
use Rattle.cable_definitions.specs.Items.{Draft, RawItem, AVersion, AType, APoint, ACorner, APair, ABend, AClosing, Overlong, empty_draft, within, IsFirstCode, Breaks, code_number, IsWithin, fields_of, names_of}
use Rattle.cable_definitions.proofs.Sites.{south_west_corner, south_east_corner, north_east_corner, north_west_corner, on_block, point, type_of, site_of, two_points, around}
use Rattle.cable_definitions.proofs.Touching.{edge_is_inside}

-- whether the line is too long
is_overlong : RawItem → Bool
is_overlong Overlong = true
is_overlong item = false

-- two numbers that are one option
same_number : (y z : ℤ) → Some y ≡ Some z → y ≡ z
same_number y z e = ap (λ o. unwrap_or o y) e

-- ---- a bend with the name of an earlier turbine
-- a substation S and a turbine A stand
abbrev so_far : Draft
so_far = record { stage = 3; site = two_points; corners = []; missing = 0 }

-- a bend of that name at another place
abbrev second_a : RawItem
second_a = APoint (codes "A") (Some (pos 5)) (Some (pos 6)) ABend

-- its numbers are spelled
shaped : All (λ f. IsSome f.value) (fields_of second_a)
shaped zero d l = refl
shaped (suc zero) d l = refl
shaped (suc (suc k)) d l = absurd (omega (arith, l))

-- a coordinate within its range
within_range : (y z : ℤ) → neg_ℤ (pos 1000000) ≤ℤ y → y ≤ℤ pos 1000000 → Some y ≡ Some z → (neg_ℤ (pos 1000000) ≤ℤ z) × (z ≤ℤ pos 1000000)
within_range y z h k e = let f = same_number y z e in (omega (arith, ints, h, f), omega (arith, ints, k, f))

-- its numbers are within their ranges
ranged : All IsWithin (fields_of second_a)
ranged zero d l = λ z e. within_range (pos 5) z (omega (arith, ints)) (omega (arith, ints)) e
ranged (suc zero) d l = λ z e. within_range (pos 6) z (omega (arith, ints)) (omega (arith, ints)) e
ranged (suc (suc k)) d l = absurd (omega (arith, l))

-- its name is one
spelled : AllPass is_name_byte (codes "A")
spelled zero d l = refl
spelled (suc k) d l = absurd (omega (arith, l))

-- all its names are names
named : All IsName (names_of second_a)
named zero d l = record { not_empty = omega arith; short = omega arith; spelled = spelled }
named (suc k) d l = absurd (omega (arith, l))

-- it breaks no rule of a lesser number
no_lesser_code : (code : SiteCode) → code_number code < 6 → ¬ (Breaks so_far second_a code)
unfolding is_overlong
no_lesser_code TooLong h e = false≢true (ap is_overlong e)
no_lesser_code Form h n = n refl
no_lesser_code Shape h n = n (refl, shaped)
no_lesser_code Range h n = n ranged
no_lesser_code BadName h n = n named
no_lesser_code SameName h n = absurd (omega (arith, h))
no_lesser_code SamePlace h n = absurd (omega (arith, h))
no_lesser_code UnknownName h n = absurd (omega (arith, h))
no_lesser_code SamePair h n = absurd (omega (arith, h))
no_lesser_code InObstacle h n = absurd (omega (arith, h))
no_lesser_code TooMany h n = absurd (omega (arith, h))

pub same_name : IsFirstCode so_far second_a SameName
same_name = record { broken = (1, _, omega arith, refl, refl); least = no_lesser_code }

-- ---- version 2 is out of range as long as it isn't read
-- the item of the line `site 2`
abbrev second_version : RawItem
second_version = AVersion (Some (pos 2))

-- the version is a number
version_shaped : All (λ f. IsSome f.value) (fields_of second_version)
version_shaped zero d l = refl
version_shaped (suc k) d l = absurd (omega (arith, l))

-- it is beyond the latest version
beyond_latest : ¬ (All IsWithin (fields_of second_version))
beyond_latest w = absurd (omega (arith, ints, (w 0 (within (Some (pos 2)) (pos 1) (pos 1)) (omega arith) (pos 2) refl).1))

-- it breaks no rule of a lesser number
no_lesser_code_of_version : (code : SiteCode) → code_number code < 4 → ¬ (Breaks empty_draft second_version code)
unfolding is_overlong
no_lesser_code_of_version TooLong h e = false≢true (ap is_overlong e)
no_lesser_code_of_version Form h n = n refl
no_lesser_code_of_version Shape h n = n (refl, version_shaped)
no_lesser_code_of_version Range h n = absurd (omega (arith, h))
no_lesser_code_of_version BadName h n = absurd (omega (arith, h))
no_lesser_code_of_version SameName h n = absurd (omega (arith, h))
no_lesser_code_of_version SamePlace h n = absurd (omega (arith, h))
no_lesser_code_of_version UnknownName h n = absurd (omega (arith, h))
no_lesser_code_of_version SamePair h n = absurd (omega (arith, h))
no_lesser_code_of_version InObstacle h n = absurd (omega (arith, h))
no_lesser_code_of_version TooMany h n = absurd (omega (arith, h))

pub version_out_of_range : IsFirstCode empty_draft second_version Range
version_out_of_range = record { broken = beyond_latest; least = no_lesser_code_of_version }

-- ---- a pair that is ruled in the other order, a ninth type, and a point on the edge that the last corner makes
pub same_pair : Breaks (record { stage = 5; site = around; corners = []; missing = 0 }) (APair (codes "A") (codes "S") AClosing) SamePair
same_pair = inr (0, _, omega arith, refl, inr (refl, refl))

pub ninth_type : Breaks (record { stage = 2; site = site_of One Tree (replicate 8 (type_of 400 1 0)) []; corners = []; missing = 0 }) (AType (Some (pos 30)) (Some (pos 1)) (Some (pos 0))) TooMany
ninth_type = omega arith

pub point_on_edge : Breaks (record { stage = 4; site = site_of One Tree [] (point (codes "Z") on_block Bend ∷ []); corners = south_west_corner ∷ south_east_corner ∷ north_east_corner ∷ []; missing = 1 }) (ACorner (Some (neg_ℤ (pos 100))) (Some (pos 600))) InObstacle
point_on_edge = (refl, (north_west_corner, record { x_is = refl; y_is = refl }, (0, point (codes "Z") on_block Bend, omega arith, refl, edge_is_inside)))
