-- The first code of an item of a JSON site, and the good items of its version and mode.
use Rattle.std.proofs.Common.{◌≡◌, ℕ, zero, suc, ℤ, pos, ◌<◌, Some, None, Option, IsTrue, refl, subst, arith, lit<}
use Rattle.std.specs.Prelude.{IsSome, ◌≤◌, All}
use Rattle.std.proofs.lemmas.Int.{ints}
use Rattle.cable_definitions.specs.declared.site.Version.{Version}
use Rattle.cable_definitions.specs.declared.site.Version.TheVariants.{One, Two}
use Rattle.cable_definitions.specs.declared.site.Mode.{Mode}
use Rattle.cable_definitions.specs.declared.site.SiteCode.{SiteCode}
use Rattle.cable_definitions.specs.declared.site.SiteCode.TheVariants.{TooLong, Form, Shape, Range, BadName, SameName, SamePlace, UnknownName, SamePair, InObstacle, TooMany}
use Rattle.cable_definitions.specs.Site.{version_number, latest_version}
use Rattle.cable_definitions.specs.Items.{Draft, RawItem, AVersion, AMode, Stray, Overlong, may_stand, fields_of, Breaks, code_number, empty_draft, IsFirstCode, IsGood, IsWithin, coordinate}
use Rattle.site_model.specs.Drafts.{item_of_version}
use Rattle.site_model.proofs.Codes.{KeepsBelow-shaped, IsFirstCode-at}
use Rattle.site_model.proofs.Ranges.{IsWithin-some}
use Rattle.site_json.specs.Shapes.{IsMisshapen}
use Rattle.site_json.proofs.Misshapen.{misshapen_at}

-- an item of another shape is no overlong line
not_overlong : (item : RawItem) → IsMisshapen item → ¬ (item ≡ Overlong)
not_overlong item misshapen e = subst IsMisshapen e misshapen (refl, λ k d l. absurd (omega (arith, l)))

below_shape : (d : Draft) (item : RawItem) → IsTrue (may_stand d item) → IsMisshapen item → (other : SiteCode) → code_number other < 3 → ¬ (Breaks d item other)
below_shape d item stands misshapen TooLong l b = not_overlong item misshapen b
below_shape d item stands misshapen Form l b = b stands
below_shape d item stands misshapen Shape l b = omega (arith, l)
below_shape d item stands misshapen Range l b = omega (arith, l)
below_shape d item stands misshapen BadName l b = omega (arith, l)
below_shape d item stands misshapen SameName l b = omega (arith, l)
below_shape d item stands misshapen SamePlace l b = omega (arith, l)
below_shape d item stands misshapen UnknownName l b = omega (arith, l)
below_shape d item stands misshapen SamePair l b = omega (arith, l)
below_shape d item stands misshapen InObstacle l b = omega (arith, l)
below_shape d item stands misshapen TooMany l b = omega (arith, l)

-- an item of another shape, where it may stand
pub IsFirstCode-shape : (d : Draft) (item : RawItem) → IsTrue (may_stand d item) → IsMisshapen item → IsFirstCode d item Shape
IsFirstCode-shape d item stands misshapen = record { broken = misshapen; least = below_shape d item stands misshapen }

-- a version that is no whole number
pub IsFirstCode-no_version : (v : Option ℤ) → v ≡ None → IsFirstCode empty_draft (AVersion v) Shape
IsFirstCode-no_version v none = IsFirstCode-shape empty_draft (AVersion v) refl (misshapen_at (AVersion v) 0 (lit< tt) none)

some_value : (v : Option ℤ) (z : ℤ) → v ≡ Some z → IsSome v
some_value None z e = cc
some_value (Some y) z e = refl

given_one : (v : Option ℤ) (z : ℤ) → v ≡ Some z → All (λ f. IsSome f.value) (fields_of (AVersion v))
given_one v z e zero d l = some_value v z e
given_one v z e (suc k) d l = absurd (omega (arith, l))

-- a version that isn't read
pub IsFirstCode-other_version : (v : Option ℤ) (z : ℤ) → v ≡ Some z → (z ≡ pos 1 → ⊥) → IsFirstCode empty_draft (AVersion v) Range
IsFirstCode-other_version v z is other =
    IsFirstCode-at empty_draft (AVersion v) Range (KeepsBelow-shaped empty_draft (AVersion v) (λ e. cc) refl refl (given_one v z is))
    (λ all. let r = all 0 (coordinate None) (lit< tt) z is in other (omega (arith, ints, r.0, r.1)))

first_version : (version : Version) → 1 ≤ version_number version
first_version One = omega arith
first_version Two = omega arith

within_one : (n : ℕ) → 1 ≤ n → n ≤ latest_version → All IsWithin (fields_of (AVersion (Some (pos n))))
within_one n least most zero d l = IsWithin-some (pos n) (pos 1) (pos latest_version) (omega (arith, ints)) (omega (arith, ints))
within_one n least most (suc k) d l = absurd (omega (arith, l))

-- the version that is read
pub IsGood-version : (version : Version) → version_number version ≤ latest_version → IsGood empty_draft (item_of_version version)
IsGood-version version latest TooLong b = cc
IsGood-version version latest Form b = b refl
IsGood-version version latest Shape b = b (refl, given_one (Some (pos (version_number version))) _ refl)
IsGood-version version latest Range b = b (within_one (version_number version) (first_version version) latest)
IsGood-version version latest BadName b = b (λ k d l. absurd (omega (arith, l)))
IsGood-version version latest SameName b = b
IsGood-version version latest SamePlace b = b
IsGood-version version latest UnknownName b = b
IsGood-version version latest SamePair b = b
IsGood-version version latest InObstacle b = b
IsGood-version version latest TooMany b = b

-- a mode
pub IsGood-mode : (d : Draft) (mode : Mode) → d.stage ≡ 1 → IsGood d (AMode (Some mode))
IsGood-mode d mode stage TooLong b = cc
IsGood-mode d mode stage Form b = b (rw stage refl)
IsGood-mode d mode stage Shape b = b (refl, λ k e l. absurd (omega (arith, l)))
IsGood-mode d mode stage Range b = b (λ k e l. absurd (omega (arith, l)))
IsGood-mode d mode stage BadName b = b (λ k e l. absurd (omega (arith, l)))
IsGood-mode d mode stage SameName b = b
IsGood-mode d mode stage SamePlace b = b
IsGood-mode d mode stage UnknownName b = b
IsGood-mode d mode stage SamePair b = b
IsGood-mode d mode stage InObstacle b = b
IsGood-mode d mode stage TooMany b = b

-- no mode
pub IsFirstCode-mode : (d : Draft) → d.stage ≡ 1 → IsFirstCode d (AMode None) Shape
IsFirstCode-mode d stage = IsFirstCode-shape d (AMode None) (rw stage refl) (λ w. let no_mode = w.0 in cc)

below_form : (d : Draft) (other : SiteCode) → code_number other < 2 → ¬ (Breaks d Stray other)
below_form d TooLong l b = cc
below_form d Form l b = omega (arith, l)
below_form d Shape l b = omega (arith, l)
below_form d Range l b = omega (arith, l)
below_form d BadName l b = omega (arith, l)
below_form d SameName l b = omega (arith, l)
below_form d SamePlace l b = omega (arith, l)
below_form d UnknownName l b = omega (arith, l)
below_form d SamePair l b = omega (arith, l)
below_form d InObstacle l b = omega (arith, l)
below_form d TooMany l b = omega (arith, l)

-- no type
pub IsFirstCode-stray : (d : Draft) → IsFirstCode d Stray Form
IsFirstCode-stray d = record { broken = λ stands. cc; least = below_form d }
