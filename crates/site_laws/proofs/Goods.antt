-- The items of a valid site break no rule after the items before them.
use Rattle.std.proofs.Common.{◌≡◌, ◌≢◌, ℕ, ◌+◌, ◌≤◌, ◌<◌, inl, inr, pos, List, [], ◌∷◌, ◌++◌, length, sum_by, refl, subst, arith, All, Some, IsTrue}
use Rattle.std.specs.Prelude.{Any, IsSome}
use Rattle.std.proofs.lemmas.Int.{ints}
use Rattle.std.proofs.lemmas.List.Elements.{All-nil, All-cons}
use Rattle.cable_definitions.specs.declared.place.Place.{Place}
use Rattle.cable_definitions.specs.declared.site.Version.{Version}
use Rattle.cable_definitions.specs.declared.site.Version.TheVariants.{One, Two}
use Rattle.cable_definitions.specs.declared.site.Mode.{Mode}
use Rattle.cable_definitions.specs.declared.site.Kind.{Kind}
use Rattle.cable_definitions.specs.declared.site.Kind.TheVariants.{Turbine, Substation, Bend}
use Rattle.cable_definitions.specs.declared.site.Point.{Point}
use Rattle.cable_definitions.specs.declared.site.CableType.{CableType}
use Rattle.cable_definitions.specs.declared.site.PairRule.{PairRule}
use Rattle.cable_definitions.specs.declared.site.PairRule.TheVariants.{Charge, Closed}
use Rattle.cable_definitions.specs.declared.site.SiteCode.TheVariants.{TooLong, Form, Shape, Range, BadName, SameName, SamePlace, UnknownName, SamePair, InObstacle, TooMany}
use Rattle.cable_definitions.specs.Naming.{IsName}
use Rattle.cable_definitions.specs.Plane.{IsOutside}
use Rattle.cable_definitions.specs.Site.{version_number, latest_version, IsCableType, IsKind, IsPairRule}
use Rattle.cable_definitions.specs.Items.{AMode, AnObstacle, APair, TheEnd, raw_kind, raw_rule, Draft, may_stand, Field, within, coordinate, kind_fields, rule_fields, IsWithin, HasNamed, IsAt, IsOnNames, IsGood}
use Rattle.site_model.specs.Drafts.{item_of_version, item_of_type, item_of_point, item_of_corner}
use Rattle.site_model.proofs.Ranges.{IsWithin-some}
use Rattle.site_model.proofs.Points.{coordinate_within}
use Rattle.site_laws.proofs.Adding.{place_same}

-- one number that is given
given : (f : Field) (fs : List Field) → IsSome f.value → All (λ g. IsSome g.value) fs → All (λ g. IsSome g.value) (f ∷ fs)
given f fs h k = All-cons (λ g. IsSome g.value) f fs h k

-- one number within its range
ranged : (f : Field) (fs : List Field) → IsWithin f → All IsWithin fs → All IsWithin (f ∷ fs)
ranged f fs h k = All-cons IsWithin f fs h k

-- a coordinate of a place is in range
x_ranged : (c : Place) → IsWithin (coordinate (Some c.x))
x_ranged c = coordinate_within c.x c.x c.x_in_range.least c.x_in_range.most refl

y_ranged : (c : Place) → IsWithin (coordinate (Some c.y))
y_ranged c = coordinate_within c.y c.y c.y_in_range.least c.y_in_range.most refl

-- ---- the version and the mode
version_ranged : (version : Version) → version_number version ≤ latest_version → IsWithin (within (Some (pos (version_number version))) (pos 1) (pos latest_version))
version_ranged One h = IsWithin-some (pos 1) (pos 1) (pos latest_version) (omega (arith, ints)) (omega (arith, ints))
version_ranged Two h = absurd (omega (arith, h))

pub good_version : (d : Draft) (version : Version) → IsTrue (may_stand d (item_of_version version)) → version_number version ≤ latest_version → IsGood d (item_of_version version)
good_version d version stands low TooLong b = cc
good_version d version stands low Form b = b stands
good_version d version stands low Shape b = b (refl, given (within (Some (pos (version_number version))) (pos 1) (pos latest_version)) [] refl (All-nil _))
good_version d version stands low Range b = b (ranged (within (Some (pos (version_number version))) (pos 1) (pos latest_version)) [] (version_ranged version low) (All-nil _))
good_version d version stands low BadName b = b (All-nil _)
good_version d version stands low SameName b = b
good_version d version stands low SamePlace b = b
good_version d version stands low UnknownName b = b
good_version d version stands low SamePair b = b
good_version d version stands low InObstacle b = b
good_version d version stands low TooMany b = b

pub good_mode : (d : Draft) (mode : Mode) → IsTrue (may_stand d (AMode (Some mode))) → IsGood d (AMode (Some mode))
good_mode d mode stands TooLong b = cc
good_mode d mode stands Form b = b stands
good_mode d mode stands Shape b = b (refl, All-nil _)
good_mode d mode stands Range b = b (All-nil _)
good_mode d mode stands BadName b = b (All-nil _)
good_mode d mode stands SameName b = b
good_mode d mode stands SamePlace b = b
good_mode d mode stands UnknownName b = b
good_mode d mode stands SamePair b = b
good_mode d mode stands InObstacle b = b
good_mode d mode stands TooMany b = b

-- ---- types
pub good_type : (d : Draft) (version : Version) (t : CableType) → IsTrue (may_stand d (item_of_type t)) → IsCableType version t → length d.site.types < 8 → IsGood d (item_of_type t)
good_type d version t stands h few TooLong b = cc
good_type d version t stands h few Form b = b stands
good_type d version t stands h few Shape b =
    b (
      refl,
      given (within (Some (pos t.capacity)) (pos 1) (pos 10000)) (within (Some (pos t.price)) (pos 0) (pos 1000000) ∷ within (Some (pos t.loss)) (pos 0) (pos 100) ∷ []) refl
          (given (within (Some (pos t.price)) (pos 0) (pos 1000000)) (within (Some (pos t.loss)) (pos 0) (pos 100) ∷ []) refl (given (within (Some (pos t.loss)) (pos 0) (pos 100)) [] refl (All-nil _))),
    )
good_type d version t stands h few Range b =
    b
    (ranged (within (Some (pos t.capacity)) (pos 1) (pos 10000)) (within (Some (pos t.price)) (pos 0) (pos 1000000) ∷ within (Some (pos t.loss)) (pos 0) (pos 100) ∷ [])
    (IsWithin-some (pos t.capacity) (pos 1) (pos 10000) (let k = h.some_capacity in omega (arith, ints)) (let k = h.capacity in omega (arith, ints)))
    (ranged (within (Some (pos t.price)) (pos 0) (pos 1000000)) (within (Some (pos t.loss)) (pos 0) (pos 100) ∷ []) (IsWithin-some (pos t.price) (pos 0) (pos 1000000) (omega (arith, ints)) (let k = h.price in omega (arith, ints)))
    (ranged (within (Some (pos t.loss)) (pos 0) (pos 100)) [] (IsWithin-some (pos t.loss) (pos 0) (pos 100) (omega (arith, ints)) (let k = h.loss in omega (arith, ints))) (All-nil _))))
good_type d version t stands h few BadName b = b (All-nil _)
good_type d version t stands h few SameName b = b
good_type d version t stands h few SamePlace b = b
good_type d version t stands h few UnknownName b = b
good_type d version t stands h few SamePair b = b
good_type d version t stands h few InObstacle b = b
good_type d version t stands h few TooMany b = omega (arith, few, b)

-- ---- points
kind_given : (kind : Kind) → All (λ f. IsSome f.value) (kind_fields (raw_kind kind))
kind_given (Turbine power) = given (within (Some (pos power)) (pos 1) (pos 1000)) [] refl (All-nil _)
kind_given (Substation feeders power) = given (within (Some (pos feeders)) (pos 0) (pos 256)) (within (Some (pos power)) (pos 0) (pos 300000) ∷ []) refl (given (within (Some (pos power)) (pos 0) (pos 300000)) [] refl (All-nil _))
kind_given Bend = All-nil _

kind_ranged : (kind : Kind) → IsKind kind → All IsWithin (kind_fields (raw_kind kind))
kind_ranged (Turbine power) h = ranged (within (Some (pos power)) (pos 1) (pos 1000)) [] (IsWithin-some (pos power) (pos 1) (pos 1000) (omega (arith, ints, h.0)) (omega (arith, ints, h.1))) (All-nil _)
kind_ranged (Substation feeders power) h =
    ranged (within (Some (pos feeders)) (pos 0) (pos 256)) (within (Some (pos power)) (pos 0) (pos 300000) ∷ []) (IsWithin-some (pos feeders) (pos 0) (pos 256) (omega (arith, ints)) (omega (arith, ints, h.0)))
    (ranged (within (Some (pos power)) (pos 0) (pos 300000)) [] (IsWithin-some (pos power) (pos 0) (pos 300000) (omega (arith, ints)) (omega (arith, ints, h.1))) (All-nil _))
kind_ranged Bend h = All-nil _

-- what a further point needs
pub record IsNewPoint (d : Draft) (p : Point) : Type 0 where
  pub stands : IsTrue (may_stand d (item_of_point p))
  pub name : IsName p.name
  pub kind : IsKind p.kind
  pub new_name : HasNamed d p.name → ⊥
  pub new_place : Any (λ q. IsAt (Some p.at.x) (Some p.at.y) q.at) d.site.points → ⊥
  pub few : length d.site.points < 256

pub good_point : (d : Draft) (p : Point) → IsNewPoint d p → IsGood d (item_of_point p)
good_point d p h TooLong b = cc
good_point d p h Form b = b h.stands
good_point d p h Shape b = b (refl, given (coordinate (Some p.at.x)) (coordinate (Some p.at.y) ∷ kind_fields (raw_kind p.kind)) refl (given (coordinate (Some p.at.y)) (kind_fields (raw_kind p.kind)) refl (kind_given p.kind)))
good_point d p h Range b = b (ranged (coordinate (Some p.at.x)) (coordinate (Some p.at.y) ∷ kind_fields (raw_kind p.kind)) (x_ranged p.at) (ranged (coordinate (Some p.at.y)) (kind_fields (raw_kind p.kind)) (y_ranged p.at) (kind_ranged p.kind h.kind)))
good_point d p h BadName b = b (All-cons IsName p.name [] h.name (All-nil _))
good_point d p h SameName b = h.new_name b
good_point d p h SamePlace b = h.new_place b
good_point d p h UnknownName b = b
good_point d p h SamePair b = b
good_point d p h InObstacle b = b
good_point d p h TooMany b = let few = h.few in omega arith

-- ---- obstacles and corners
-- what a further obstacle needs
pub record IsNewObstacle (d : Draft) (n : ℕ) : Type 0 where
  pub stands : IsTrue (may_stand d (AnObstacle (Some (pos n))))
  pub some : 3 ≤ n
  pub most : n ≤ 1024
  pub few : length d.site.obstacles < 64
  pub corners : sum_by length d.site.obstacles + n ≤ 1024

pub good_obstacle : (d : Draft) (n : ℕ) → IsNewObstacle d n → IsGood d (AnObstacle (Some (pos n)))
good_obstacle d n h TooLong b = cc
good_obstacle d n h Form b = b h.stands
good_obstacle d n h Shape b = b (refl, given (within (Some (pos n)) (pos 3) (pos 1024)) [] refl (All-nil _))
good_obstacle d n h Range b = b (ranged (within (Some (pos n)) (pos 3) (pos 1024)) [] (IsWithin-some (pos n) (pos 3) (pos 1024) (let s = h.some in omega (arith, ints)) (let m = h.most in omega (arith, ints))) (All-nil _))
good_obstacle d n h BadName b = b (All-nil _)
good_obstacle d n h SameName b = b
good_obstacle d n h SamePlace b = b
good_obstacle d n h UnknownName b = b
good_obstacle d n h SamePair b = b
good_obstacle d n h InObstacle b = b
good_obstacle d n h TooMany (inl many) = let few = h.few in omega arith
good_obstacle d n h TooMany (inr (z, e, above)) =
    let same : pos n ≡ z = cc in
    let c = h.corners in
    omega (arith, ints)

pub good_corner : (d : Draft) (c : Place) → IsTrue (may_stand d (item_of_corner c)) → (d.missing ≡ 1 → All (λ p. IsOutside p.at (d.corners ++ c ∷ [])) d.site.points) → IsGood d (item_of_corner c)
good_corner d c stands out TooLong b = cc
good_corner d c stands out Form b = b stands
good_corner d c stands out Shape b = b (refl, given (coordinate (Some c.x)) (coordinate (Some c.y) ∷ []) refl (given (coordinate (Some c.y)) [] refl (All-nil _)))
good_corner d c stands out Range b = b (ranged (coordinate (Some c.x)) (coordinate (Some c.y) ∷ []) (x_ranged c) (ranged (coordinate (Some c.y)) [] (y_ranged c) (All-nil _)))
good_corner d c stands out BadName b = b (All-nil _)
good_corner d c stands out SameName b = b
good_corner d c stands out SamePlace b = b
good_corner d c stands out UnknownName b = b
good_corner d c stands out SamePair b = b
good_corner d c stands out InObstacle (last, (other, at, (k, p, l, e, inside))) =
    let same = place_same (Some c.x) (Some c.y) c other (record { x_is = refl; y_is = refl }) at in
    let P : Point → Type 0 = λ q. IsOutside q.at (d.corners ++ c ∷ []) in
    let Q : Place → Type 0 = λ a. IsOutside p.at (d.corners ++ a ∷ []) in
    inside (subst Q same (subst P e (out last k p l)))
good_corner d c stands out TooMany b = b

-- ---- pair rules
rule_given : (rule : PairRule) → All (λ f. IsSome f.value) (rule_fields (raw_rule rule))
rule_given (Charge amount) = given (within (Some (pos amount)) (pos 0) (pos 1000000000000)) [] refl (All-nil _)
rule_given Closed = All-nil _

rule_ranged : (rule : PairRule) → IsPairRule rule → All IsWithin (rule_fields (raw_rule rule))
rule_ranged (Charge amount) h = ranged (within (Some (pos amount)) (pos 0) (pos 1000000000000)) [] (IsWithin-some (pos amount) (pos 0) (pos 1000000000000) (omega (arith, ints)) (omega (arith, ints, h))) (All-nil _)
rule_ranged Closed h = All-nil _

-- what a further pair rule needs
pub record IsNewPair (d : Draft) (a b : List ℕ) (rule : PairRule) : Type 0 where
  pub stands : IsTrue (may_stand d (APair a b (raw_rule rule)))
  pub fits : IsPairRule rule
  pub first : IsName a
  pub second : IsName b
  pub knows_first : HasNamed d a
  pub knows_second : HasNamed d b
  pub differ : a ≢ b
  pub new_pair : Any (IsOnNames d.site a b) d.site.pairs → ⊥

pub good_pair : (d : Draft) (a b : List ℕ) (rule : PairRule) → IsNewPair d a b rule → IsGood d (APair a b (raw_rule rule))
good_pair d a b rule h TooLong e = cc
good_pair d a b rule h Form e = e h.stands
good_pair d a b rule h Shape e = e (refl, rule_given rule)
good_pair d a b rule h Range e = e (rule_ranged rule h.fits)
good_pair d a b rule h BadName e = e (All-cons IsName a (b ∷ []) h.first (All-cons IsName b [] h.second (All-nil _)))
good_pair d a b rule h SameName e = e
good_pair d a b rule h SamePlace e = e
good_pair d a b rule h UnknownName (inl e) = e h.knows_first
good_pair d a b rule h UnknownName (inr e) = e h.knows_second
good_pair d a b rule h SamePair (inl e) = h.differ e
good_pair d a b rule h SamePair (inr e) = h.new_pair e
good_pair d a b rule h InObstacle e = e
good_pair d a b rule h TooMany e = e

-- ---- the end
pub good_end : (d : Draft) → IsTrue (may_stand d TheEnd) → IsGood d TheEnd
good_end d stands TooLong b = cc
good_end d stands Form b = b stands
good_end d stands Shape b = b (refl, All-nil _)
good_end d stands Range b = b (All-nil _)
good_end d stands BadName b = b (All-nil _)
good_end d stands SameName b = b
good_end d stands SamePlace b = b
good_end d stands UnknownName b = b
good_end d stands SamePair b = b
good_end d stands InObstacle b = b
good_end d stands TooMany b = b
