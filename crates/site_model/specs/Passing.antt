-- What a cable passes.
use Rattle.std.specs.Prelude.{◌≡◌, ◌≢◌, ℕ, List, slice_get, Some, All}
use Rattle.cable_definitions.specs.declared.place.Place.{Place}
use Rattle.cable_definitions.specs.declared.site.Kind.TheVariants.{Bend}
use Rattle.cable_definitions.specs.declared.site.Point.{Point}
use Rattle.cable_definitions.specs.Plane.{IsOn, Meet}

-- point number r is one of these two, or no turbine or substation on the segment A-B
abbrev pub IsNotPassed : List Point → ℕ → ℕ → Place → Place → ℕ → Type 0
IsNotPassed points from to a b r = (other : Point) → slice_get points r ≡ Some other → r ≢ from → r ≢ to → other.kind ≢ Bend → ¬ (IsOn other.at a b)

-- no turbine or substation among these points but the two of these numbers stands on the segment A-B
abbrev pub PassesNone : List Point → ℕ → ℕ → Place → Place → Type 0
PassesNone points from to a b = (r : ℕ) → IsNotPassed points from to a b r

-- the segment A-B meets none of these edges
abbrev pub IsClear : Place → Place → List (Place × Place) → Type 0
IsClear a b edges = All (λ e. ¬ (Meet a b e.0 e.1)) edges
