-- The sides of a line, point by point.
use Rattle.std.proofs.Common.{◌≡◌, ℕ, ◌+◌, ◌<◌, List, length, set, get_or, get_or-set_same, get_or-set_other, slice_get, Some, below_more, arith, sym, subst, ◌∙◌}
use Rattle.std.specs.List.{slice_index_or}
use Rattle.std.proofs.lemmas.Option.{get_or_from_slice_get}
use Rattle.cable_definitions.specs.declared.place.Place.{Place}
use Rattle.cable_definitions.specs.declared.site.Point.{Point}
use Rattle.cable_definitions.specs.Plane.{orient}
use Rattle.crossing_index.specs.declared.sides.Side.{Side}
use Rattle.crossing_index.specs.declared.sides.Side.TheVariants.{OnLine}
use Rattle.crossing_index.specs.Sides.{StandsOn}

-- the side at a number is that of the point that has the number
abbrev SideAt : List Point → Place → Place → List Side → ℕ → Type 0
SideAt points a b sides p = (point : Point) → slice_get points p ≡ Some point → StandsOn (slice_index_or sides p OnLine) (orient a b point.at)

-- one more point
pub sides_more : (points : List Point) (a b : Place) (sides : List Side) (i : ℕ) (side : Side) (read : Point) → length sides ≡ 256 → i < 256 → read ≡ get_or points i read → StandsOn side (orient a b read.at)
    → ((p : ℕ) → p < i → SideAt points a b sides p) → (p : ℕ) → p < i + 1 → SideAt points a b (set sides i side) p
sides_more points a b sides i side read room below is stands before = below_more (SideAt points a b (set sides i side)) i
    (λ p h point e. subst (λ (x : Side). StandsOn x (orient a b point.at)) (sym (get_or-set_other sides i p side OnLine (λ f. absurd (omega (arith, f))))) (before p h point e))
    (λ point e. subst (λ (x : Side). StandsOn x (orient a b point.at)) (sym (get_or-set_same sides i side OnLine (omega (arith, room))))
    (subst (λ (x : Point). StandsOn side (orient a b x.at)) (is ∙ get_or_from_slice_get points i point read e) stands))
