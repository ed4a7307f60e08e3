-- An arc with both ends on one side of another arc's line doesn't clash with it.
use Rattle.std.proofs.Common.{ℤ, List, inl, inr, arith}
use Rattle.std.proofs.lemmas.Int.{ints}
use Rattle.std.specs.List.{slice_index_or}
use Rattle.cable_definitions.specs.declared.cable.Arc.{Arc}
use Rattle.cable_definitions.specs.Plane.{orient}
use Rattle.cable_definitions.specs.Site.{Site}
use Rattle.cable_definitions.specs.Layout.{PairsClash}
use Rattle.plane_geometry.specs.Sides.{Straddle}
use Rattle.plane_geometry.proofs.Meeting.{Straddle-from_Meet}
use Rattle.plane_geometry.proofs.Clashing.{Meet-from_Clash}
use Rattle.crossing_index.specs.declared.sides.Side.{Side}
use Rattle.crossing_index.specs.declared.sides.Side.TheVariants.{Left, OnLine, Right}
use Rattle.crossing_index.specs.Sides.{StandsOn, AreBeside, HasSides}

-- two areas of one sign don't straddle
no_straddle : (x y : ℤ) (first second : Side) → StandsOn first x → StandsOn second y → AreBeside first second → Straddle x y → ⊥
no_straddle x y Left Left h k b (inl s) = omega (arith, ints)
no_straddle x y Left Left h k b (inr s) = omega (arith, ints)
no_straddle x y Left OnLine h k b s = absurd (cc)
no_straddle x y Left Right h k b s = absurd (cc)
no_straddle x y OnLine second h k b s = b
no_straddle x y Right Left h k b s = absurd (cc)
no_straddle x y Right OnLine h k b s = absurd (cc)
no_straddle x y Right Right h k b (inl s) = omega (arith, ints)
no_straddle x y Right Right h k b (inr s) = omega (arith, ints)

pub no_clash_beside : (s : Site) (arc other : Arc) (sides : List Side) → HasSides s arc sides → AreBeside (slice_index_or sides other.from OnLine) (slice_index_or sides other.to OnLine)
    → PairsClash s arc.from arc.to other.from other.to → ⊥
no_clash_beside s arc other sides has beside k =
    let meet = Meet-from_Clash k.from.at k.to.at k.other_from.at k.other_to.at k.clash in
    let straddle = (Straddle-from_Meet k.from.at k.to.at k.other_from.at k.other_to.at meet).0 in
    let at = has k.from k.to k.from_is k.to_is in
    no_straddle (orient k.from.at k.to.at k.other_from.at) (orient k.from.at k.to.at k.other_to.at) (slice_index_or sides other.from OnLine) (slice_index_or sides other.to OnLine)
    (at other.from k.other_from k.other_from_is) (at other.to k.other_to k.other_to_is) beside straddle
