-- Places, cables and sites of the examples.
use Rattle.std.proofs.Common.{ℕ, List, [], ◌∷◌, ℤ, pos, neg_ℤ}
use Rattle.std.specs.Prelude.{codes, ◌≤ℤ◌}
use lib.Signed.{le_z_yes}
use Rattle.cable_definitions.specs.declared.place.Place.{Place}
use Rattle.cable_definitions.specs.declared.cable.Cable.{Cable}
use Rattle.cable_definitions.specs.declared.cable.Arc.{Arc}
use Rattle.cable_definitions.specs.declared.site.Version.{Version}
use Rattle.cable_definitions.specs.declared.site.Version.TheVariants.{One, Two}
use Rattle.cable_definitions.specs.declared.site.Mode.{Mode}
use Rattle.cable_definitions.specs.declared.site.Mode.TheVariants.{Tree, Strings}
use Rattle.cable_definitions.specs.declared.site.Kind.{Kind}
use Rattle.cable_definitions.specs.declared.site.Kind.TheVariants.{Turbine, Substation, Bend}
use Rattle.cable_definitions.specs.declared.site.Point.{Point}
use Rattle.cable_definitions.specs.declared.site.CableType.{CableType}
use Rattle.cable_definitions.specs.declared.site.PairRule.TheVariants.{Charge, Closed}
use Rattle.cable_definitions.specs.declared.site.Pair.{Pair}
use Rattle.cable_definitions.specs.declared.row.RowKind.TheVariants.{Out}
use Rattle.cable_definitions.specs.Site.{Site}
use Rattle.cable_definitions.specs.Row.{Row}

-- ---- places
-- a place, with the four facts that it is in range
abbrev pub place : (x y : ℤ) → neg_ℤ (pos 1000000) ≤ℤ x → x ≤ℤ pos 1000000 → neg_ℤ (pos 1000000) ≤ℤ y → y ≤ℤ pos 1000000 → Place
place x y a b c d = record { x = x; y = y; x_in_range = record { least = a; most = b }; y_in_range = record { least = c; most = d } }

abbrev pub origin : Place
origin = place (pos 0) (pos 0) (le_z_yes tt) (le_z_yes tt) (le_z_yes tt) (le_z_yes tt)

abbrev pub near : Place
near = place (pos 300) (pos 400) (le_z_yes tt) (le_z_yes tt) (le_z_yes tt) (le_z_yes tt)

abbrev pub one_one : Place
one_one = place (pos 1) (pos 1) (le_z_yes tt) (le_z_yes tt) (le_z_yes tt) (le_z_yes tt)

abbrev pub east : Place
east = place (pos 1000) (pos 0) (le_z_yes tt) (le_z_yes tt) (le_z_yes tt) (le_z_yes tt)

abbrev pub far_east : Place
far_east = place (pos 2000) (pos 0) (le_z_yes tt) (le_z_yes tt) (le_z_yes tt) (le_z_yes tt)

abbrev pub north : Place
north = place (pos 0) (pos 1000) (le_z_yes tt) (le_z_yes tt) (le_z_yes tt) (le_z_yes tt)

abbrev pub north_east : Place
north_east = place (pos 1000) (pos 1000) (le_z_yes tt) (le_z_yes tt) (le_z_yes tt) (le_z_yes tt)

abbrev pub west_up : Place
west_up = place (neg_ℤ (pos 300)) (pos 1400) (le_z_yes tt) (le_z_yes tt) (le_z_yes tt) (le_z_yes tt)

abbrev pub east_up : Place
east_up = place (pos 300) (pos 1400) (le_z_yes tt) (le_z_yes tt) (le_z_yes tt) (le_z_yes tt)

abbrev pub beside_block : Place
beside_block = place (pos 200) (pos 500) (le_z_yes tt) (le_z_yes tt) (le_z_yes tt) (le_z_yes tt)

abbrev pub close_to_block : Place
close_to_block = place (pos 125) (pos 500) (le_z_yes tt) (le_z_yes tt) (le_z_yes tt) (le_z_yes tt)

abbrev pub on_block : Place
on_block = place (pos 100) (pos 500) (le_z_yes tt) (le_z_yes tt) (le_z_yes tt) (le_z_yes tt)

abbrev pub in_block : Place
in_block = place (pos 0) (pos 500) (le_z_yes tt) (le_z_yes tt) (le_z_yes tt) (le_z_yes tt)

abbrev pub south_west_corner : Place
south_west_corner = place (neg_ℤ (pos 100)) (pos 400) (le_z_yes tt) (le_z_yes tt) (le_z_yes tt) (le_z_yes tt)

abbrev pub south_east_corner : Place
south_east_corner = place (pos 100) (pos 400) (le_z_yes tt) (le_z_yes tt) (le_z_yes tt) (le_z_yes tt)

abbrev pub north_east_corner : Place
north_east_corner = place (pos 100) (pos 600) (le_z_yes tt) (le_z_yes tt) (le_z_yes tt) (le_z_yes tt)

abbrev pub north_west_corner : Place
north_west_corner = place (neg_ℤ (pos 100)) (pos 600) (le_z_yes tt) (le_z_yes tt) (le_z_yes tt) (le_z_yes tt)

-- a block on the way from the origin to the north
abbrev pub block : List Place
block = south_west_corner ∷ south_east_corner ∷ north_east_corner ∷ north_west_corner ∷ []

abbrev pub greatest_corner : Place
greatest_corner = place (pos 1000000) (pos 1000000) (le_z_yes tt) (le_z_yes tt) (le_z_yes tt) (le_z_yes tt)

abbrev pub least_corner : Place
least_corner = place (neg_ℤ (pos 1000000)) (neg_ℤ (pos 1000000)) (le_z_yes tt) (le_z_yes tt) (le_z_yes tt) (le_z_yes tt)

-- ---- parts of sites
abbrev pub point : List ℕ → Place → Kind → Point
point name at kind = record { name = name; at = at; kind = kind }

abbrev pub cable : ℕ → ℕ → ℕ → Cable
cable from to grade = record { from = from; to = to; grade = grade }

abbrev pub type_of : ℕ → ℕ → ℕ → CableType
type_of capacity price loss = record { capacity = capacity; price = price; loss = loss }

abbrev pub charge : ℕ → ℕ → ℕ → Pair
charge a b amount = record { a = a; b = b; rule = Charge amount }

abbrev pub closed : ℕ → ℕ → Pair
closed a b = record { a = a; b = b; rule = Closed }

abbrev pub site_of : Version → Mode → List CableType → List Point → Site
site_of version mode types points = record { version = version; mode = mode; types = types; points = points; obstacles = []; pairs = [] }

-- a substation with 4 feeders and a power of 10,000
abbrev pub wide : Kind
wide = Substation 4 10000

-- ---- sites
-- a substation alone
abbrev pub no_turbine : Site
no_turbine = site_of One Tree (type_of 400 1 0 ∷ []) (point (codes "S") origin wide ∷ [])

-- a turbine alone
abbrev pub no_substation : Site
no_substation = site_of One Tree (type_of 400 1 0 ∷ []) (point (codes "A") origin (Turbine 100) ∷ [])

-- a substation and one turbine
abbrev pub two_points : Site
two_points = site_of One Tree (type_of 400 100 0 ∷ []) (point (codes "S") origin wide ∷ point (codes "A") near (Turbine 100) ∷ [])

-- its one candidate arc, and the row that a cable leaves its turbine
abbrev pub only_arc : List Arc
only_arc = record { from = 1; to = 0; length = 500; charge = 0 } ∷ []

abbrev pub out_row : Row
out_row = record { kind = Out; members = 1 ∷ [] }

-- two turbines behind each other
abbrev pub in_a_row : List CableType → Site
in_a_row types = site_of One Tree types (point (codes "S") origin wide ∷ point (codes "A") east (Turbine 100) ∷ point (codes "B") far_east (Turbine 100) ∷ [])

-- two substations, and two turbines across
abbrev pub crossing : Site
crossing = site_of One Tree (type_of 400 1 0 ∷ []) (point (codes "S1") origin wide ∷ point (codes "S2") east wide ∷ point (codes "A") north (Turbine 100) ∷ point (codes "B") north_east (Turbine 100) ∷ [])

-- a block between a substation and a turbine, a bend beside it, and a charge on the way to the bend
abbrev pub around : Site
around = record {
  version = One;
  mode = Tree;
  types = type_of 400 1 0 ∷ [];
  points = point (codes "S") origin wide ∷ point (codes "A") north (Turbine 100) ∷ point (codes "K") beside_block Bend ∷ [];
  obstacles = block ∷ [];
  pairs = closed 0 1 ∷ charge 2 1 7 ∷ [];
}

-- a turbine behind which two turbines stand
abbrev pub fork_points : List Point
fork_points = point (codes "S") origin wide ∷ point (codes "A") north (Turbine 100) ∷ point (codes "B") west_up (Turbine 100) ∷ point (codes "C") east_up (Turbine 100) ∷ []

abbrev pub fork : Site
fork = site_of One Tree (type_of 400 1 0 ∷ []) fork_points

abbrev pub fork_of_strings : Site
fork_of_strings = site_of One Strings (type_of 400 1 0 ∷ []) fork_points

abbrev pub fork_with_losses : Site
fork_with_losses = site_of Two Tree (type_of 400 0 1 ∷ []) fork_points

-- two turbines joined in the one before them, and a string of the three
abbrev pub branched : List Cable
branched = cable 1 0 0 ∷ cable 2 1 0 ∷ cable 3 1 0 ∷ []

abbrev pub stringed : List Cable
stringed = cable 1 0 0 ∷ cable 2 1 0 ∷ cable 3 2 0 ∷ []

abbrev pub arc : ℕ → ℕ → ℕ → Arc
arc from to length = record { from = from; to = to; length = length; charge = 0 }

-- the candidate arcs of the fork
abbrev pub fork_arcs : List Arc
fork_arcs = arc 1 0 1000 ∷ arc 1 2 500 ∷ arc 1 3 500 ∷ arc 2 0 1432 ∷ arc 2 1 500 ∷ arc 2 3 600 ∷ arc 3 0 1432 ∷ arc 3 1 500 ∷ arc 3 2 600 ∷ []

-- three turbines on the corners of a square
abbrev pub square : Kind → CableType → Site
square substation t = site_of One Tree (t ∷ []) (point (codes "S") origin substation ∷ point (codes "A") north (Turbine 100) ∷ point (codes "B") east (Turbine 100) ∷ point (codes "C") north_east (Turbine 100) ∷ [])

-- two points at the ends of the range
abbrev pub wide_apart : Site
wide_apart = site_of Two Tree (type_of 10000 1000000 100 ∷ []) (point (codes "S") greatest_corner wide ∷ point (codes "A") least_corner (Turbine 1000) ∷ [])
