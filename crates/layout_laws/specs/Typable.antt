-- Lists of cables to which types can be given that make them grown.
use Rattle.std.specs.Prelude.{◌≢◌, ℕ, ◌<◌, ◌≤◌, List, [], ◌∷◌, ◌++◌, length}
use Rattle.cable_definitions.specs.declared.cable.Cable.{Cable}
use Rattle.cable_definitions.specs.declared.cable.Rule.{Rule}
use Rattle.cable_definitions.specs.declared.cable.Rule.TheVariants.{Range, Unjoined, Overload}
use Rattle.cable_definitions.specs.Site.{Site}
use Rattle.cable_definitions.specs.Arcs.{largest_capacity}
use Rattle.cable_definitions.specs.Walk.{load}
use Rattle.cable_definitions.specs.Layout.{IsCable, Keeps}

-- All rules of a grown part are kept but those on types, and no cable carries more than the largest capacity.
pub record IsTypable (s : Site) (cables : List Cable) : Type 0 where
  pub from : (i : ℕ) (c : Cable) → IsCable cables i c → c.from < length s.points
  pub to : (i : ℕ) (c : Cable) → IsCable cables i c → c.to < length s.points
  pub rules : (rule : Rule) (i j : ℕ) → rule ≢ Range → rule ≢ Unjoined → rule ≢ Overload → Keeps s cables rule i j
  pub loads : (i : ℕ) (c : Cable) → IsCable cables i c → load s cables c.from ≤ largest_capacity s

-- the list with one more cable at its end, of type 0
abbrev pub extended_by : List Cable → ℕ → ℕ → List Cable
extended_by cables p q = cables ++ record { from = p; to = q; grade = 0 } ∷ []
