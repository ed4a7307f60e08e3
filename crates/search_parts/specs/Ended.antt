-- A search that is at its end, and what is concluded from it.
use Rattle.std.specs.Prelude.{◌≡◌, ◌≢◌, ℕ, ◌≤◌, List, Option, Some}
use Rattle.cable_definitions.specs.declared.cable.Cable.{Cable}
use Rattle.cable_definitions.specs.declared.cable.Arc.{Arc}
use Rattle.cable_definitions.specs.declared.claim.Claim.{Claim}
use Rattle.cable_definitions.specs.declared.claim.Claim.TheVariants.{Infeasible}
use Rattle.cable_definitions.specs.Site.{Site, IsValid}
use Rattle.cable_definitions.specs.Arcs.{AreArcs}
use Rattle.cable_definitions.specs.Layout.{cost}
use Rattle.cable_definitions.specs.Part.{IsSettled}
use Rattle.cable_definitions.specs.InTree.{HasNoBends}
use Rattle.cable_definitions.specs.Tree.{Unworked, Node, node_of}
use Rattle.cable_definitions.specs.Core.{Core, Runs}
use Rattle.run_definitions.specs.Plan.{IsAtLeastFirstCables, IsAtLeastInTrees, HasNoInTree}
use Rattle.run_definitions.specs.Rounds.{found, IsOver}
use Rattle.search_laws.specs.Cores.{IsCore}
use Rattle.search_parts.specs.Floored.{IsFloored}
use Rattle.search_parts.specs.declared.start.Incumbent.{Incumbent}
use Rattle.search_parts.specs.declared.start.Incumbent.TheVariants.{Known, Part}
use Rattle.search_parts.specs.Start.{AreInOrder, BeatsStraight}
use Rattle.search_parts.specs.Outcome.{IsOutcome, HasCost}

-- once node 1 is worked it is as the work on it leaves it
abbrev pub IsRootFloored : Site → List Node → Type 0
IsRootFloored s nodes = (first : Node) → node_of nodes 1 ≡ Some first → first.status ≢ Unworked → IsFloored s first

-- the known layout, where there is one, stands in ascending order of start
abbrev pub IsKnownInOrder : Option (List Cable) → Type 0
IsKnownInOrder known = (cables : List Cable) → known ≡ Some cables → AreInOrder cables

-- where the search began with a layout, one is known that costs no more
abbrev pub IsNoDearer : Site → Incumbent → Option (List Cable) → Type 0
IsNoDearer s (Known settled) known = (cables : List Cable) × (known ≡ Some cables) × (cost s cables ≤ settled.cost)
IsNoDearer s (Part part turbine) known = Unit {0}

-- a search that is at its end, and what it began with
pub record HasEnded (s : Site) (arcs : List Arc) (n : ℕ) (start : Incumbent) (core : Core) : Type 0 where
  pub valid : IsValid s
  pub are_arcs : AreArcs s arcs
  pub some : 1 ≤ n
  pub is_core : IsCore s arcs n core
  pub at_end : IsOver s n core
  pub straight : BeatsStraight s start
  pub no_dearer : IsNoDearer s start core.known
  pub in_order : IsKnownInOrder core.known
  pub floored : IsRootFloored s core.kept.nodes

-- what a plan concludes from the state at the end: a settled layout may be found then, and the layout with a cost that is claimed is the known one
pub record IsConcluded (s : Site) (arcs : List Arc) (n : ℕ) (ended core : Core) (cables : List Cable) (claim : Claim) : Type 0 where
  pub last : Option (List Cable)
  pub settled : (layout : List Cable) → last ≡ Some layout → IsSettled s layout
  pub ends : Runs s arcs n ended (found last) core
  pub items : core.items ≡ ended.items
  pub outcome : IsOutcome s arcs n core.kept cables claim
  pub known : (total : ℕ) → HasCost claim total → core.known ≡ Some cables
  pub floor : IsAtLeastFirstCables s claim
  pub in_trees : HasNoBends s → IsAtLeastInTrees s claim
  pub no_in_tree : HasNoBends s → HasNoInTree s → claim ≡ Infeasible
