-- Rounds that are under way.
use Rattle.std.specs.Prelude.{◌≡◌, ℕ, List, length}
use Rattle.cable_definitions.specs.declared.cable.Arc.{Arc}
use Rattle.cable_definitions.specs.Site.{Site}
use Rattle.cable_definitions.specs.Core.{Core, held_count}
use Rattle.search_laws.specs.Cores.{IsCore}

-- a state that a search reaches, with so many lanes, of which none holds a node
pub record IsIdle (s : Site) (arcs : List Arc) (n lanes : ℕ) (core : Core) : Type 0 where
  pub is_core : IsCore s arcs n core
  pub count : length core.lanes ≡ lanes
  pub empty : held_count core ≡ 0
