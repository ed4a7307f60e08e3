-- What holds of every state that a search reaches.
use Rattle.std.specs.Prelude.{◌≡◌, ℕ, ◌+◌, ◌≤◌, ◌⊎◌, List, length, slice_get, Some, Option}
use Rattle.cable_definitions.specs.declared.cable.Cable.{Cable}
use Rattle.cable_definitions.specs.declared.cable.Arc.{Arc}
use Rattle.cable_definitions.specs.Site.{Site}
use Rattle.cable_definitions.specs.Layout.{IsLegal}
use Rattle.cable_definitions.specs.Tree.{Unworked, Stopped, WasFull, Node, node_of, ceiling, IsAccepted}
use Rattle.cable_definitions.specs.Core.{Core, IsBelowKnown, held_count}
use Rattle.proof_laws.specs.Decided.{HasPointRows}
use Rattle.proof_laws.specs.WorksLeft.{IsUnworked}
use Rattle.run_definitions.specs.Plan.{HasIsolatedTurbine}

-- each lane that holds a node holds one that isn't worked
abbrev pub AreHeldUnworked : List Node → List (Option ℕ) → Type 0
AreHeldUnworked nodes lanes = (lane v : ℕ) → slice_get lanes lane ≡ Some (Some v) → IsUnworked nodes v

-- no two lanes hold one node
abbrev pub AreHeldApart : List (Option ℕ) → Type 0
AreHeldApart lanes = (i j v : ℕ) → slice_get lanes i ≡ Some (Some v) → slice_get lanes j ≡ Some (Some v) → i ≡ j

-- the node was stopped, or is full
abbrev pub IsStoppedOrFull : Node → Type 0
IsStoppedOrFull node = (node.status ≡ Stopped) ⊎ (node.status ≡ WasFull)

-- the known layout costs no more than the bound of any stopped or full node; where none is known, no node is stopped or full
abbrev pub AreBeaten : Site → Option (List Cable) → List Node → Type 0
AreBeaten s known nodes = (v : ℕ) (node : Node) → node_of nodes v ≡ Some node → IsStoppedOrFull node → ¬ (IsBelowKnown s known node.bound)

-- no node that isn't worked has a bound above the ceiling
abbrev pub AreCapped : Site → List Arc → List Node → Type 0
AreCapped s arcs nodes = (v : ℕ) (node : Node) → node_of nodes v ≡ Some node → node.status ≡ Unworked → node.bound ≤ ceiling s arcs

-- What holds of every state that a search reaches:
--   accepted          its items are accepted within the budget n, and leave behind what is kept;
--   rows              every well-formed `Out`, `Inlet` and `Bend` row is listed;
--   held_unworked     a lane holds no node that is worked;
--   held_apart        no two lanes hold one node;
--   legal             the known layout is legal;
--   budget            the works done and the nodes held are together at most n;
--   beaten            the known layout costs no more than the bound of any stopped or full node;
--   capped            the bound of a node that isn't worked is at most the ceiling;
--   alone             where no arc leads out of some turbine, node 1 is all that was made.
pub record IsCore (s : Site) (arcs : List Arc) (n : ℕ) (core : Core) : Type 0 where
  pub accepted : IsAccepted s arcs n core.items core.kept
  pub rows : HasPointRows s arcs core.kept.rows
  pub held_unworked : AreHeldUnworked core.kept.nodes core.lanes
  pub held_apart : AreHeldApart core.lanes
  pub legal : (cables : List Cable) → core.known ≡ Some cables → IsLegal s cables
  pub budget : core.kept.works + held_count core ≤ n
  pub beaten : AreBeaten s core.known core.kept.nodes
  pub capped : AreCapped s arcs core.kept.nodes
  pub alone : HasIsolatedTurbine s → length core.kept.nodes ≡ 1
