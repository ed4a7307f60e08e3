-- A part of a search: events that lead on, and the lines of their items.
use Rattle.std.specs.Prelude.{◌≡◌, ℕ, List, [], ◌∷◌, ◌++◌, drop, Result, Err, OnOk, OnErr, map}
use Rattle.std.specs.List.{concat}
use Rattle.cable_definitions.specs.declared.cable.Arc.{Arc}
use Rattle.cable_definitions.specs.Site.{Site}
use Rattle.cable_definitions.specs.Tree.{Item}
use Rattle.cable_definitions.specs.Text.{item_lines}
use Rattle.cable_definitions.specs.Core.{Core, Event, Runs, are_row_items}
use Rattle.cable_definitions.specs.Stream.{StreamState, FaultsRose, FaultsOnlyRise, Appends, AppendsPrefix}
use Rattle.search_core.specs.Works.{last_item}
use Rattle.search_progress.specs.declared.progress.Progress.{Progress}
use Rattle.search_core.specs.declared.machine.Step.{Step}
use Rattle.search_core.specs.declared.machine.Step.TheVariants.{Nothing, Took, Kept, Worked}
use Rattle.search_core.specs.declared.searching.SearchFault.{SearchFault}
use Rattle.search_core.specs.declared.searching.SearchFault.TheVariants.{Write}

-- the rows that a step listed, and the work that it did
abbrev pub items_after : Progress → Step → List Item
items_after p Nothing = []
items_after p (Took v) = []
items_after p Kept = []
items_after p (Worked from to) = are_row_items (drop from p.pool) ++ last_item p ∷ []

-- what writing a text does to a sink where memory may be lacking too: all of it stands there, or a first part
pub record Tells {A : Type 0} (result : Result A SearchFault) (old_sink new_sink : StreamState) (text : List ℕ) : Type 0 where
  pub whole : OnOk result (Appends old_sink.bytes new_sink.bytes text)
  pub part : OnErr result (AppendsPrefix old_sink.bytes new_sink.bytes text)
  pub failed : result ≡ Err Write → FaultsRose old_sink new_sink
  pub count : FaultsOnlyRise old_sink new_sink

-- Events lead on from a state, and the lines of the items that they add are written; where all went well they lead to what is to be reached, and that is
-- the state that stands now, with its items.
pub record Advances {A : Type 0} (result : Result A SearchFault) (s : Site) (arcs : List Arc) (n : ℕ) (old : Core) (Reached : Core → Type 0) (now : List Item → Core)
    (old_sink new_sink : StreamState) : Type 0 where
  pub events : List Event
  pub core : Core
  pub runs : Runs s arcs n old events core
  pub items : List Item
  pub added : core.items ≡ old.items ++ items
  pub tells : Tells result old_sink new_sink (concat (map item_lines items))
  pub reached : OnOk result (Reached core × (core ≡ now core.items))
