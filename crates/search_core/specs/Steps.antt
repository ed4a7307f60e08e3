-- What a step did.
use Rattle.std.specs.Prelude.{◌≡◌, ◌≢◌, ℕ, List, [], ◌++◌, length, slice_get, Some}
use Rattle.cable_definitions.specs.declared.cable.Cable.{Cable}
use Rattle.cable_definitions.specs.declared.cable.Arc.{Arc}
use Rattle.cable_definitions.specs.Site.{Site}
use Rattle.cable_definitions.specs.Layout.{IsLegal}
use Rattle.cable_definitions.specs.Tree.{Item}
use Rattle.cable_definitions.specs.Core.{Event as CoreEvent, Take as CoreTake, Work as CoreWork, Found as CoreFound, IsPossible, Happens}
use Rattle.search_progress.specs.Progress.{core_of}
use Rattle.search_core.specs.Works.{items_since}
use Rattle.search_progress.specs.declared.progress.Progress.{Progress}
use Rattle.search_core.specs.declared.machine.Event.{Event}
use Rattle.search_core.specs.declared.machine.Event.TheVariants.{Take, Work, Found}
use Rattle.search_core.specs.declared.machine.Step.{Step}
use Rattle.search_core.specs.declared.machine.Step.TheVariants.{Nothing, Took, Kept, Worked}

-- the event as the definitions of the search name it
abbrev pub event_of : Event → CoreEvent
event_of (Take lane) = CoreTake lane
event_of (Work lane) = CoreWork lane
event_of (Found layout) = CoreFound layout.now

-- a layout that was found is legal
abbrev pub IsSound : Site → Event → Type 0
IsSound s (Take lane) = Unit {0}
IsSound s (Work lane) = Unit {0}
IsSound s (Found layout) = IsLegal s layout.now

-- the items of a step
abbrev pub items_of : Progress → Progress → Step → List Item
items_of old new Nothing = []
items_of old new (Took v) = []
items_of old new Kept = []
items_of old new (Worked from to) = items_since old new

-- What the step on an event did: nothing, exactly where the event isn't possible, and then all is as before; or else the event happened, and the items of
-- the step stand behind the earlier ones. A lane took the node that is answered, the layout that was found is the known one, or a lane's node was worked
-- after the rows of these numbers were listed.
pub record Did (s : Site) (arcs : List Arc) (n : ℕ) (old : Progress) (event : CoreEvent) (new : Progress) (step : Step) : Type 0 where
  pub nothing : step ≡ Nothing → (items : List Item) → ¬ (IsPossible s n (core_of items old) event)
  pub same : step ≡ Nothing → new ≡ old
  pub happens : step ≢ Nothing → (items : List Item) → Happens s arcs n (core_of items old) event (core_of (items ++ items_of old new step) new)
  pub took : (v : ℕ) → step ≡ Took v → (lane : ℕ) × (event ≡ CoreTake lane) × (slice_get new.lanes.items lane ≡ Some (Some v))
  pub kept : step ≡ Kept → (cables : List Cable) × (event ≡ CoreFound cables)
  pub worked : (from to : ℕ) → step ≡ Worked from to → (lane : ℕ) × (event ≡ CoreWork lane) × (from ≡ length old.pool) × (to ≡ length new.pool)
