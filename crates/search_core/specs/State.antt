-- What a search holds.
use Rattle.std.specs.Prelude.{◌≡◌, ℕ, List, Result, Option, Bool, false}
use Rattle.std.specs.declared.alloc.AllocError.{AllocError}
use Rattle.std.specs.Fn.{Shared}
use denote.Ref.{Bor}
use Rattle.cable_definitions.specs.declared.cable.Arc.{Arc}
use Rattle.cable_definitions.specs.declared.row.Mark.{Mark}
use Rattle.cable_definitions.specs.Site.{Site}
use Rattle.cable_definitions.specs.Arcs.{AreArcs}
use Rattle.cable_definitions.specs.Tree.{Item}
use Rattle.cable_definitions.specs.Core.{Core}
use Rattle.cable_rows.specs.declared.row.Row.{Row as MadeRow}
use Rattle.stored_makers.specs.Makers.{Maker, MakesSoundRows}
use Rattle.stored_makers.specs.Choosers.{ChoosesFreeArcs}
use Rattle.search_progress.specs.Progress.{core_of, IsSearching, HasFirstRoom}
use Rattle.search_progress.specs.declared.progress.Progress.{Progress}

-- a site with its arcs, a maker of rows, a chooser of arcs, how far the search is, and whether a step lacked memory
pub record State (F G : Type 0) : Type 0 where
  pub site : Site
  pub arcs : List Arc
  pub maker : Maker F
  pub chooser : G
  pub progress : Progress
  pub lacks_memory : Bool

-- What holds before each step: the maker makes sound rows for the site, the chooser names free arcs, the search stands for a state that some items led
-- to, and where no step lacked memory there is room for the rows of node 1 until it is worked.
pub record IsRunning {F G : Type 0} (f : Shared F (Bor Site × (Bor (List Arc) × (Bor (List ℕ) × Unit {0}))) (Result (Option MadeRow) AllocError))
    (g : Shared G (Bor (List Arc) × (Bor (List Mark) × (Bor (List ℕ) × Unit {0}))) (Option ℕ)) (state : State F G) : Type 0 where
  pub makes : MakesSoundRows f state.maker.make state.maker.site
  pub chooses : ChoosesFreeArcs g state.chooser
  pub maker_site : state.maker.site ≡ state.site
  pub are_arcs : AreArcs state.site state.arcs
  pub searching : IsSearching state.site state.arcs state.progress.budget state.progress
  pub first_room : state.lacks_memory ≡ false → HasFirstRoom state.progress

-- the site, its arcs, both closures and the most works stay
pub record KeepsParts {F G : Type 0} (old new : State F G) : Type 0 where
  pub site : new.site ≡ old.site
  pub arcs : new.arcs ≡ old.arcs
  pub make : new.maker.make ≡ old.maker.make
  pub maker_site : new.maker.site ≡ old.maker.site
  pub chooser : new.chooser ≡ old.chooser
  pub budget : new.progress.budget ≡ old.progress.budget

-- the state that a search stands for, with the items that led to it
abbrev pub core : {F G : Type 0} → List Item → State F G → Core
core items state = core_of items state.progress
