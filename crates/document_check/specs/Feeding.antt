-- What feeding a checker does to how far the check of a document has come.
use Rattle.std.specs.Prelude.{◌≡◌, ℕ, ◌+◌, ◌-◌, ◌≤◌, ◌<◌, List, [], length, Option, None, Some}
use Rattle.cable_definitions.specs.Refusal.{AtItem, AtCables}
use Rattle.proof_text.specs.declared.fault.ItemFault.{ItemFault}
use Rattle.proof_text.specs.declared.fault.ItemFault.TheVariants.{Refused as RefusedItem, Read as ReadItem}
use Rattle.proof_checker.specs.State.{CheckerState}
use Rattle.document_check.specs.declared.document.DocumentFault.{DocumentFault}
use Rattle.document_check.specs.declared.document.DocumentFault.TheVariants.{Refused, Read}
use Rattle.document_check.specs.Progress.{ReadsOn, state, items_text, text_to_layout}

-- the fault of a document whose lines aren't read further
abbrev pub fault_from : ItemFault → DocumentFault
fault_from (RefusedItem refusal) = Refused refusal
fault_from ReadItem = Read

-- how many rows and works may follow at most
abbrev pub items_left : CheckerState → ℕ
items_left c = (16384 - length c.state.rows) + (c.budget - c.state.works)

-- the checker keeps what further items leave behind, and nothing else of it changes
pub record FeedsItems (old new : CheckerState) (before after : Option (List ℕ)) (lines_old lines_new : ℕ) : Type 0 where
  pub state_is : new ≡ record old { state = new.state }
  pub reads : ReadsOn old.site old.arcs before after lines_old lines_new (state AtItem old.budget old.state []) (state AtItem old.budget new.state []) (items_text old.budget) (items_text old.budget)

-- the same with the line `layout` behind the items
pub record FeedsToLayout (old new : CheckerState) (before after : Option (List ℕ)) (lines_old lines_new count : ℕ) : Type 0 where
  pub state_is : new ≡ record old { state = new.state }
  pub most : count ≤ 256
  pub reads : ReadsOn old.site old.arcs before after lines_old lines_new (state AtItem old.budget old.state []) (state (AtCables count) old.budget new.state []) (items_text old.budget) (text_to_layout old.budget count)

-- an item is fed, after which fewer may follow; or the line `layout` with this number is read
abbrev pub FeedsNext : CheckerState → CheckerState → Option (List ℕ) → Option (List ℕ) → ℕ → ℕ → Option ℕ → Type 0
FeedsNext old new before after lines_old lines_new None = FeedsItems old new before after lines_old lines_new × (items_left new < items_left old)
FeedsNext old new before after lines_old lines_new (Some count) = FeedsToLayout old new before after lines_old lines_new count
