-- The least that a choice leaves of its cost.
use Rattle.std.specs.Prelude.{◌≡◌, ℕ, ◌≤◌, ◌<◌, ◌*◌, ◌^◌, ℤ, pos, ◌-ℤ◌, ◌*ℤ◌, ◌≤ℤ◌, Option, Some, None}
use Rattle.std.specs.Int.{int_min}
use Rattle.cable_definitions.specs.declared.cable.Arc.{Arc}
use Rattle.cable_definitions.specs.declared.row.Mark.TheVariants.{Used}
use Rattle.cable_definitions.specs.Site.{Site}
use Rattle.cable_definitions.specs.Choice.{Choice, Carries, IsChoice, cost_of_choice, use_of, load_of}

-- what a choice of the arc leaves of its cost, over 2 ^ 20, where a use of the arc counts as on_use and each unit of its load as on_load
abbrev pub left_over : Site → Arc → ℤ → ℤ → Choice → ℤ
left_over s a on_use on_load choice = (pos (2 ^ 20 * cost_of_choice s a choice) -ℤ on_use *ℤ pos (use_of choice)) -ℤ on_load *ℤ pos (load_of choice)

-- a load from the least one to the capacity that counts at least as much as each other one, where each unit counts as on_load
pub record IsBestLoad (least capacity : ℕ) (on_load : ℤ) (load : ℕ) : Type 0 where
  pub at_least : least ≤ load
  pub at_most : load ≤ capacity
  pub none_above : (other : ℕ) → least ≤ other → other ≤ capacity → (on_load *ℤ pos other) ≤ℤ (on_load *ℤ pos load)

-- some use of the arc by the type leaves this, and none leaves less
pub record IsLeastOfType (s : Site) (arc : Arc) (on_use on_load : ℤ) (grade : ℕ) (least : ℤ) : Type 0 where
  pub load : ℕ
  pub is_choice : IsChoice s arc Used (Carries grade load)
  pub reached : least ≡ left_over s arc on_use on_load (Carries grade load)
  pub none_below : (other : ℕ) → IsChoice s arc Used (Carries grade other) → least ≤ℤ left_over s arc on_use on_load (Carries grade other)

-- some use of the arc by a type below the bound leaves this, and none leaves less
pub record IsLeastOfTypes (s : Site) (arc : Arc) (on_use on_load : ℤ) (bound : ℕ) (least : ℤ) : Type 0 where
  pub grade : ℕ
  pub load : ℕ
  pub is_choice : IsChoice s arc Used (Carries grade load)
  pub reached : least ≡ left_over s arc on_use on_load (Carries grade load)
  pub none_below : (other high : ℕ) → other < bound → IsChoice s arc Used (Carries other high) → least ≤ℤ left_over s arc on_use on_load (Carries other high)

-- that least, or none where no type below the bound can be used
abbrev pub IsLeastOfTypesBelow : Site → Arc → ℤ → ℤ → ℕ → Option ℤ → Type 0
IsLeastOfTypesBelow s arc on_use on_load bound None = (grade load : ℕ) → grade < bound → ¬ (IsChoice s arc Used (Carries grade load))
IsLeastOfTypesBelow s arc on_use on_load bound (Some least) = IsLeastOfTypes s arc on_use on_load bound least

-- the lesser of two numbers, of which the first may be missing
abbrev pub lesser_left : Option ℤ → ℤ → ℤ
lesser_left None second = second
lesser_left (Some first) second = int_min first second
