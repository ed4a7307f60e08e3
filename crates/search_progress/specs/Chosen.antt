-- What is done with a node.
use Rattle.std.specs.Prelude.{◌≡◌, ℕ, ◌≤◌, ℤ, List, slice_get, Some, None, Option}
use Rattle.cable_definitions.specs.declared.cable.Cable.{Cable}
use Rattle.cable_definitions.specs.declared.cable.Arc.{Arc}
use Rattle.cable_definitions.specs.declared.row.Mark.{Mark}
use Rattle.cable_definitions.specs.declared.row.Mark.TheVariants.{Free}
use Rattle.cable_definitions.specs.declared.row.Act.{Act}
use Rattle.cable_definitions.specs.declared.row.Act.TheVariants.{Split, Stop, Dead, Full}
use Rattle.cable_definitions.specs.declared.row.Why.{Why}
use Rattle.cable_definitions.specs.Site.{Site}
use Rattle.cable_definitions.specs.Layout.{cost}
use Rattle.cable_definitions.specs.Row.{Row}
use Rattle.cable_definitions.specs.Choice.{IsValue}
use Rattle.cable_definitions.specs.Core.{HasLift}
use Rattle.cable_definitions.specs.Tree.{IsBound, IsDead, IsFull}

-- a cost is known, and the bound isn't below it
abbrev pub IsBeaten : Option ℕ → ℕ → Type 0
IsBeaten None bound = ⊥
IsBeaten (Some best) bound = best ≤ bound

-- the node with these marks and this bound needs a split: no reason is true of it, it isn't full, and its bound is below the known cost, if any
pub record NeedsSplit (s : Site) (arcs : List Arc) (rows : List Row) (marks : List Mark) (known : Option ℕ) (bound : ℕ) : Type 0 where
  pub alive : (why : Why) → ¬ (IsDead s arcs rows marks bound why)
  pub not_full : (cables : List Cable) → ¬ (IsFull s arcs marks cables)
  pub below : ¬ (IsBeaten known bound)

-- the act ends the work on a node with these marks and this new bound, where this cost is known, without a split; the node is left with the last bound
abbrev pub Closes : Site → List Arc → List Row → List Mark → Option ℕ → ℕ → Act → ℕ → Type 0
Closes s arcs rows marks known bound (Split a) after = ⊥
Closes s arcs rows marks known bound Stop after = IsBeaten known bound × (after ≡ bound)
Closes s arcs rows marks known bound (Dead why) after = IsDead s arcs rows marks bound why × (after ≡ bound)
Closes s arcs rows marks known bound Full after = (cables : List Cable) × IsFull s arcs marks cables × (after ≡ cost s cables)

-- the act may be done on such a node with these weights: it closes the node, or splits one that needs it on a free arc, where no listed row has a lift
abbrev pub IsActFor : Site → List Arc → List Row → List Mark → Option ℕ → List (ℕ × ℤ) → ℕ → Act → ℕ → Type 0
IsActFor s arcs rows marks known weights bound (Split a) after =
    (slice_get marks a ≡ Some Free) × (after ≡ bound) × NeedsSplit s arcs rows marks known bound × ((r : ℕ) → ¬ (HasLift s arcs rows marks weights r))
IsActFor s arcs rows marks known weights bound Stop after = Closes s arcs rows marks known bound Stop after
IsActFor s arcs rows marks known weights bound (Dead why) after = Closes s arcs rows marks known bound (Dead why) after
IsActFor s arcs rows marks known weights bound Full after = Closes s arcs rows marks known bound Full after

-- the bound that these weights give a node with these marks, of which the node above has the parent's bound
pub record IsNodeBound (s : Site) (arcs : List Arc) (rows : List Row) (marks : List Mark) (weights : List (ℕ × ℤ)) (parent bound : ℕ) : Type 0 where
  pub value : ℤ
  pub is_value : IsValue s arcs rows marks weights value
  pub is_bound : IsBound parent value bound
