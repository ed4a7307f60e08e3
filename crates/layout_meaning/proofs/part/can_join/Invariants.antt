use Rattle.std.proofs.Common.{◌<◌, ℕ, List}
use Rattle.cable_definitions.specs.declared.cable.Cable.{Cable}
use Rattle.layout_meaning.specs.Joining.{Joins}
use Rattle.layout_meaning.proofs.part.can_join.Given as goal

abbrev pub invariant-loop-to : goal.invariant-loop-to
invariant-loop-to l = (q : ℕ) → q < l.to → (typed : List Cable) → ¬ (Joins l.site l.part l.from q typed)
