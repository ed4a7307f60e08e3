use Rattle.arc_choices.specs.Least.{IsLeastOfTypesBelow}
use Rattle.arc_choices.proofs.choices.least_used.Given as goal

abbrev pub invariant-loop-grade : goal.invariant-loop-grade
invariant-loop-grade l = IsLeastOfTypesBelow l.site l.arc l.on_use l.on_load l.grade l.least
