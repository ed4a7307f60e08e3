use Rattle.drill_site.specs.Growing.{TakesPoints, AreFirst}
use Rattle.drill_site.proofs.drill.add_turbines.Given as goal

abbrev pub invariant-loop-number : goal.invariant-loop-number
invariant-loop-number l = record { takes : TakesPoints l.builder; first : AreFirst l.initial.state l.number l.state l.builder.site.points }
