use Rattle.site_model.specs.Best.{IsBestBelow}
use Rattle.site_model.proofs.Site.cheapest_on.Given as goal

abbrev pub invariant-loop-grade : goal.invariant-loop-grade
invariant-loop-grade l = IsBestBelow l.self l.arc.from l.arc.to l.load l.grade l.best
