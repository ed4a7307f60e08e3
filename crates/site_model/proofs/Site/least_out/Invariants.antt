use Rattle.site_model.specs.Best.{IsLeastBelow}
use Rattle.site_model.proofs.Site.least_out.Given as goal

abbrev pub invariant-loop-q : goal.invariant-loop-q
invariant-loop-q l = IsLeastBelow l.self l.p l.q l.least
