use Rattle.std.proofs.Common.{subst}
use Rattle.start_layout.specs.Straight.{IsBestTo, IsBestWayBelow}
use Rattle.start_layout.proofs.Straightening.{best_first, best_kept}
use Rattle.start_layout.proofs.straight.cheaper_cable.Goals as goal

pub returns-in-None : goal.returns-in-None
returns-in-None c =
    best_first c.args.site.now c.args.from c.args.to c.args.other (subst (IsBestWayBelow c.args.site.now c.args.from c.args.to) c.in-None.is c.requires.best) c.requires.other

pub returns-in-None-other : goal.returns-in-None-other
returns-in-None-other c =
    best_kept c.args.site.now c.args.from c.args.to c.in-Some.cable c.in-Some.cost
    (subst (IsBestWayBelow c.args.site.now c.args.from c.args.to) c.in-Some.is c.requires.best)
    (subst (IsBestTo c.args.site.now c.args.from c.args.to) c.in-None-other.is c.requires.other)
