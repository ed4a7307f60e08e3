use Rattle.bounded_fractions.proofs.Steps.{less_step, equal_step, greater_step}
use Rattle.bounded_fractions.proofs.fraction.Fraction.compare.Goals as goal

pub returns-clause-less : goal.returns-clause-less
returns-clause-less c = less_step c.args.self c.args.other _ _ _ _ _ c.den_size.ensures c.den_size-2.ensures c.times.ensures c.times-2.ensures c.cmp.ensures

pub returns-clause-equal : goal.returns-clause-equal
returns-clause-equal c = equal_step c.args.self c.args.other _ _ _ _ _ c.den_size.ensures c.den_size-2.ensures c.times.ensures c.times-2.ensures c.cmp.ensures

pub returns-clause-greater : goal.returns-clause-greater
returns-clause-greater c = greater_step c.args.self c.args.other _ _ _ _ _ c.den_size.ensures c.den_size-2.ensures c.times.ensures c.times-2.ensures c.cmp.ensures
