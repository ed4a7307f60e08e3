use Rattle.std.proofs.Common.{pos, arith}
use Rattle.std.proofs.lemmas.Int.{ints}
use Rattle.site_model.proofs.Ranges.{IsWithin-below, IsWithin-above}
use Rattle.site_model.proofs.raw.number_within.Goals as goal

pub returns-then-value-from : goal.returns-then-value-from
returns-then-value-from c = IsWithin-below c.args.value (pos c.args.least) (pos c.args.most) (omega (arith, ints, c.from.ensures))

pub returns-then-value-from-2 : goal.returns-then-value-from-2
returns-then-value-from-2 c = IsWithin-above c.args.value (pos c.args.least) (pos c.args.most) (omega (arith, ints, c.from-2.ensures))
