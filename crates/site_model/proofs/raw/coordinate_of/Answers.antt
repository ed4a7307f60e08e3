use Rattle.std.proofs.Common.{pos, neg_ℤ, arith}
use Rattle.std.proofs.lemmas.Int.{ints}
use Rattle.site_model.proofs.Ranges.{IsWithin-below, IsWithin-above}
use Rattle.site_model.proofs.raw.coordinate_of.Goals as goal

pub returns-then-value : goal.returns-then-value
returns-then-value c = IsWithin-below c.args.value (neg_ℤ (pos 1000000)) (pos 1000000) (omega (arith, ints))

pub returns-then-value-gt-COORDINATE_MOST : goal.returns-then-value-gt-COORDINATE_MOST
returns-then-value-gt-COORDINATE_MOST c = IsWithin-above c.args.value (neg_ℤ (pos 1000000)) (pos 1000000) (omega (arith, ints))
