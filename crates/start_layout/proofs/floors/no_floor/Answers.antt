use Rattle.std.proofs.Common.{arith}
use Rattle.start_layout.proofs.Gaining.{zero_at, leasts_zero}
use Rattle.start_layout.proofs.floors.no_floor.Goals as goal

pub returns : goal.returns
returns c = λ s cables. record {
  others_above = λ q typed t l. omega arith;
  leasts_below = λ q. leasts_zero s cables _ q;
  loads_below = λ r h. omega (arith, zero_at r);
  load_below = omega arith;
}
