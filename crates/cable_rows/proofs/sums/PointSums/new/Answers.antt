use Rattle.cable_rows.proofs.Tables.{zeros}
use Rattle.cable_rows.proofs.sums.PointSums.new.Goals as goal

pub returns : goal.returns
returns c = λ rows. record {
  use_from_is = λ p l. zeros 256 p;
  use_to_is = λ p l. zeros 256 p;
  load_from_is = λ p l. zeros 256 p;
  load_to_is = λ p l. zeros 256 p;
}
