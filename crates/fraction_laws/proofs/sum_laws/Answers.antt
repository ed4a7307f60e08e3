use Rattle.fraction_laws.proofs.Sums.{sum_ℚ-append, sum_ℚ-plus, sum_ℚ-times, sum_ℚ-least, sum_ℚ-exchange}
use Rattle.fraction_laws.proofs.sum_laws.Goals as goal

pub returns : goal.returns
returns c = record {
  appended = sum_ℚ-append;
  added = sum_ℚ-plus;
  multiplied = sum_ℚ-times;
  ordered = sum_ℚ-least;
  exchanged = sum_ℚ-exchange;
}
