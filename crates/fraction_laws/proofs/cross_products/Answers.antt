use Rattle.fraction_laws.proofs.Cross.{same_from_cross, cross_from_same, IsQuotient-ratio}
use Rattle.fraction_laws.proofs.Quotient.{quotient_from_cross, cross_from_quotient}
use Rattle.fraction_laws.proofs.cross_products.Goals as goal

pub returns : goal.returns
returns c = record {
  reduced = λ n d some. (IsQuotient-ratio n d some).cross;
  equal = λ q r. (same_from_cross q r, cross_from_same q r);
  quotient = λ n d q other. (quotient_from_cross q n d other, cross_from_quotient q n d other);
}
