use Rattle.fraction_laws.proofs.Order.{le_refl, le_antisymm, le_trans, le_or_lt, not-le_of_lt, add_le_add, add_lt_add_of_lt_of_le, mul_le_mul_left, mul_lt_mul_left, inverse-positive}
use Rattle.fraction_laws.proofs.order_laws.Goals as goal

pub returns : goal.returns
returns c = record {
  reflexive = le_refl;
  antisymmetric = le_antisymm;
  transitive = le_trans;
  total = le_or_lt;
  exclusive = not-le_of_lt;
  sums = add_le_add;
  strict_sums = add_lt_add_of_lt_of_le;
  factors = mul_le_mul_left;
  strict_factors = mul_lt_mul_left;
  inverses = inverse-positive;
}
