use Rattle.fraction_laws.proofs.Field.{add_comm, add_assoc, add-zero, add-neg, mul_comm, mul_assoc, mul-one, mul-inverse, mul-add, one_is_not_zero}
use Rattle.fraction_laws.proofs.field_laws.Goals as goal

pub returns : goal.returns
returns c = record {
  sum_commutes = add_comm;
  sum_regroups = add_assoc;
  zero_added = add-zero;
  opposite = add-neg;
  product_commutes = mul_comm;
  product_regroups = mul_assoc;
  one_multiplied = mul-one;
  inverse_multiplied = mul-inverse;
  sums_multiplied = mul-add;
  one_is_not_zero = one_is_not_zero;
}
