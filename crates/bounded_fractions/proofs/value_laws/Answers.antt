use Rattle.bounded_fractions.proofs.Values.{IsInRange-value_of, same_from_value}
use Rattle.bounded_fractions.proofs.value_laws.Goals as goal

pub returns : goal.returns
returns c = record { in_range = IsInRange-value_of; same = same_from_value }
