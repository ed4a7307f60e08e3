use Rattle.fraction_laws.specs.Divisor.{IsGcd-greatest}
use Rattle.fraction_laws.proofs.Divisors.{divides_other}
use Rattle.fraction_laws.proofs.euclid.Goals as goal

pub returns : goal.returns
returns c = record { greatest = IsGcd-greatest; other_factor = divides_other }
