use Rattle.std.proofs.Common.{◌%◌, subst}
use Rattle.std.specs.Int.{IsGcd}
use Rattle.std.proofs.lemmas.Nat.Gcd.{IsGcd-from_mod}
use Rattle.bounded_fractions.proofs.divisor.shared_divisor.Goals as goal

pub returns : goal.returns
returns c =
    IsGcd-from_mod c.args.wide c.args.narrow c.greatest_divisor.result
    (subst (λ n. IsGcd c.args.narrow (c.args.wide % n) c.greatest_divisor.result) c.from.ensures c.greatest_divisor.ensures)
