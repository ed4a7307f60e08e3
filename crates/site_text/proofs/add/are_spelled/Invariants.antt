use Rattle.std.proofs.Common.{ℕ, ◌<◌, ℤ, Option, get_or}
use Rattle.std.specs.Prelude.{IsSome}
use Rattle.site_text.proofs.add.are_spelled.Given as goal

abbrev pub invariant-loop-number : goal.invariant-loop-number
invariant-loop-number l = (k : ℕ) → (d : Option ℤ) → k < l.number-index → IsSome (get_or l.numbers k d)
