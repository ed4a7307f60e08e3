use Rattle.std.proofs.Common.{◌≡◌, take}
use Rattle.cable_rows.specs.Sums.{may_count, weights_on}
use Rattle.cable_rows.proofs.sets.find_near.Given as goal

abbrev pub invariant-loop-own : goal.invariant-loop-own
invariant-loop-own l = l.near ≡ weights_on (λ row. may_count l.p l.first l.past row.kind row.members) l.pool (take l.own-index l.sets)
