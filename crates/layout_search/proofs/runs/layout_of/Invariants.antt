use Rattle.std.proofs.Common.{All}
use Rattle.layout_search.specs.Named.{IsNamed}
use Rattle.layout_search.proofs.runs.layout_of.Given as goal

abbrev pub invariant-loop-p : goal.invariant-loop-p
invariant-loop-p l = All (IsNamed l.site) l.layout
