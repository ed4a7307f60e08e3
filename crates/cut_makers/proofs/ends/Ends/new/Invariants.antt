use Rattle.cut_makers.proofs.Endings.{AreSubstationsBelow}
use Rattle.cut_makers.proofs.ends.Ends.new.Given as goal

abbrev pub invariant-loop-p : goal.invariant-loop-p
invariant-loop-p l = AreSubstationsBelow l.site l.ends l.p
