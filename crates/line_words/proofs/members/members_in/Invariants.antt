use Rattle.std.specs.Prelude.{length}
use Rattle.line_words.specs.Words.{held}
use Rattle.line_words.proofs.Spelled.{AreSpelledSoFar}
use Rattle.line_words.proofs.members.members_in.Given as goal

abbrev pub invariant-loop-word : goal.invariant-loop-word
invariant-loop-word l = AreSpelledSoFar (held l.words) (held l.left) l.most l.fits l.members

abbrev pub decreases-loop-word : goal.decreases-loop-word
decreases-loop-word l = length (held l.left)
