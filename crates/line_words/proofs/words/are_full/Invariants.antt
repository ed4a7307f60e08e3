use Rattle.std.specs.Prelude.{◌↔◌, length}
use Rattle.line_words.specs.Words.{AreFull, held}
use Rattle.line_words.proofs.words.are_full.Given as goal

abbrev pub invariant-loop-word : goal.invariant-loop-word
invariant-loop-word l = AreFull (held l.words) ↔ AreFull (held l.left)

abbrev pub decreases-loop-word : goal.decreases-loop-word
decreases-loop-word l = length (held l.left)
