use Rattle.std.proofs.Common.{[], pos, Some, refl}
use Rattle.cable_definitions.specs.Items.{within}
use Rattle.cable_definitions.specs.Refusal.{LayoutLine}
use Rattle.line_words.proofs.Standing.{bad_one}
use Rattle.line_words.proofs.judging.layout_in.Goals as goal

pub returns-in-None-clause-bad : goal.returns-in-None-clause-bad
returns-in-None-clause-bad c =
    let h = c.in-Some.ensures.some in
    (LayoutLine h.0, record { words_are = h.1; members = tt; allowed = refl }, λ w. bad_one (within (Some h.0) (pos 0) (pos 256)) [] (c.in-None.ensures.none h.0 h.2) w.0)
