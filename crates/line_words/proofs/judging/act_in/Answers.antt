use Rattle.std.proofs.Common.{refl}
use Rattle.cable_definitions.specs.Refusal.{ActLine}
use Rattle.line_words.proofs.judging.act_in.Goals as goal

pub returns-in-None-clause-bad : goal.returns-in-None-clause-bad
returns-in-None-clause-bad c =
    let h = c.in-Some.ensures.some in
    λ v weights. (ActLine h.0, record { words_are = h.1; members = tt; allowed = refl }, λ w. c.in-None.ensures.none h.0 h.2 w.0)
