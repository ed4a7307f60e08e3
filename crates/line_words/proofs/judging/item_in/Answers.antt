use Rattle.std.proofs.Common.{[], ◌∷◌, pos, Some, refl}
use Rattle.cable_definitions.specs.Items.{within}
use Rattle.cable_definitions.specs.Refusal.{WorkLine, LayoutLine}
use Rattle.line_words.specs.Words.{held}
use Rattle.line_words.proofs.Standing.{bad_one, bad_second, no_item, value_none}
use Rattle.line_words.proofs.judging.item_in.Goals as goal

pub returns-in_default-count_in-clause-bad : goal.returns-in_default-count_in-clause-bad
returns-in_default-count_in-clause-bad c =
    let h = c.in-Some.ensures.some in
    (WorkLine h.0 h.1, record { words_are = h.2; members = tt; allowed = refl }, λ w. bad_one (within (Some h.0) (pos 1) (pos 100001)) (within (Some h.1) (pos 0) (pos 1024) ∷ []) (c.in_default-count_in.ensures.none h.0 h.3) w.0)

pub returns-in-None-clause-bad : goal.returns-in-None-clause-bad
returns-in-None-clause-bad c =
    let h = c.in-Some.ensures.some in
    (WorkLine h.0 h.1, record { words_are = h.2; members = tt; allowed = refl }, λ w. bad_second (within (Some h.0) (pos 1) (pos 100001)) (within (Some h.1) (pos 0) (pos 1024)) [] (c.in-None.ensures.none h.1 h.4) w.0)

pub returns-in-None-count_in-clause-bad : goal.returns-in-None-count_in-clause-bad
returns-in-None-count_in-clause-bad c =
    let h = c.in-Some-number_after.ensures.some in
    (LayoutLine h.0, record { words_are = h.1; members = tt; allowed = refl }, λ w. bad_one (within (Some h.0) (pos 0) (pos 256)) [] (c.in-None-count_in.ensures.none h.0 h.2) w.0)

pub returns-clause-bad : goal.returns-clause-bad
returns-clause-bad c = no_item (held c.args.words) (value_none c.in-Ok-None.field-0 c.in-Ok-None.field-0-is c.in-Ok-None.ensures.none) c.in_default.ensures.none c.in_default-number_after.ensures.none
