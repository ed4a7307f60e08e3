use Rattle.std.proofs.Common.{[], ◌∷◌, pos, Some, refl}
use Rattle.std.specs.Prelude.{neg_ℤ}
use Rattle.cable_definitions.specs.Items.{within}
use Rattle.cable_definitions.specs.Refusal.{WeightLine, row_field}
use Rattle.line_words.specs.Words.{held}
use Rattle.line_words.proofs.Standing.{bad_one, bad_second, no_weight_line}
use Rattle.line_words.proofs.judging.weight_in.Goals as goal

pub returns-in_default-clause-bad : goal.returns-in_default-clause-bad
returns-in_default-clause-bad c = λ v k weights. no_weight_line (held c.args.words) v k weights c.in_default.ensures.none

pub returns-in_default-count_in-clause-bad : goal.returns-in_default-count_in-clause-bad
returns-in_default-count_in-clause-bad c =
    let h = c.in-Some.ensures.some in
    λ v k weights. (
      WeightLine h.0 h.1,
      record { words_are = h.2; members = tt; allowed = refl },
      λ w. bad_one (row_field h.0) (within (Some h.1) (neg_ℤ (pos 75557863725914323419136)) (pos 75557863725914323419136) ∷ []) (c.in_default-count_in.ensures.none h.0 h.3) w.0,
    )

pub returns-in-None-clause-bad : goal.returns-in-None-clause-bad
returns-in-None-clause-bad c =
    let h = c.in-Some.ensures.some in
    λ v k weights. (
      WeightLine h.0 h.1,
      record { words_are = h.2; members = tt; allowed = refl },
      λ w. bad_second (row_field h.0) (within (Some h.1) (neg_ℤ (pos 75557863725914323419136)) (pos 75557863725914323419136)) [] (c.in-None.ensures.none h.1 h.4) w.0,
    )
