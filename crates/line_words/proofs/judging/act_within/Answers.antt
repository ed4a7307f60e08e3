use Rattle.std.proofs.Common.{refl, subst}
use Rattle.cable_definitions.specs.Refusal.{ASplit, ADeadRow, ADeadLoad, ADeadLoop, ADeadPower}
use Rattle.line_words.specs.Said.{IsAct}
use Rattle.line_words.proofs.Standing.{bad_act, bad_pair_first, bad_pair_second, if_none}
use Rattle.line_words.proofs.judging.act_within.Goals as goal

pub returns-in_err-count_in-in-Split-clause-none : goal.returns-in_err-count_in-in-Split-clause-none
returns-in_err-count_in-in-Split-clause-none c =
    if_none c.from_residual.result (λ raw h. bad_act ASplit c.in-Split.arc 65279 (λ z. refl) c.in_err-count_in-in-Split.ensures.none raw (subst (λ a. IsAct a raw) c.in-Split.is h))

pub returns-in_err-count_in-in-Row-clause-none : goal.returns-in_err-count_in-in-Row-clause-none
returns-in_err-count_in-in-Row-clause-none c =
    if_none c.from_residual-in_err-count_in-in-Row.result (λ raw h. bad_act ADeadRow c.in-Row.row 16383 (λ z. refl) c.in_err-count_in-in-Row.ensures.none raw (subst (λ a. IsAct a raw) c.in-Row.is h))

pub returns-in_err-count_in-in-Load-clause-none : goal.returns-in_err-count_in-in-Load-clause-none
returns-in_err-count_in-in-Load-clause-none c =
    if_none c.from_residual-in_err-count_in-in-Load.result (λ raw h. bad_act ADeadLoad c.in-Load.point 255 (λ z. refl) c.in_err-count_in-in-Load.ensures.none raw (subst (λ a. IsAct a raw) c.in-Load.is h))

pub returns-in_err-count_in-in-Loop-clause-none : goal.returns-in_err-count_in-in-Loop-clause-none
returns-in_err-count_in-in-Loop-clause-none c =
    if_none c.from_residual-in_err-count_in-in-Loop.result (λ raw h. bad_act ADeadLoop c.in-Loop.point 255 (λ z. refl) c.in_err-count_in-in-Loop.ensures.none raw (subst (λ a. IsAct a raw) c.in-Loop.is h))

pub returns-in_err-count_in-in-Power-clause-none : goal.returns-in_err-count_in-in-Power-clause-none
returns-in_err-count_in-in-Power-clause-none c =
    if_none c.from_residual-in_err-count_in-in-Power.result (λ raw h. bad_act ADeadPower c.in-Power.point 255 (λ z. refl) c.in_err-count_in-in-Power.ensures.none raw (subst (λ a. IsAct a raw) c.in-Power.is h))

pub returns-in_err-first-in-Pair-clause-none : goal.returns-in_err-first-in-Pair-clause-none
returns-in_err-first-in-Pair-clause-none c =
    if_none c.from_residual-in_err-first-in-Pair.result (λ raw h. bad_pair_first c.in-Pair.a c.in-Pair.b c.in_err-first-in-Pair.ensures.none raw (subst (λ a. IsAct a raw) c.in-Pair.is h))

pub returns-in_err-second-in-Pair-clause-none : goal.returns-in_err-second-in-Pair-clause-none
returns-in_err-second-in-Pair-clause-none c =
    if_none c.from_residual-in_err-second-in-Pair.result (λ raw h. bad_pair_second c.in-Pair.a c.in-Pair.b c.in_err-second-in-Pair.ensures.none raw (subst (λ a. IsAct a raw) c.in-Pair.is h))
