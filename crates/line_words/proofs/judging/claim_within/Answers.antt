use Rattle.std.proofs.Common.{subst}
use Rattle.line_words.specs.Said.{IsClaim}
use Rattle.line_words.proofs.Standing.{if_none}
use Rattle.line_words.proofs.Claims.{bad_optimal, bad_gap_first, bad_gap_second, bad_open}
use Rattle.line_words.proofs.judging.claim_within.Goals as goal

pub returns-in_err-sum_in-in-Optimal-clause-none : goal.returns-in_err-sum_in-in-Optimal-clause-none
returns-in_err-sum_in-in-Optimal-clause-none c = if_none c.from_residual.result (λ raw h. bad_optimal c.in-Optimal.cost c.in_err-sum_in-in-Optimal.ensures.none raw (subst (λ a. IsClaim a raw) c.in-Optimal.is h))

pub returns-in_err-cost-in-Gap-clause-none : goal.returns-in_err-cost-in-Gap-clause-none
returns-in_err-cost-in-Gap-clause-none c =
    if_none c.from_residual-in_err-cost-in-Gap.result (λ raw h. bad_gap_first c.in-Gap.cost c.in-Gap.bound c.in_err-cost-in-Gap.ensures.none raw (subst (λ a. IsClaim a raw) c.in-Gap.is h))

pub returns-in_err-bound-in-Gap-clause-none : goal.returns-in_err-bound-in-Gap-clause-none
returns-in_err-bound-in-Gap-clause-none c =
    if_none c.from_residual-in_err-bound-in-Gap.result (λ raw h. bad_gap_second c.in-Gap.cost c.in-Gap.bound c.in_err-bound-in-Gap.ensures.none raw (subst (λ a. IsClaim a raw) c.in-Gap.is h))

pub returns-in_err-bound-in-Open-clause-none : goal.returns-in_err-bound-in-Open-clause-none
returns-in_err-bound-in-Open-clause-none c =
    if_none c.from_residual-in_err-bound-in-Open.result (λ raw h. bad_open c.in-Open.bound c.in-Open.stuck.now c.in_err-bound-in-Open.ensures.none raw (subst (λ a. IsClaim a raw) c.in-Open.is h))
