use Rattle.std.proofs.Common.{◌≤◌, None, refl}
use Rattle.start_layout.specs.Starting.{IsLegalAtMost}
use Rattle.start_layout.proofs.Comparing.{at_straight}
use Rattle.start_layout.proofs.starting.greedy.Goals as goal

pub returns-in_ok-grow-in-None-clause-straight : goal.returns-in_ok-grow-in-None-clause-straight
returns-in_ok-grow-in-None-clause-straight c straight h legal =
    absurd (at_straight c.args.site.now c.in_ok-straight.straight straight (λ n. IsLegalAtMost n None) c.in_ok-straight.ensures.some c.in_ok-straight.ensures.none c.in-None.ensures.within h legal)

pub returns-in-Some-clause-straight : goal.returns-in-Some-clause-straight
returns-in-Some-clause-straight c straight h legal = (
  c.in-Some.incumbent.layout,
  c.in-Some.incumbent.cost,
  refl,
  at_straight c.args.site.now c.in_ok-straight.straight straight (λ n. c.in-Some.incumbent.cost ≤ n) c.in_ok-straight.ensures.some c.in_ok-straight.ensures.none c.in-Some.ensures.within h legal,
)
