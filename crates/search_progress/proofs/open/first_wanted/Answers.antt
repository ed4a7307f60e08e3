use Rattle.std.proofs.Common.{length}
use Rattle.std.proofs.lemmas.Option.{slice_get_within}
use Rattle.search_progress.proofs.OpenFirst.{all-beaten, beaten-first, first-beaten}
use Rattle.search_progress.proofs.open.first_wanted.Goals as goal

pub returns-then-is_beaten-clause-none : goal.returns-then-is_beaten-clause-none
returns-then-is_beaten-clause-none c = λ place v free there.
    let nodes = c.args.tree.now.nodes in
    let lanes = c.args.lanes.now in
    let numbers = c.args.numbers.now in
    let first = c.in-Some.first in
    let least = c.in-Some.ensures in
    all-beaten nodes lanes numbers (length numbers) c.args.known first _ least least.bound_is
    (beaten-first nodes lanes numbers (length numbers) c.args.known first least (c.is_beaten.ensures.0 c.if-is_beaten.true)) place v free (slice_get_within numbers place v there) there

pub returns-in-None-clause-none : goal.returns-in-None-clause-none
returns-in-None-clause-none c = λ place v free there. absurd (c.in-None.ensures place v (slice_get_within c.args.numbers.now place v there) there free)

pub returns-else-is_beaten-clause-some : goal.returns-else-is_beaten-clause-some
returns-else-is_beaten-clause-some c =
    let least = c.in-Some.ensures in (
      least.is_free,
      λ beaten.
          let is = c.is_beaten.ensures.1 (first-beaten c.args.tree.now.nodes c.args.lanes.now c.args.numbers.now (length c.args.numbers.now) c.args.known c.in-Some.first least beaten) in
          let not = c.if-is_beaten.false in
          absurd (cc),
    )
