use Rattle.search_progress.proofs.HeldLanes.{next-some, next-none}
use Rattle.search_progress.proofs.progress.Progress.next.Goals as goal

pub returns-clause-some : goal.returns-clause-some
returns-clause-some c = next-some c.first_wanted.result c.args.self.now c.as_slice-2.result.now c.as_slice-2.ensures.value c.first_wanted.ensures.some

pub returns-clause-none : goal.returns-clause-none
returns-clause-none c = next-none c.first_wanted.result c.args.self.now c.as_slice-2.result.now c.as_slice.result.now c.as_slice-2.ensures.value c.as_slice.ensures.value c.first_wanted.ensures.none
