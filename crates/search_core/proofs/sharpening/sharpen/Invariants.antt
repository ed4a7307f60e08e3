use Rattle.std.proofs.Common.{◌≡◌, ◌≤ℤ◌}
use Rattle.search_progress.specs.Lists.{Lists}
use Rattle.search_core.specs.Calls.{AreCalls}
use Rattle.search_core.specs.Raised.{IsRaised}
use Rattle.search_core.proofs.sharpening.sharpen.Given as goal

abbrev pub invariant-loop-call : goal.invariant-loop-call
invariant-loop-call g l = record {
  lists : Lists l.site l.arcs l.initial.pool l.pool;
  same_make : l.maker.make ≡ l.initial.maker.make;
  same_site : l.maker.site ≡ l.initial.maker.site;
  raised : IsRaised l.site l.arcs l.pool l.decisions l.worth;
  risen : l.initial.worth.value ≤ℤ l.worth.value;
  calls : AreCalls l.initial.maker l.maker l.initial.pool l.pool l.call;
}
