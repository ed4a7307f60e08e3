use Rattle.std.proofs.Common.{◌≡◌}
use Rattle.search_core.specs.State.{IsRunning}
use Rattle.event_tests.proofs.events.go_on.Given as goal

abbrev pub invariant-loop-turn : goal.invariant-loop-turn
invariant-loop-turn g l = record { running : IsRunning g.F.Fn g.G.Fn l.search; site : l.search.site ≡ l.site }
