use Rattle.std.proofs.Common.{◌≡◌, ℕ, length}
use Rattle.start_layout.specs.Floors.{AreLeasts}
use Rattle.start_layout.proofs.floors.least_costs.Given as goal

abbrev pub invariant-loop-p : goal.invariant-loop-p
invariant-loop-p l = record {
  room : length l.leasts ≡ 256;
  below : (q : ℕ) → AreLeasts l.site l.cables l.start q l.leasts;
}
