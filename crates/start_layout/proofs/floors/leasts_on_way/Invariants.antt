use Rattle.std.proofs.Common.{◌≡◌, ◌<◌, length}
use Rattle.start_layout.specs.Floors.{AreLeasts}
use Rattle.start_layout.proofs.Gaining.{IsOnWay}
use Rattle.start_layout.proofs.floors.leasts_on_way.Given as goal

abbrev pub invariant-loop-step : goal.invariant-loop-step
invariant-loop-step l = record {
  within : l.at < length l.site.points;
  room : length l.leasts ≡ 256;
  way : IsOnWay l.site l.cables l.arc.from l.arc.to l.at;
  below : AreLeasts l.site l.cables l.arc.from l.arc.to l.leasts;
}
