use Rattle.start_layout.specs.Moves.{AllMakeNoneBelow}
use Rattle.start_layout.specs.Floors.{IsFloor}
use Rattle.start_layout.proofs.Moving.{IsMoveOrNone}
use Rattle.start_layout.proofs.settling.best_move.Given as goal

abbrev pub invariant-loop-number : goal.invariant-loop-number
invariant-loop-number l = record {
  below : AllMakeNoneBelow l.site l.arcs l.cables l.number l.least;
  best : IsMoveOrNone l.site l.cables l.least l.best;
  floor_is : IsFloor l.site l.cables l.floor;
}
