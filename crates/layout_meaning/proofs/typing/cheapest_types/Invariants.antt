use Rattle.std.proofs.Common.{◌≡◌, length, take}
use Rattle.layout_meaning.proofs.Cheapest.{AreTyped}
use Rattle.layout_meaning.proofs.typing.cheapest_types.Given as goal

abbrev pub invariant-loop-cable : goal.invariant-loop-cable
invariant-loop-cable l = record {
  count : length l.typed ≡ l.cable-index;
  typed : AreTyped l.flows.site l.flows.cables (take l.cable-index l.flows.cables) l.typed;
}
