use Rattle.std.proofs.Common.{◌≡◌, ◌≤◌, ◌*◌, take}
use Rattle.std.specs.Prelude.{sum_by, cond, ◌==◌}
use Rattle.cable_definitions.specs.Walk.{load}
use Rattle.layout_meaning.proofs.flows.Flows.load_into.Given as goal

abbrev pub invariant-loop-cable : goal.invariant-loop-cable
invariant-loop-cable l = record {
  bound : l.total ≤ 256000 * l.cable-index;
  total : l.total ≡ sum_by (λ c. cond (c.to == l.p) (load l.self.site l.self.cables c.from) 0) (take l.cable-index l.cables);
}
