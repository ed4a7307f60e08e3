use Rattle.std.proofs.Common.{◌≡◌, ◌<◌, ◌≤◌, ◌*◌, ℕ, length, take}
use Rattle.std.specs.Prelude.{slice_index}
use Rattle.cable_definitions.specs.Walk.{load}
use Rattle.layout_meaning.proofs.flows.all_loads.Given as goal

abbrev pub invariant-loop-t : goal.invariant-loop-t
invariant-loop-t l = record {
  room : length l.loads ≡ 256;
  at : (p : ℕ) → p < 256 → slice_index l.loads p ≡ load (record l.site { points = take l.t l.site.points }) l.cables p;
  bound : (p : ℕ) → p < 256 → slice_index l.loads p ≤ 1000 * l.t;
}
