use Rattle.std.proofs.Common.{◌≡◌, map, drop}
use Rattle.serde_json.specs.View.{view}
use Rattle.run_definitions.specs.Json.{are_arrays}
use Rattle.site_json.proofs.members.are_arrays.Given as goal

abbrev pub invariant-loop-key : goal.invariant-loop-key
invariant-loop-key l = are_arrays (map (λ k. k.now) l.keys) (view l.object) ≡ are_arrays (map (λ k. k.now) (drop l.key-index l.keys)) (view l.object)
