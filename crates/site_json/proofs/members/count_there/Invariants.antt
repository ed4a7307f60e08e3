use Rattle.std.proofs.Common.{◌≡◌, ◌+◌, ◌≤◌, map, drop, length}
use Rattle.serde_json.specs.View.{view}
use Rattle.run_definitions.specs.Json.{keys_there}
use Rattle.site_json.proofs.members.count_there.Given as goal

abbrev pub invariant-loop-key : goal.invariant-loop-key
invariant-loop-key l = record {
  counted : l.count + length (keys_there (map (λ k. k.now) (drop l.key-index l.keys)) (view l.object)) ≡ length (keys_there (map (λ k. k.now) l.keys) (view l.object));
  bound : l.count ≤ l.key-index;
}
