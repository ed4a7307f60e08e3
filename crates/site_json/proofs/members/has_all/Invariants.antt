use Rattle.std.proofs.Common.{◌≡◌, map, drop}
use Rattle.serde_json.specs.View.{view}
use Rattle.run_definitions.specs.Json.{has_all}
use Rattle.site_json.proofs.members.has_all.Given as goal

abbrev pub invariant-loop-key : goal.invariant-loop-key
invariant-loop-key l = has_all (map (λ k. k.now) l.keys) (view l.object) ≡ has_all (map (λ k. k.now) (drop l.key-index l.keys)) (view l.object)
