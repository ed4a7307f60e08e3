use Rattle.std.proofs.Common.{map, ◌≡◌, true}
use Rattle.std.proofs.Math.ListN.{length-map}
use Rattle.serde_json.specs.View.{view}
use Rattle.run_definitions.specs.Json.{has_all}
use Rattle.site_json.proofs.Levels.{has_exactly-counted}
use Rattle.site_json.proofs.members.has_exactly.Goals as goal

pub returns : goal.returns
returns c =
    let all : has_all (map (λ k. k.now) c.args.keys.now) (view c.args.object.now) ≡ true = cc in
    has_exactly-counted (map (λ k. k.now) c.args.keys.now) (view c.args.object.now) c.in-Some.members.now.entries _ _ c.in-Some.ensures all c.len.ensures.len (simp length-map)
