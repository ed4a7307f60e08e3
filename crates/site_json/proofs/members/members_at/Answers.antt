use Rattle.std.proofs.Common.{map, ap, ◌∙◌, arith}
use Rattle.serde_json.specs.View.{view}
use Rattle.site_json.proofs.Levels.{members_at-found}
use Rattle.site_json.proofs.members.members_at.Goals as goal

pub returns-in-Some-as_array-clause-members : goal.returns-in-Some-as_array-clause-members
returns-in-Some-as_array-clause-members c =
    ap (map view) c.as_slice.ensures.value
    ∙ members_at-found c.args.key.now (view c.args.object.now) (view c.in-Some.member.now) c.in-Some-as_array.members.now.items c.in-Some.ensures c.in-Some-as_array.ensures

pub returns-in-Some-as_array-clause-room : goal.returns-in-Some-as_array-clause-room
returns-in-Some-as_array-clause-room c = omega (arith, c.in-Some-as_array.members.now.ok.0, c.in-Some-as_array.members.now.ok.1, c.in-Some-as_array.members.now.small)
