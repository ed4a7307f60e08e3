use Rattle.std.proofs.Common.{arith}
use Rattle.floor_rows.proofs.Sets.{set-count, set-formed}
use Rattle.floor_rows.proofs.listing.list_set.Goals as goal

pub add-requires-clause-well_formed : goal.add-requires-clause-well_formed
add-requires-clause-well_formed c = set-formed c.args.site.now c.args.arcs.now c.args.members.now c.points-points.ensures.valid c.requires.set

pub unwrap-requires : goal.unwrap-requires
unwrap-requires c =
    let few = set-count c.args.site.now c.args.members.now c.requires.set in
    let most = c.points-points.ensures.valid.points_count in
    let members = c.requires.members in
    c.add.ensures.room.1 (c.requires.rows, omega (arith, few, most, members))
