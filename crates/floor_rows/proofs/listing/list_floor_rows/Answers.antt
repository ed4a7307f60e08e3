use Rattle.std.proofs.Common.{subst}
use Rattle.intree_floor.specs.Floors.{IsFloorOf}
use Rattle.floor_rows.proofs.Adding.{sets-small}
use Rattle.floor_rows.proofs.Reaching.{IsDone, sets-done, shut-done}
use Rattle.floor_rows.proofs.listing.list_floor_rows.Goals as goal
use Rattle.floor_rows.proofs.listing.list_floor_rows.Goals.{in-NoTree, in-Least}

pub list_sets-requires-clause-sets : goal.list_sets-requires-clause-sets
list_sets-requires-clause-sets c =
    let floor = subst (IsFloorOf c.args.site.now c.args.arcs.now) c.in-Least.is c.in_ok-found.ensures in
    rw c.as_slice-in-Least.ensures
    (sets-small c.args.site.now c.in-Least.sets c.in-Least.total floor.least.tree c.points-points.ensures.valid floor.weights floor.least.is_tree floor.few)

-- what is listed and answered
done : (c : goal.Joined-found-2) → IsDone c.args.site.now c.args.arcs.now c.args.pool.now c.match-found.pool c.match-found.weights
done c = elim c.match-found.branch [
  | in-NoTree w ↦
      let floor = subst (IsFloorOf c.args.site.now c.args.arcs.now) w.in-NoTree.is c.in_ok-found.ensures in
      rw (w.pool-is, w.weights-is, w.list_set.ensures.listed, w.as_slice.ensures, c.in_ok-weights.ensures)
      (shut-done c.args.site.now c.args.arcs.now c.args.pool.now w.in-NoTree.set c.points-points.ensures.valid c.requires.arcs floor)
  | in-Least w ↦
      let floor = subst (IsFloorOf c.args.site.now c.args.arcs.now) w.in-Least.is c.in_ok-found.ensures in
      rw (w.pool-is, w.weights-is, w.list_sets.ensures.rows, w.list_sets.ensures.weights, w.as_slice-in-Least.ensures)
      (sets-done c.args.site.now c.args.arcs.now c.args.pool.now w.in-Least.tree w.in-Least.sets w.in-Least.total c.points-points.ensures.valid c.requires.no_bends c.requires.arcs floor)
]

pub returns-clause-lists : goal.returns-clause-lists
returns-clause-lists c = (done c).lists

pub returns-clause-lawful : goal.returns-clause-lawful
returns-clause-lawful c = (done c).lawful

pub returns-clause-few : goal.returns-clause-few
returns-clause-few c = (done c).few

pub returns-clause-floor : goal.returns-clause-floor
returns-clause-floor c = (done c).floor
