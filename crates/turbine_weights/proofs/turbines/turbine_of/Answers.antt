use Rattle.std.proofs.Common.{ℕ, length, ap, arith}
use Rattle.turbine_weights.proofs.Weighing.{listed_turbine}
use Rattle.turbine_weights.proofs.turbines.turbine_of.Goals as goal

pub bounds-members-0 : goal.bounds-members-0
bounds-members-0 c =
    let r = listed_turbine c.args.site.now c.args.arcs.now c.args.pool.now c.args.row c.kind.result c.members.result.now c.requires.well_formed c.requires.row c.kind.ensures c.in-Out.is c.members.ensures.members in
    omega (arith, ap (length {A = ℕ}) r.members_are)

pub returns-clause-turbine : goal.returns-clause-turbine
returns-clause-turbine c =
    (listed_turbine c.args.site.now c.args.arcs.now c.args.pool.now c.args.row c.kind.result c.members.result.now c.requires.well_formed c.requires.row c.kind.ensures c.in-Out.is c.members.ensures.members).listed

pub returns-clause-within : goal.returns-clause-within
returns-clause-within c =
    let r = listed_turbine c.args.site.now c.args.arcs.now c.args.pool.now c.args.row c.kind.result c.members.result.now c.requires.well_formed c.requires.row c.kind.ensures c.in-Out.is c.members.ensures.members in
    omega (arith, r.within, c.points-points.ensures.valid.points_count)
