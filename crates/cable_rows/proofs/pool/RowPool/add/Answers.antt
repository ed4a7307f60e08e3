use Rattle.std.proofs.Common.{◌++◌, ◌∷◌, [], List, refl, arith, ap, ◌∙◌}
use Rattle.cable_definitions.specs.Row.{Row}
use Rattle.proof_laws.proofs.RowsHold.{rows-hold}
use Rattle.cable_rows.proofs.Wellformed.{points_below, few_members, members_ascend, one_member}
use Rattle.cable_rows.proofs.Pools.{pool_after, rows_after, row_with}
use Rattle.cable_rows.proofs.pool.RowPool.add.Goals as goal

pub table_of-requires : goal.table_of-requires
table_of-requires c = points_below c.args.site.now c.args.arcs.now c.args.kind c.args.members.now c.points-points.ensures.valid c.requires.well_formed

pub invariant_of-self-2 : goal.invariant_of-self-2
invariant_of-self-2 c =
    let members = c.args.members.now in
    pool_after c.self.inside.rows.items c.push_reserved.new.self.items c.self.inside.members.items c.extend_from_slice.new.self.items _ _ _ _ members c.args.kind _
    c.push_reserved.ensures.items c.in-Ok.ensures.items c.self.invariant (record {
      kind_is = refl;
      start = omega arith;
      end = omega arith;
      few = few_members c.args.site.now c.args.arcs.now c.args.kind members c.requires.well_formed;
      size = c.table_of.ensures.size;
      table = c.table_of.ensures.table;
      ascending = members_ascend c.args.site.now c.args.arcs.now c.args.kind members c.requires.well_formed;
      one = one_member c.args.site.now c.args.arcs.now c.args.kind members c.requires.well_formed;
    }) (omega arith) (omega arith) (omega arith) (omega arith)

pub returns-clause-listed : goal.returns-clause-listed
returns-clause-listed c =
    let members = c.args.members.now in
    rows_after c.self.inside.rows.items c.push_reserved.new.self.items c.self.inside.members.items c.extend_from_slice.new.self.items members c.args.kind _
    c.push_reserved.ensures.items c.in-Ok.ensures.items c.self.invariant.stored (record {
      kind_is = refl;
      start = omega arith;
      end = omega arith;
      few = few_members c.args.site.now c.args.arcs.now c.args.kind members c.requires.well_formed;
      size = c.table_of.ensures.size;
      table = c.table_of.ensures.table;
      ascending = members_ascend c.args.site.now c.args.arcs.now c.args.kind members c.requires.well_formed;
      one = one_member c.args.site.now c.args.arcs.now c.args.kind members c.requires.well_formed;
    })
    ∙ ap (λ (rows : List Row). rows ++ row_with c.args.kind members ∷ []) c.self.view_is

pub returns-clause-holds : goal.returns-clause-holds
returns-clause-holds c cables legal = rows-hold c.args.site.now c.args.arcs.now cables (row_with c.args.kind c.args.members.now) c.points-points.ensures.valid c.requires.arcs c.requires.well_formed legal
