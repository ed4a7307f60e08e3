use Rattle.std.proofs.Common.{sym, List}
use Rattle.cable_definitions.specs.declared.cable.Arc.{Arc}
use Rattle.candidate_cables.proofs.Numbering.{not_here, none_more, none_joins}
use Rattle.candidate_cables.proofs.Arcs.number.Goals as goal

pub loop-number-preserved : goal.loop-number-preserved
loop-number-preserved c =
    let arcs = c.args.self.now in
    none_more arcs c.args.from c.args.to c.out_of-first.result.0 c.loop-number.number c.loop-number.invariant
    (not_here arcs c.self.inside.arcs.items c.args.from c.args.to c.loop-number.number c.index.result.now (sym {A = List Arc} c.self.view_is) c.index.ensures c.if-index-to.false)

pub returns-clause-none : goal.returns-clause-none
returns-clause-none c =
    let bounds = c.out_of-first in
    none_joins c.args.self.now c.args.from c.args.to bounds.result.0 bounds.result.1 c.loop-number.number bounds.ensures.first bounds.ensures.past c.loop-number-test.false c.loop-number.invariant
