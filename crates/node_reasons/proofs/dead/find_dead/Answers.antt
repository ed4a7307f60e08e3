use Rattle.std.proofs.Common.{nat_abs, ℤ, FitsSigned, arith, subst}
use Rattle.std.specs.Prelude.{IfNone}
use Rattle.std.specs.Int.{w128}
use Rattle.std.proofs.lemmas.Int.{ints, to_z-of_z}
use Rattle.cable_definitions.specs.declared.row.Why.{Why}
use Rattle.cable_definitions.specs.Tree.{IsDead}
use Rattle.node_reasons.specs.Node.{NodeParts}
use Rattle.node_reasons.proofs.dead.find_dead.Goals as goal

pub returns-clause-none : goal.returns-clause-none
returns-clause-none c =
    let fits : FitsSigned w128 c.args.bound = omega (arith, ints) in
    let here = subst (λ (z : ℤ). IfNone c.find_dead.result ((why : Why) → ¬ (IsDead c.new.result.site c.new.result.arcs c.args.pool.now c.new.result.marks (nat_abs z) why))) (to_z-of_z w128 c.args.bound fits) c.find_dead.ensures.none in
    subst (λ (n : NodeParts). IfNone c.find_dead.result ((why : Why) → ¬ (IsDead n.site n.arcs c.args.pool.now n.marks (nat_abs c.args.bound) why))) c.new.ensures here
