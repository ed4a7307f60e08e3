use Rattle.std.proofs.Common.{◌≡◌, ℕ, nat_abs, ℤ, FitsSigned, ◌<◌, false, true, arith, ◌∙◌, sym, subst}
use Rattle.cable_definitions.specs.declared.row.Why.{Why}
use Rattle.cable_definitions.specs.declared.row.Why.TheVariants.{Row as RowWhy, Pair, Load, Loop, Power, Ceiling}
use Rattle.cable_definitions.specs.Tree.{IsDead}
use Rattle.std.specs.Int.{w128}
use Rattle.std.proofs.lemmas.Int.{ints, to_z-of_z}
use Rattle.node_reasons.specs.Node.{NodeParts}
use Rattle.node_reasons.proofs.DeadReasons.{IsFlow, used_ends, flow_dead, dead_flow}
use Rattle.node_reasons.proofs.node.NodeBox.find_dead.Goals as goal

pub returns-in-Some-find_flow_reason-clause-dead : goal.returns-in-Some-find_flow_reason-clause-dead
returns-in-Some-find_flow_reason-clause-dead c =
    let x = c.self.inside in
    let bound = nat_abs c.args.bound in
    let same = used_ends x.arcs.now x.decisions.now x.used c.cables.result.now c.self.invariant.gathered c.self.invariant.count c.cables.ensures.value in
    let why = c.in-Some-find_flow_reason.why in
    subst (λ (n : NodeParts). IsDead n.site n.arcs c.args.pool.now n.marks bound why) c.self.view_is
    (flow_dead x.site.now x.arcs.now c.args.pool.now x.decisions.now bound c.cables.result.now same why c.in-Some-find_flow_reason.ensures.some)

pub returns-clause-none : goal.returns-clause-none
returns-clause-none c = λ why. by_reason why
  where
    flow : (why : Why) → IsFlow why → ¬ (IsDead c.args.self.now.site c.args.self.now.arcs c.args.pool.now c.args.self.now.marks (nat_abs c.args.bound) why)
    flow why is k =
        let x = c.self.inside in
        let same = used_ends x.arcs.now x.decisions.now x.used c.cables.result.now c.self.invariant.gathered c.self.invariant.count c.cables.ensures.value in
        let here = subst (λ (n : NodeParts). IsDead n.site n.arcs c.args.pool.now n.marks (nat_abs c.args.bound) why) (sym c.self.view_is) k in
        c.in_default-find_flow_reason.ensures.none why (dead_flow x.site.now x.arcs.now c.args.pool.now x.decisions.now (nat_abs c.args.bound) c.cables.result.now same why is here)

    by_reason : (why : Why) → ¬ (IsDead c.args.self.now.site c.args.self.now.arcs c.args.pool.now c.args.self.now.marks (nat_abs c.args.bound) why)
    by_reason (RowWhy row) k = c.in_default-find_row.ensures.none row k.0 k.1 k.2
    by_reason (Pair a b) k = c.in_default.ensures.none a b k.0 k.1
    by_reason (Load p) k = flow (Load p) tt k
    by_reason (Loop p) k = flow (Loop p) tt k
    by_reason (Power p) k = flow (Power p) tt k
    by_reason Ceiling k =
        let fits : FitsSigned w128 c.args.bound = omega (arith, ints) in
        let above : c.args.ceiling < nat_abs c.args.bound = subst (λ (m : ℕ). m < nat_abs c.args.bound) (sym c.requires.ceiling) k in
        let t = c.is_above.ensures.1 (subst (λ (z : ℤ). c.args.ceiling < nat_abs z) (sym (to_z-of_z w128 c.args.bound fits)) above) in
        let g : false ≡ true = sym c.if-is_above.false ∙ t in
        absurd (cc)
