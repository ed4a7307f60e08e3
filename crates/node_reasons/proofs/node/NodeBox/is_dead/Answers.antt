use Rattle.std.proofs.Common.{◌≡◌, ℕ, ◌⊎◌, inl, inr, nat_abs, arith, sym, subst}
use Rattle.std.specs.Prelude.{IsTrue, ◌↔◌}
use Rattle.cable_definitions.specs.declared.row.Why.{Why}
use Rattle.cable_definitions.specs.declared.row.Why.TheVariants.{Load, Loop, Power}
use Rattle.cable_definitions.specs.Tree.{IsDead}
use Rattle.proof_laws.proofs.Lists.{some_at}
use Rattle.node_reasons.specs.Node.{NodeParts}
use Rattle.node_reasons.proofs.DeadReasons.{IsFlow, used_ends, flow_dead, dead_flow}
use Rattle.node_reasons.proofs.node.NodeBox.is_dead.Goals as goal

pub returns-else-row-len : goal.returns-else-row-len
returns-else-row-len c =
    let n = c.args.self.now in
    let r = some_at c.args.pool.now c.in-Row.row (omega arith) in
    let m = c.cannot_meet.ensures r.0 r.1 in
    subst (λ (why : Why). IsTrue c.cannot_meet.result ↔ IsDead n.site n.arcs c.args.pool.now n.marks (nat_abs c.args.bound) why) (sym c.in-Row.is) (
      (λ t. (r.0, r.1, m.0 t)),
      (λ k. (c.cannot_meet.ensures k.0 k.1).1 k.2),
    )

-- one of the three reasons
named_flow : (why : Why) → ((p : ℕ) × (why ≡ Load p)) ⊎ (((p : ℕ) × (why ≡ Loop p)) ⊎ ((p : ℕ) × (why ≡ Power p))) → IsFlow why
named_flow why (inl (p, e)) = subst IsFlow (sym e) tt
named_flow why (inr (inl (p, e))) = subst IsFlow (sym e) tt
named_flow why (inr (inr (p, e))) = subst IsFlow (sym e) tt

pub returns-in-Load : goal.returns-in-Load
returns-in-Load c =
    let x = c.self.inside in
    let rows = c.args.pool.now in
    let bound = nat_abs c.args.bound in
    let is = named_flow c.args.why c.in-Load.is in
    let same = used_ends x.arcs.now x.decisions.now x.used c.cables.result.now c.self.invariant.gathered c.self.invariant.count c.cables.ensures.value in
    subst (λ (n : NodeParts). IsTrue c.is_flow_reason.result ↔ IsDead n.site n.arcs rows n.marks bound c.args.why) c.self.view_is (
      (λ t. flow_dead x.site.now x.arcs.now rows x.decisions.now bound c.cables.result.now same c.args.why (c.is_flow_reason.ensures.0 t)),
      (λ k. c.is_flow_reason.ensures.1 (dead_flow x.site.now x.arcs.now rows x.decisions.now bound c.cables.result.now same c.args.why is k)),
    )
