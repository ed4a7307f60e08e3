use Rattle.std.proofs.Common.{ℤ, nat_abs, List, sym, ap, ◌∙◌, subst}
use Rattle.cable_definitions.specs.declared.row.Mark.{Mark}
use Rattle.cable_definitions.specs.Choice.{IsValue}
use Rattle.cable_definitions.specs.Tree.{IsWorked}
use Rattle.branch_tree.specs.State.{TreeState, tree_after}
use Rattle.proof_checker.specs.State.{kept_from}
use Rattle.proof_checker.specs.Acts.{MayAct, MayNotAct}
use Rattle.proof_checker.proofs.Bounds.{small_back}
use Rattle.proof_checker.proofs.Acting.{may-there, may-not-there, work_done, work_refused}
use Rattle.proof_checker.proofs.works.work_node.Goals as goal

pub returns-in-Err-clause-refused : goal.returns-in-Err-clause-refused
returns-in-Err-clause-refused c =
    let s = c.args.site.now in
    let arcs = c.args.arcs.now in
    let rows = c.args.pool.now in
    let tree = c.args.tree.now in
    let work = c.args.work.now in
    let bound = c.new_bound-bound.result in
    let u = c.requires.unworked in
    let b = c.new_bound-bound.ensures.bound u.0 u.1 in
    let back = small_back bound c.new_bound-bound.ensures.not_negative c.new_bound-bound.ensures.small in
    let is = subst (λ (marks : List Mark). IsValue s arcs rows marks work.weights b.0) c.mark_arcs.ensures.marks b.1 in
    let first = subst (λ (z : ℤ). MayNotAct s arcs rows c.mark_arcs.new.into (nat_abs z) work.act c.in-Err.cause) back
    (may-not-there s arcs rows c.mark_arcs.new.into c.new-node.result _ work.act c.in-Err.cause c.new-node.ensures c.in-Err.ensures.refused) in
    let may = subst (λ (marks : List Mark). MayNotAct s arcs rows marks (nat_abs bound) work.act c.in-Err.cause) c.mark_arcs.ensures.marks first in
    work_refused s arcs tree.budget (kept_from rows tree) work.node work.weights work.act c.in-Err.cause u.0 b.0 (nat_abs bound) c.requires.room (u.1, u.2) c.requires.lawful c.requires.few is b.2 may

pub returns-in-Ok-clause-worked : goal.returns-in-Ok-clause-worked
returns-in-Ok-clause-worked c =
    let s = c.args.site.now in
    let arcs = c.args.arcs.now in
    let rows = c.args.pool.now in
    let tree = c.args.tree.now in
    let work = c.args.work.now in
    let bound = c.new_bound-bound.result in
    let after = c.in-Ok.after in
    let u = c.requires.unworked in
    let b = c.new_bound-bound.ensures.bound u.0 u.1 in
    let back = small_back bound c.new_bound-bound.ensures.not_negative c.new_bound-bound.ensures.small in
    let is = subst (λ (marks : List Mark). IsValue s arcs rows marks work.weights b.0) c.mark_arcs.ensures.marks b.1 in
    let first = subst (λ (z : ℤ). MayAct s arcs rows c.mark_arcs.new.into (nat_abs z) work.act (nat_abs after)) back
    (may-there s arcs rows c.mark_arcs.new.into c.new-node.result _ work.act (nat_abs after) c.new-node.ensures c.in-Ok.ensures.fits) in
    let may = subst (λ (marks : List Mark). MayAct s arcs rows marks (nat_abs bound) work.act (nat_abs after)) c.mark_arcs.ensures.marks first in
    let next = c.do_act.ensures u.0 u.1 ∙ ap (λ (z : ℤ). tree_after tree work.node u.0 work.act (nat_abs z)) (small_back after c.in-Ok.ensures.not_negative c.in-Ok.ensures.small) in
    subst (λ (t : TreeState). IsWorked s arcs tree.budget (kept_from rows tree) work.node work.weights work.act (kept_from rows t)) (sym next)
    (work_done s arcs tree.budget rows tree work.node work.weights work.act u.0 b.0 (nat_abs bound) (nat_abs after) c.requires.room (u.1, u.2) c.requires.lawful c.requires.few is b.2 may)

pub returns-in-Ok-clause-tree_budget : goal.returns-in-Ok-clause-tree_budget
returns-in-Ok-clause-tree_budget c = ap (λ (t : TreeState). t.budget) (c.do_act.ensures c.requires.unworked.0 c.requires.unworked.1)

pub returns-in-Ok-clause-tree_arcs : goal.returns-in-Ok-clause-tree_arcs
returns-in-Ok-clause-tree_arcs c = ap (λ (t : TreeState). t.arcs) (c.do_act.ensures c.requires.unworked.0 c.requires.unworked.1)
