use Rattle.std.proofs.Common.{inl, refl, ap}
use Rattle.std.specs.Prelude.{Err}
use Rattle.std.proofs.lemmas.Result.{err_from_is_err_and}
use Rattle.cable_text.proofs.Writing.{Rose-after}
use Rattle.run_definitions.specs.Effect.{effect}
use Rattle.cable_run.proofs.Endings.{plan_done}
use Rattle.cable_run.proofs.Plans.{cables_found, claim_found, head_part, items_part, tail_part, search_fails, printed_whole}
use Rattle.cable_run.proofs.plan.plan.Goals as goal

pub returns-in_err-arcs : goal.returns-in_err-arcs
returns-in_err-arcs g c =
    let p = err_from_is_err_and c.from_residual-in_err-arcs.result c.from_residual-in_err-arcs.ensures.1 in
    rw (p.1, p.2) (inl refl)

pub returns-in_err-write_head : goal.returns-in_err-write_head
returns-in_err-write_head g c =
    let input = effect (g.S.Source.state c.args.input.now) (g.S.Source.state c.read_site.new.input) in
    let out = effect (g.O.Sink.state c.args.out.now) (g.O.Sink.state c.write_head.new.out) in
    let p = err_from_is_err_and c.from_residual-in_err-write_head.result c.from_residual-in_err-write_head.ensures.1 in
    rw (p.1, p.2) (c.in_err-write_head.ensures.failed, head_part input out c.in_ok-site.site c.args.budget c.args.lanes c.in_ok-arcs.arcs c.in_ok-site.ensures c.in_ok-arcs.ensures c.in_err-write_head.ensures.part)

pub returns-in_err-plan : goal.returns-in_err-plan
returns-in_err-plan g c =
    let input = effect (g.S.Source.state c.args.input.now) (g.S.Source.state c.read_site.new.input) in
    let out = effect (g.O.Sink.state c.args.out.now) (g.O.Sink.state c.search.new.out) in
    let p = err_from_is_err_and c.from_residual-in_err-plan.result c.from_residual-in_err-plan.ensures.1 in
    rw p.1 (search_fails c.args.budget c.args.lanes input out c.in_err-plan.field-0.0 p.0 p.2 (λ e. Rose-after _ _ _ c.in_ok-write_head.ensures.count (c.in_err-plan.ensures.failed (ap Err e)))
    (items_part input out _ c.in_ok-site.site c.args.budget c.args.lanes c.in_ok-arcs.arcs c.in_ok-site.ensures c.in_ok-arcs.ensures c.in_ok-write_head.ensures.ok c.in_err-plan.ensures.part))

pub write_tail-requires-clause-cables : goal.write_tail-requires-clause-cables
write_tail-requires-clause-cables g c = cables_found _ _ _ _ _ _ _ _ c.in_ok-plan.ensures.plan

pub write_tail-requires-clause-claim : goal.write_tail-requires-clause-claim
write_tail-requires-clause-claim g c = claim_found _ _ _ _ _ _ _ _ c.in_ok-plan.ensures.plan

pub returns-in_err-write_tail : goal.returns-in_err-write_tail
returns-in_err-write_tail g c =
    let input = effect (g.S.Source.state c.args.input.now) (g.S.Source.state c.read_site.new.input) in
    let out = effect (g.O.Sink.state c.args.out.now) (g.O.Sink.state c.write_tail.new.out) in
    let p = err_from_is_err_and c.from_residual-in_err-write_tail.result c.from_residual-in_err-write_tail.ensures.1 in
    rw (p.1, p.2) (
      Rose-after _ _ _ c.in_ok-write_head.ensures.count (Rose-after _ _ _ c.in_ok-plan.ensures.count c.in_err-write_tail.ensures.failed),
      tail_part input out _ _ c.in_ok-site.site c.args.budget c.args.lanes c.in_ok-arcs.arcs c.in_ok-plan.plan.layout c.in_ok-plan.plan.claim c.requires.some c.requires.most
          c.in_ok-site.ensures c.in_ok-arcs.ensures c.in_ok-write_head.ensures.ok c.in_ok-plan.ensures.plan c.in_err-write_tail.ensures.part,
    )

pub returns : goal.returns
returns g c =
    let input = effect (g.S.Source.state c.args.input.now) (g.S.Source.state c.read_site.new.input) in
    let out = effect (g.O.Sink.state c.args.out.now) (g.O.Sink.state c.write_tail.new.out) in
    plan_done c.args.budget c.args.lanes input out c.in_ok-plan.plan.claim c.ending_of.result
    (printed_whole input out _ _ c.in_ok-site.site c.args.budget c.args.lanes c.in_ok-arcs.arcs c.in_ok-plan.plan.layout c.in_ok-plan.plan.claim c.requires.some c.requires.most
    c.in_ok-site.ensures c.in_ok-arcs.ensures c.in_ok-write_head.ensures.ok c.in_ok-plan.ensures.plan c.in_ok-write_tail.ensures.ok) c.ending_of.ensures
