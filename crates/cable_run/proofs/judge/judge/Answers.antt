use Rattle.std.proofs.lemmas.Result.{err_from_is_err_and}
use Rattle.run_definitions.specs.Effect.{effect}
use Rattle.cable_run.proofs.Judged.{judgement_written, judgement_begun}
use Rattle.cable_run.proofs.judge.judge.Goals as goal

pub returns-in_err-write_verdict : goal.returns-in_err-write_verdict
returns-in_err-write_verdict g c =
    let p = err_from_is_err_and c.from_residual-in_err-write_verdict.result c.from_residual-in_err-write_verdict.ensures.1 in
    rw (p.1, p.2) (judgement_begun (effect (g.S.Source.state c.args.input.now) (g.S.Source.state c.read_site_and_layout.new.input)) (effect (g.O.Sink.state c.args.out.now) (g.O.Sink.state c.write_verdict.new.out))
    c.in_ok-site.site c.in_ok-site.layout c.in_err-write_verdict.ensures.0 c.in_ok-site.ensures.0 c.in_err-write_verdict.ensures.1 c.in_err-write_verdict.ensures.2.failed c.in_err-write_verdict.ensures.2.part)

pub returns : goal.returns
returns g c =
    judgement_written (effect (g.S.Source.state c.args.input.now) (g.S.Source.state c.read_site_and_layout.new.input)) (effect (g.O.Sink.state c.args.out.now) (g.O.Sink.state c.write_verdict.new.out))
    c.in_ok-site.site c.in_ok-site.layout c.in_ok-write_verdict.ensures.0 c.in_ok-site.ensures.0 c.in_ok-write_verdict.ensures.1 c.in_ok-write_verdict.ensures.2.ok
