use Rattle.std.proofs.lemmas.Result.{err_from_is_err_and}
use Rattle.run_definitions.specs.Effect.{effect}
use Rattle.cable_run.proofs.Documents.{document_reported, document_named, report_written, report_begun}
use Rattle.cable_run.proofs.report.report.Goals as goal

pub report-requires-clause-cables : goal.report-requires-clause-cables
report-requires-clause-cables g c =
    document_reported (effect (g.S.Source.state c.args.input.now) (g.S.Source.state c.read_checked.new.input)) c.in_ok-site.site c.in_ok-site.accepted.layout c.in_ok-site.accepted.claim c.in_ok-site.ensures.0 c.in_ok-site.ensures.1

pub report-requires-clause-claim : goal.report-requires-clause-claim
report-requires-clause-claim g c =
    document_named (effect (g.S.Source.state c.args.input.now) (g.S.Source.state c.read_checked.new.input)) c.in_ok-site.site c.in_ok-site.accepted.claim c.in_ok-site.ensures.0

pub returns-in_err-report : goal.returns-in_err-report
returns-in_err-report g c =
    let p = err_from_is_err_and c.from_residual-in_err-report.result c.from_residual-in_err-report.ensures.1 in
    rw (p.1, p.2) (report_begun (effect (g.S.Source.state c.args.input.now) (g.S.Source.state c.read_checked.new.input)) (effect (g.O.Sink.state c.args.out.now) (g.O.Sink.state c.report.new.out))
    c.in_ok-site.site c.in_ok-site.accepted.layout c.in_ok-site.accepted.claim c.in_ok-site.ensures.0 c.in_ok-site.ensures.1
    c.in_err-report.ensures.failed c.in_err-report.ensures.part)

pub returns : goal.returns
returns g c =
    report_written (effect (g.S.Source.state c.args.input.now) (g.S.Source.state c.read_checked.new.input)) (effect (g.O.Sink.state c.args.out.now) (g.O.Sink.state c.report.new.out))
    c.in_ok-site.site c.in_ok-site.accepted.layout c.in_ok-site.accepted.claim c.in_ok-site.ensures.0 c.in_ok-site.ensures.1 c.in_ok-report.ensures.ok
