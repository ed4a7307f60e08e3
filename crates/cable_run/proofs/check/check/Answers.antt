use Rattle.std.proofs.lemmas.Result.{err_from_is_err_and}
use Rattle.run_definitions.specs.Effect.{effect}
use Rattle.cable_run.proofs.Documents.{yes_written, yes_begun}
use Rattle.cable_run.proofs.check.check.Goals as goal

pub returns-in_err-write_yes : goal.returns-in_err-write_yes
returns-in_err-write_yes g c =
    let p = err_from_is_err_and c.from_residual-in_err-write_yes.result c.from_residual-in_err-write_yes.ensures.1 in
    rw (p.1, p.2) (yes_begun (effect (g.S.Source.state c.args.input.now) (g.S.Source.state c.read_checked.new.input)) (effect (g.O.Sink.state c.args.out.now) (g.O.Sink.state c.write_yes.new.out))
    c.in_ok-_site._site c.in_ok-_site.accepted.claim c.in_ok-_site.ensures.0 c.in_err-write_yes.ensures.failed c.in_err-write_yes.ensures.part)

pub returns : goal.returns
returns g c =
    yes_written (effect (g.S.Source.state c.args.input.now) (g.S.Source.state c.read_checked.new.input)) (effect (g.O.Sink.state c.args.out.now) (g.O.Sink.state c.write_yes.new.out))
    c.in_ok-_site._site c.in_ok-_site.accepted.claim c.in_ok-_site.ensures.0 c.in_ok-write_yes.ensures.ok
