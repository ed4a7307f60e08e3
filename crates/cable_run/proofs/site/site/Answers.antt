use Rattle.std.proofs.Common.{refl}
use Rattle.std.proofs.lemmas.Result.{err_from_is_err_and}
use Rattle.run_definitions.specs.Effect.{effect}
use Rattle.cable_run.proofs.Sites.{front_fails, lines_written, lines_begun}
use Rattle.cable_run.proofs.site.site.Goals as goal

pub returns-in_err-site : goal.returns-in_err-site
returns-in_err-site g c =
    let p = err_from_is_err_and c.from_residual.result c.from_residual.ensures.1 in
    rw p.1 (front_fails (effect (g.S.Source.state c.args.input.now) (g.S.Source.state c.read_front.new.src)) (effect (g.O.Sink.state c.args.out.now) (g.O.Sink.state c.args.out.now))
    c.in_err-site.field-0.0 p.0 p.2 refl c.in_err-site.ensures.refused c.in_err-site.ensures.read)

pub returns-in_err-write_site : goal.returns-in_err-write_site
returns-in_err-write_site g c =
    let p = err_from_is_err_and c.from_residual-in_err-write_site.result c.from_residual-in_err-write_site.ensures.1 in
    rw (p.1, p.2) (lines_begun (effect (g.S.Source.state c.args.input.now) (g.S.Source.state c.read_front.new.src)) (effect (g.O.Sink.state c.args.out.now) (g.O.Sink.state c.write_site.new.out))
    c.in_ok-site.site (record { valid = c.in_ok-site.ensures.valid; read = c.in_ok-site.ensures.site }) c.in_err-write_site.ensures.failed c.in_err-write_site.ensures.part)

pub returns : goal.returns
returns g c =
    lines_written (effect (g.S.Source.state c.args.input.now) (g.S.Source.state c.read_front.new.src)) (effect (g.O.Sink.state c.args.out.now) (g.O.Sink.state c.write_site.new.out))
    c.in_ok-site.site (record { valid = c.in_ok-site.ensures.valid; read = c.in_ok-site.ensures.site }) c.in_ok-write_site.ensures.ok
