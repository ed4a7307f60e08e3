use Rattle.std.proofs.lemmas.Result.{err_from_is_err_and}
use Rattle.run_definitions.specs.Effect.{effect}
use Rattle.cable_run.proofs.Sites.{whole_fails}
use Rattle.cable_run.proofs.whole.read_site.Goals as goal

pub returns-in_err-site : goal.returns-in_err-site
returns-in_err-site g c =
    let p = err_from_is_err_and c.from_residual.result c.from_residual.ensures.1 in
    rw p.1 (whole_fails (effect (g.S.Source.state c.args.input.now) (g.S.Source.state c.read_whole.new.src)) c.in_err-site.field-0.0 p.0 p.2 c.in_err-site.ensures.refused c.in_err-site.ensures.read)
