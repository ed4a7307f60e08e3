use Rattle.std.proofs.Common.{ap}
use Rattle.std.proofs.lemmas.Result.{err_from_is_err_and}
use Rattle.cable_text.specs.Lines.{ahead}
use Rattle.site_input.proofs.Forms.{fresh_ahead}
use Rattle.run_definitions.specs.Effect.{effect}
use Rattle.cable_run.proofs.Judged.{site_fails, lines_fail, faulted_on}
use Rattle.cable_run.proofs.layout.read_site_and_layout.Goals as goal

pub returns-in_err-site : goal.returns-in_err-site
returns-in_err-site g c =
    let p = err_from_is_err_and c.from_residual-in_err-site.result c.from_residual-in_err-site.ensures.1 in
    rw p.1 (site_fails (effect (g.S.Source.state c.args.input.now) (g.S.Source.state c.read_site.new.src)) p.0 c.in_err-site.field-0.0 _
    (ahead c.in_ok-lines.lines (g.S.Source.state c.args.input.now)) p.2 (ap (λ l. l.lines) c.in_ok-lines.ensures) (λ bytes told. fresh_ahead _ _ bytes (ap (λ l. l.pending) c.in_ok-lines.ensures) told)
    c.in_err-site.ensures.refused c.in_err-site.ensures.read)

pub returns-in_err-read_cables : goal.returns-in_err-read_cables
returns-in_err-read_cables g c =
    let site = c.in_ok-site.ensures in
    let p = err_from_is_err_and c.from_residual-in_err-read_cables.result c.from_residual-in_err-read_cables.ensures.1 in
    rw p.1 (lines_fail (Unit {0}) (effect (g.S.Source.state c.args.input.now) (g.S.Source.state c.read_cables.new.input)) p.0 c.in_err-read_cables.field-0.0
    c.in_ok-site.site (ahead c.in_ok-lines.lines (g.S.Source.state c.args.input.now)) (ahead c.read_site.new.lines (g.S.Source.state c.read_site.new.src))
    c.read_site.new.lines.lines c.in_ok-lines.lines.lines p.2 site.valid site.text (λ bytes told. fresh_ahead _ _ bytes (ap (λ l. l.pending) c.in_ok-lines.ensures) told)
    (ap (λ l. l.lines) c.in_ok-lines.ensures) site.lines site.few c.in_err-read_cables.ensures.refused
    (faulted_on (Unit {0}) c.in_err-read_cables.field-0.0 (g.S.Source.state c.args.input.now).faults (g.S.Source.state c.read_site.new.src).faults (g.S.Source.state c.read_cables.new.input).faults site.count c.in_err-read_cables.ensures.count c.in_err-read_cables.ensures.read))
