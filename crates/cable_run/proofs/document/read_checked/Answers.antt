use Rattle.std.proofs.Common.{ap}
use Rattle.std.proofs.lemmas.Result.{err_from_is_err_and}
use Rattle.cable_text.specs.Lines.{LinesState, ahead}
use Rattle.cable_text.proofs.Writing.{Rose-after}
use Rattle.site_input.proofs.Forms.{fresh_ahead}
use Rattle.run_definitions.specs.Effect.{effect}
use Rattle.cable_run.proofs.Documents.{document_checked, site_fails, document_fails}
use Rattle.cable_run.proofs.document.read_checked.Goals as goal

pub returns-in-Err : goal.returns-in-Err
returns-in-Err g c =
    let lines = c.in_ok-lines.lines in
    site_fails (effect (g.S.Source.state c.args.input.now) (g.S.Source.state c.read_site.new.src)) c.in-Err.fault c.in_document.result lines.lines
    (ahead lines (g.S.Source.state c.args.input.now)) c.in_document.ensures (ap (λ (x : LinesState). x.lines) c.in_ok-lines.ensures)
    (λ bytes told. fresh_ahead lines.pending (g.S.Source.state c.args.input.now).bytes bytes (ap (λ (x : LinesState). x.pending) c.in_ok-lines.ensures) told) c.in-Err.ensures.refused c.in-Err.ensures.read

pub returns-in_err-accepted : goal.returns-in_err-accepted
returns-in_err-accepted g c =
    let lines = c.in_ok-lines.lines in
    let read = c.in-Ok.ensures in
    let p = err_from_is_err_and c.from_residual-in_err-accepted.result c.from_residual-in_err-accepted.ensures.1 in
    rw p.1 (document_fails (effect (g.S.Source.state c.args.input.now) (g.S.Source.state c.read_document.new.src)) c.in_err-accepted.field-0.0
    p.0 c.in-Ok.site (ahead lines (g.S.Source.state c.args.input.now)) (ahead c.read_site.new.lines (g.S.Source.state c.read_site.new.src))
    c.read_site.new.lines.lines lines.lines p.2 read.valid read.text
    (λ bytes told. fresh_ahead lines.pending (g.S.Source.state c.args.input.now).bytes bytes (ap (λ (x : LinesState). x.pending) c.in_ok-lines.ensures) told) (ap (λ (x : LinesState). x.lines) c.in_ok-lines.ensures) read.lines read.few
    c.in_err-accepted.ensures.refused c.in_err-accepted.ensures.listed
    (λ e. Rose-after (g.S.Source.state c.args.input.now).faults (g.S.Source.state c.read_site.new.src).faults (g.S.Source.state c.read_document.new.src).faults read.count (c.in_err-accepted.ensures.read e)))

pub returns : goal.returns
returns g c =
    let lines = c.in_ok-lines.lines in
    document_checked (effect (g.S.Source.state c.args.input.now) (g.S.Source.state c.read_document.new.src)) c.in-Ok.site
    (ahead lines (g.S.Source.state c.args.input.now)) (ahead c.read_site.new.lines (g.S.Source.state c.read_site.new.src)) c.in_ok-accepted.accepted c.in-Ok.ensures.valid
    c.in-Ok.ensures.text (λ bytes told. fresh_ahead lines.pending (g.S.Source.state c.args.input.now).bytes bytes (ap (λ (x : LinesState). x.pending) c.in_ok-lines.ensures) told)
    c.in_ok-accepted.ensures.accepted c.in_ok-accepted.ensures.whole
