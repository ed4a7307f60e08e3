use Rattle.std.proofs.Common.{refl}
use Rattle.cable_definitions.specs.Refusal.{reader_at, AtJudged}
use Rattle.cable_text.specs.Lines.{ahead}
use Rattle.cable_run.proofs.Layouts.{cables_fail, end_fails, end_found, read_found}
use Rattle.cable_run.proofs.layout.read_cables.Goals as goal

pub returns-in-Err-read_layout-clause-refused : goal.returns-in-Err-read_layout-clause-refused
returns-in-Err-read_layout-clause-refused g c =
    cables_fail (Unit {0}) c.in-Err-read_layout.fault c.args.site.now (ahead c.args.lines.now (g.S.Source.state c.args.input.now)) (ahead c.read_count.new.lines (g.S.Source.state c.read_count.new.src))
    c.args.lines.now.lines c.read_count.new.lines.lines c.in-Ok.count (c.in-Ok.ensures.reads c.args.site.now (reader_at AtJudged) refl) c.in-Ok.ensures.line.lines c.in-Err-read_layout.ensures.refused

pub returns-in-Ok-read_layout-clause-reads : goal.returns-in-Ok-read_layout-clause-reads
returns-in-Ok-read_layout-clause-reads g c =
    read_found c.read_end.result c.args.site.now (ahead c.args.lines.now (g.S.Source.state c.args.input.now)) (ahead c.read_count.new.lines (g.S.Source.state c.read_count.new.src))
    (ahead c.read_layout.new.lines (g.S.Source.state c.read_layout.new.src)) c.in-Ok.count c.read_layout.new.into (c.in-Ok.ensures.reads c.args.site.now (reader_at AtJudged) refl)
    c.in-Ok-read_layout.ensures.reads c.read_end.ensures.end

pub returns-in-Ok-read_layout-clause-whole : goal.returns-in-Ok-read_layout-clause-whole
returns-in-Ok-read_layout-clause-whole g c =
    end_found c.read_end.result c.read_end.new.lines.pending (g.S.Source.state c.read_end.new.src).bytes (ahead c.read_layout.new.lines (g.S.Source.state c.read_layout.new.src))
    c.read_end.ensures.end c.read_end.ensures.same

pub returns-in-Ok-read_layout-clause-refused : goal.returns-in-Ok-read_layout-clause-refused
returns-in-Ok-read_layout-clause-refused g c =
    let read = c.in-Ok-read_layout.ensures in
    end_fails c.read_end.result c.args.site.now (ahead c.args.lines.now (g.S.Source.state c.args.input.now)) (ahead c.read_count.new.lines (g.S.Source.state c.read_count.new.src))
    (ahead c.read_layout.new.lines (g.S.Source.state c.read_layout.new.src)) c.args.lines.now.lines c.read_count.new.lines.lines c.read_layout.new.lines.lines c.in-Ok.count c.read_layout.new.into
    (c.in-Ok.ensures.reads c.args.site.now (reader_at AtJudged) refl) read.reads read.size c.in-Ok.ensures.line.lines read.lines read.no_lines c.read_end.ensures.refused
