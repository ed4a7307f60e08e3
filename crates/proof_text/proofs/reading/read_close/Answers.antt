use Rattle.cable_text.specs.Lines.{ahead}
use Rattle.proof_text.proofs.Behind.{close_refused}
use Rattle.proof_text.proofs.reading.read_close.Goals as goal

pub returns-clause-refused : goal.returns-clause-refused
returns-clause-refused g c =
    close_refused c.read_end.result (ahead c.args.lines.now (g.S.Source.state c.args.src.now)) (ahead c.read_last.new.lines (g.S.Source.state c.read_last.new.src)) c.args.lines.now.lines c.read_last.new.lines.lines
    c.in_ok-read_last.ensures.reads c.in_ok-read_last.ensures.line.lines c.read_end.ensures.refused
