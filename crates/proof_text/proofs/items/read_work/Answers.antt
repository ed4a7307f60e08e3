use Rattle.cable_text.specs.Lines.{ahead}
use Rattle.proof_text.proofs.WeightLines.{act_refused}
use Rattle.proof_text.proofs.items.read_work.Goals as goal

pub returns-clause-refused : goal.returns-clause-refused
returns-clause-refused g c =
    act_refused (ahead c.args.lines.now (g.S.Source.state c.args.src.now)) (ahead c.read_weights.new.lines (g.S.Source.state c.read_weights.new.src)) c.read_weights.new.weights c.args.count c.args.lines.now.lines c.read_weights.new.lines.lines c.read_act.result
    c.in_ok-read_weights.ensures.reads c.in_ok-read_weights.ensures.length c.in_ok-read_weights.ensures.lines c.read_act.ensures.line.refused
