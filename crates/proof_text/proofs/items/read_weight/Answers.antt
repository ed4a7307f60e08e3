use Rattle.std.proofs.Common.{suc}
use Rattle.cable_definitions.specs.Refusal.{AtWeights}
use Rattle.cable_text.specs.Lines.{ahead}
use Rattle.line_words.specs.Words.{held}
use Rattle.proof_text.proofs.Streams.{refused_line, refused_here}
use Rattle.proof_text.proofs.WeightLines.{weight_read}
use Rattle.proof_text.proofs.items.read_weight.Goals as goal

pub returns-in-Ok-clause-reads : goal.returns-in-Ok-clause-reads
returns-in-Ok-clause-reads g c =
    weight_read (ahead c.args.lines.now (g.S.Source.state c.args.src.now)) (ahead c.next_line.new.lines (g.S.Source.state c.next_line.new.src)) c.next_line.new.lines.text c.text.result.now (held c.words_of.result) c.in-Ok.weight
    c.in_ok-next_line.ensures.found c.text.ensures c.words_of.ensures c.in-Ok.ensures.good

pub returns-in-Err-clause-line : goal.returns-in-Err-clause-line
returns-in-Err-clause-line g c = rw c.refused.ensures (refused_line c.next_line.ensures.line.count (λ s r (v, k, weights, e).
    refused_here s r (AtWeights v (suc k) weights) (ahead c.args.lines.now (g.S.Source.state c.args.src.now)) (ahead c.next_line.new.lines (g.S.Source.state c.next_line.new.src)) c.next_line.new.lines.text c.text.result.now (held c.words_of.result) c.args.lines.now.lines c.next_line.new.lines.number c.in-Err.cause
    c.in_ok-next_line.ensures.found c.text.ensures c.words_of.ensures (c.in-Err.ensures.bad v k weights) e c.next_line.ensures.number))
