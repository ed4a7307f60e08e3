use Rattle.std.proofs.Common.{[], ◌∷◌, pos, codes, sym, ap, arith}
use Rattle.std.specs.Fmt.{decimal}
use Rattle.cable_definitions.specs.Text.{line}
use Rattle.cable_definitions.specs.Refusal.{LayoutLine, AtJudged, AtAnyCables, after_layout}
use Rattle.cable_text.proofs.Numerals.{numeral-decimal}
use Rattle.cable_text.specs.Lines.{ahead}
use Rattle.line_words.specs.Words.{held}
use Rattle.proof_text.proofs.Streams.{goes_one, refused_here, line_given, refused_line}
use Rattle.proof_text.proofs.reading.read_count.Goals as goal

pub returns-in-Ok-clause-reads : goal.returns-in-Ok-clause-reads
returns-in-Ok-clause-reads g c = λ s r e.
    goes_one s r AtJudged (ahead c.args.lines.now (g.S.Source.state c.args.src.now)) (ahead c.next_line.new.lines (g.S.Source.state c.next_line.new.src)) c.next_line.new.lines.text c.text.result.now (held c.words_of.result) (LayoutLine (pos c.in-Ok.count)) (record r { phase = AtAnyCables c.in-Ok.count })
    c.in_ok-next_line.ensures.found c.text.ensures c.words_of.ensures c.in-Ok.ensures.good e tt (λ arcs cause f. f) (λ arcs. ap (λ p. record r { phase = after_layout p c.in-Ok.count }) (sym e))

pub returns-in-Ok-clause-text : goal.returns-in-Ok-clause-text
returns-in-Ok-clause-text g c =
    line_given AtJudged (ahead c.args.lines.now (g.S.Source.state c.args.src.now)) (ahead c.next_line.new.lines (g.S.Source.state c.next_line.new.src)) c.next_line.new.lines.text c.text.result.now (held c.words_of.result) (LayoutLine (pos c.in-Ok.count)) (line (codes "layout" ∷ decimal c.in-Ok.count ∷ []))
    c.in_ok-next_line.ensures.found c.text.ensures c.words_of.ensures c.in-Ok.ensures.good.standing (ap (λ w. line (codes "layout" ∷ w ∷ [])) (sym (numeral-decimal c.in-Ok.count (omega (arith, c.in-Ok.ensures.range)))))

pub returns-in-Err-clause-line : goal.returns-in-Err-clause-line
returns-in-Err-clause-line g c = rw c.refused.ensures (refused_line c.next_line.ensures.line.count (λ s r e.
    refused_here s r AtJudged (ahead c.args.lines.now (g.S.Source.state c.args.src.now)) (ahead c.next_line.new.lines (g.S.Source.state c.next_line.new.src)) c.next_line.new.lines.text c.text.result.now (held c.words_of.result) c.args.lines.now.lines c.next_line.new.lines.number c.in-Err.cause
    c.in_ok-next_line.ensures.found c.text.ensures c.words_of.ensures c.in-Err.ensures.bad e c.next_line.ensures.number))
