use Rattle.std.proofs.Common.{[], ◌∷◌, pos, codes, sym, ap, arith, refl}
use Rattle.std.specs.Fmt.{decimal}
use Rattle.cable_definitions.specs.Text.{line}
use Rattle.cable_definitions.specs.Refusal.{BudgetLine, AtBudget, AtItem}
use Rattle.cable_text.proofs.Numerals.{numeral-decimal}
use Rattle.cable_text.specs.Lines.{ahead}
use Rattle.line_words.specs.Words.{held}
use Rattle.proof_text.proofs.Streams.{refused_line, goes_one, refused_here, line_given}
use Rattle.proof_text.proofs.items.read_budget.Goals as goal

pub returns-in-Ok-clause-reads : goal.returns-in-Ok-clause-reads
returns-in-Ok-clause-reads g c = λ s r e.
    goes_one s r AtBudget (ahead c.args.lines.now (g.S.Source.state c.args.src.now)) (ahead c.next_line.new.lines (g.S.Source.state c.next_line.new.src)) c.next_line.new.lines.text c.text.result.now (held c.words_of.result) (BudgetLine (pos c.in-Ok.budget)) (record r { phase = AtItem; budget = c.in-Ok.budget })
    c.in_ok-next_line.ensures.found c.text.ensures c.words_of.ensures c.in-Ok.ensures.good e tt (λ arcs cause f. f) (λ arcs. refl)

pub returns-in-Ok-clause-text : goal.returns-in-Ok-clause-text
returns-in-Ok-clause-text g c =
    line_given AtBudget (ahead c.args.lines.now (g.S.Source.state c.args.src.now)) (ahead c.next_line.new.lines (g.S.Source.state c.next_line.new.src)) c.next_line.new.lines.text c.text.result.now (held c.words_of.result) (BudgetLine (pos c.in-Ok.budget)) (line (codes "budget" ∷ decimal c.in-Ok.budget ∷ []))
    c.in_ok-next_line.ensures.found c.text.ensures c.words_of.ensures c.in-Ok.ensures.good.standing (ap (λ w. line (codes "budget" ∷ w ∷ [])) (sym (numeral-decimal c.in-Ok.budget (omega (arith, c.in-Ok.ensures.range.1)))))

pub returns-in-Err-clause-line : goal.returns-in-Err-clause-line
returns-in-Err-clause-line g c = rw c.refused.ensures (refused_line c.next_line.ensures.line.count (λ s r e.
    refused_here s r AtBudget (ahead c.args.lines.now (g.S.Source.state c.args.src.now)) (ahead c.next_line.new.lines (g.S.Source.state c.next_line.new.src)) c.next_line.new.lines.text c.text.result.now (held c.words_of.result) c.args.lines.now.lines c.next_line.new.lines.number c.in-Err.cause
    c.in_ok-next_line.ensures.found c.text.ensures c.words_of.ensures c.in-Err.ensures.bad e c.next_line.ensures.number))
