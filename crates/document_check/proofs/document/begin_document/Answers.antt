use Rattle.std.proofs.Common.{ℕ}
use Rattle.cable_text.specs.Lines.{ahead}
use Rattle.document_check.proofs.Onward.{refused_budget}
use Rattle.document_check.proofs.Stages.{at_none, pass_refusal, begun}
use Rattle.document_check.proofs.document.begin_document.Goals as goal

pub returns-in-Err-clause-refused : goal.returns-in-Err-clause-refused
returns-in-Err-clause-refused g c =
    pass_refusal ℕ c.in-Err.fault c.reading_fault.result c.reading_fault.ensures _ _
    (λ refusal d others. refused_budget c.args.site.now others (ahead c.args.lines.now (g.S.Source.state c.args.src.now)) c.args.lines.now.lines refusal d)
    (at_none c.args.reader.now.fault c.requires.readable c.in-Err.ensures.line).refused

pub returns-in-Ok-with_arcs-clause-reads : goal.returns-in-Ok-with_arcs-clause-reads
returns-in-Ok-with_arcs-clause-reads g c =
    begun c.args.site.now c.in-Ok-with_arcs.checker.arcs (ahead c.args.lines.now (g.S.Source.state c.args.src.now)) (ahead c.budget.new.lines (g.S.Source.state c.budget.new.src)) c.args.lines.now.lines c.budget.new.lines.lines
    c.in-Ok.budget c.in-Ok-with_arcs.checker.budget c.in-Ok-with_arcs.checker.state c.in-Ok-with_arcs.ensures.budget c.in-Ok-with_arcs.ensures.state c.in-Ok.ensures.reads c.in-Ok.ensures.text (at_none c.args.reader.now.fault c.requires.readable c.in-Ok.ensures.line).lines
