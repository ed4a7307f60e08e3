use Rattle.std.proofs.Common.{◌≡◌, List, Err, rules}
use Rattle.cable_definitions.specs.declared.cable.Arc.{Arc}
use Rattle.cable_definitions.specs.Arcs.{AreArcs}
use Rattle.cable_text.specs.Lines.{ahead}
use Rattle.document_check.proofs.Stages.{of_any, items_refused, end_refused, source_end}
use Rattle.document_check.proofs.document.read_document.Goals as goal

pub returns-in_err-checker-clause-listed : goal.returns-in_err-checker-clause-listed
returns-in_err-checker-clause-listed g c = of_any c.from_residual.result (λ refusal. (arcs : List Arc) × AreArcs c.args.site.now arcs) (λ refusal. (c.in-Ok.arcs, c.in-Ok.ensures))

pub returns-in_err-count-clause-listed : goal.returns-in_err-count-clause-listed
returns-in_err-count-clause-listed g c = of_any c.from_residual-in_err-count.result (λ refusal. (arcs : List Arc) × AreArcs c.args.site.now arcs) (λ refusal. (c.in-Ok.arcs, c.in-Ok.ensures))

pub returns-in_err-claim-clause-listed : goal.returns-in_err-claim-clause-listed
returns-in_err-claim-clause-listed g c = of_any c.from_residual-in_err-claim.result (λ refusal. (arcs : List Arc) × AreArcs c.args.site.now arcs) (λ refusal. (c.in-Ok.arcs, c.in-Ok.ensures))

pub returns-in_err-count-clause-refused : goal.returns-in_err-count-clause-refused
returns-in_err-count-clause-refused g c refusal bytes arcs is told are small =
    let same : c.from_residual-in_err-count.result ≡ Err c.in_err-count.field-0.0 = search rules in
    let made = c.in_ok-checker.ensures in
    items_refused c.args.site.now c.in_ok-checker.checker (ahead c.args.lines.now (g.S.Source.state c.args.src.now)) (ahead c.begin_document.new.lines (g.S.Source.state c.begin_document.new.src)) c.args.lines.now.lines c.begin_document.new.lines.lines
    c.from_residual-in_err-count.result c.in_err-count.field-0.0 refusal same is made.site made.arcs made.reads c.in_err-count.ensures.refused arcs are bytes told small

pub returns-in_err-claim-clause-refused : goal.returns-in_err-claim-clause-refused
returns-in_err-claim-clause-refused g c refusal bytes arcs is told are small =
    let same : c.from_residual-in_err-claim.result ≡ Err c.in_err-claim.field-0.0 = search rules in
    let made = c.in_ok-checker.ensures in
    end_refused c.args.site.now c.in_ok-checker.checker c.feed_items.new.checker (ahead c.args.lines.now (g.S.Source.state c.args.src.now)) (ahead c.begin_document.new.lines (g.S.Source.state c.begin_document.new.src))
    (ahead c.feed_items.new.lines (g.S.Source.state c.feed_items.new.src)) c.args.lines.now.lines c.begin_document.new.lines.lines c.feed_items.new.lines.lines c.in_ok-count.count
    c.from_residual-in_err-claim.result c.in_err-claim.field-0.0 refusal same is made.site made.arcs made.reads c.in_ok-count.ensures.fed c.in_err-claim.ensures.refused arcs are bytes told small

pub returns-clause-whole : goal.returns-clause-whole
returns-clause-whole g c = source_end c.read_end_of_document.new.lines.pending (g.S.Source.state c.read_end_of_document.new.src).bytes c.in_ok-claim.ensures.whole
