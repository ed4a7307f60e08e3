use Rattle.std.proofs.Common.{◌≡◌, ◌++◌, Err, refl, rules}
use Rattle.cable_text.specs.Lines.{ahead}
use Rattle.cable_definitions.specs.Text.{claim_line}
use Rattle.document_check.proofs.Stages.{pass_refusal, turn_refusal, err_refused, cables_on, refused_cable, refused_last, accepted_end, cables_text}
use Rattle.document_check.proofs.document.read_end_of_document.Goals as goal

pub returns-in-Err-clause-refused : goal.returns-in-Err-clause-refused
returns-in-Err-clause-refused g c =
    pass_refusal (Unit {0}) c.in-Err.fault c.reading_fault.result c.reading_fault.ensures _ _
    (λ refusal d. refused_cable c.args.site.now c.args.checker.now.arcs c.args.checker.now.budget c.args.count c.args.checker.now.state (ahead c.args.lines.now (g.S.Source.state c.args.src.now)) c.args.lines.now.lines refusal d)
    c.in-Err.ensures.refused

pub returns-in_err-claim-clause-refused : goal.returns-in_err-claim-clause-refused
returns-in_err-claim-clause-refused g c =
    let s = c.args.site.now in
    let b = c.args.checker.now in
    let before = ahead c.args.lines.now (g.S.Source.state c.args.src.now) in
    let middle = ahead c.read_layout.new.lines (g.S.Source.state c.read_layout.new.src) in
    let cables = c.read_layout.new.into in
    let same : c.from_residual.result ≡ Err c.in_err-claim.field-0.0 = search rules in
    err_refused c.from_residual.result c.in_err-claim.field-0.0 _ same
    (turn_refusal c.in_err-claim.field-0.0 _ _
    (λ refusal d first start h. d (cables_text s b.budget c.args.count cables) first start
    (cables_on s b.arcs b.budget c.args.count b.state cables before middle c.args.lines.now.lines c.read_layout.new.lines.lines c.in-Ok.ensures.reads c.in-Ok.ensures.text c.in-Ok.ensures.size c.in-Ok.ensures.lines c.in-Ok.ensures.no_lines first start h))
    c.in_err-claim.ensures.refused)

pub returns-in-Ok-read_close-clause-accepted : goal.returns-in-Ok-read_close-clause-accepted
returns-in-Ok-read_close-clause-accepted g c first start are budget h =
    let s = c.args.site.now in
    let b = c.args.checker.now in
    let before = ahead c.args.lines.now (g.S.Source.state c.args.src.now) in
    let middle = ahead c.read_layout.new.lines (g.S.Source.state c.read_layout.new.src) in
    let later = ahead c.judge_claim.new.lines (g.S.Source.state c.judge_claim.new.src) in
    let after = ahead c.read_close.new.lines (g.S.Source.state c.read_close.new.src) in
    let cables = c.read_layout.new.into in
    accepted_end s b.arcs b.budget c.args.count b.state cables c.in_ok-claim.claim later after c.judge_claim.new.lines.lines c.read_close.new.lines.lines first start are budget c.in-Ok.ensures.size (c.in-Ok.ensures.in_order refl)
    c.in_ok-claim.ensures.agrees c.in_ok-claim.ensures.range
    (c.in_ok-claim.ensures.reads (cables_text s b.budget c.args.count cables) first start
    (cables_on s b.arcs b.budget c.args.count b.state cables before middle c.args.lines.now.lines c.read_layout.new.lines.lines c.in-Ok.ensures.reads c.in-Ok.ensures.text c.in-Ok.ensures.size c.in-Ok.ensures.lines c.in-Ok.ensures.no_lines first start h))
    c.in-Ok-read_close.ensures.text c.in-Ok-read_close.ensures.reads c.in-Ok-read_close.ensures.lines c.in-Ok-read_close.ensures.end

pub returns-in-Err-read_close-clause-refused : goal.returns-in-Err-read_close-clause-refused
returns-in-Err-read_close-clause-refused g c =
    let s = c.args.site.now in
    let b = c.args.checker.now in
    let before = ahead c.args.lines.now (g.S.Source.state c.args.src.now) in
    let middle = ahead c.read_layout.new.lines (g.S.Source.state c.read_layout.new.src) in
    let later = ahead c.judge_claim.new.lines (g.S.Source.state c.judge_claim.new.src) in
    let cables = c.read_layout.new.into in
    pass_refusal (Unit {0}) c.in-Err-read_close.fault c.reading_fault-in-Err-read_close.result c.reading_fault-in-Err-read_close.ensures _ _
    (λ refusal d first start h.
    refused_last s b.arcs b.budget b.state cables (λ items. cables_text s b.budget c.args.count cables items ++ claim_line s c.in_ok-claim.claim) later c.judge_claim.new.lines.lines refusal d first start
    (c.in_ok-claim.ensures.reads (cables_text s b.budget c.args.count cables) first start
    (cables_on s b.arcs b.budget c.args.count b.state cables before middle c.args.lines.now.lines c.read_layout.new.lines.lines c.in-Ok.ensures.reads c.in-Ok.ensures.text c.in-Ok.ensures.size c.in-Ok.ensures.lines c.in-Ok.ensures.no_lines first start h)))
    c.in-Err-read_close.ensures.refused
