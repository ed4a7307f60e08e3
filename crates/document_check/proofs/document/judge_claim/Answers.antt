use Rattle.cable_definitions.specs.declared.claim.Claim.{Claim}
use Rattle.cable_text.specs.Lines.{ahead}
use Rattle.document_check.proofs.Stages.{pass_refusal, judged, refused_claim, refused_verdict}
use Rattle.document_check.proofs.document.judge_claim.Goals as goal

pub returns-in-Err-clause-refused : goal.returns-in-Err-clause-refused
returns-in-Err-clause-refused g c =
    pass_refusal Claim c.in-Err.fault c.reading_fault.result c.reading_fault.ensures _ _
    (λ refusal d. refused_verdict c.args.site.now c.args.checker.now (ahead c.args.lines.now (g.S.Source.state c.args.src.now)) c.args.lines.now.lines c.args.layout.now refusal d)
    c.in-Err.ensures.line.refused

pub returns-in-Ok-close-clause-reads : goal.returns-in-Ok-close-clause-reads
returns-in-Ok-close-clause-reads g c =
    judged c.args.site.now c.args.checker.now (ahead c.args.lines.now (g.S.Source.state c.args.src.now)) (ahead c.read_claim.new.lines (g.S.Source.state c.read_claim.new.src)) c.args.lines.now.lines c.read_claim.new.lines.lines
    c.args.layout.now c.in-Ok.claim c.points-valid.ensures.valid c.requires.own_site c.in-Ok.ensures.reads c.in-Ok.ensures.text c.in-Ok.ensures.line.lines c.in-Ok-close.ensures.no_cause

pub returns-in-Err-close-clause-refused : goal.returns-in-Err-close-clause-refused
returns-in-Err-close-clause-refused g c =
    refused_claim c.args.site.now c.args.checker.now c.close.new.self (ahead c.args.lines.now (g.S.Source.state c.args.src.now)) (ahead c.read_claim.new.lines (g.S.Source.state c.read_claim.new.src)) c.args.lines.now.lines c.read_claim.new.lines.lines
    c.read_claim.new.lines.number c.number.result c.args.layout.now c.in-Ok.claim c.in-Err-close.refusal c.points-valid.ensures.valid c.requires.own_site c.in-Ok.ensures.reads c.in-Ok.ensures.line.lines c.in-Ok.ensures.line.number c.number.ensures
    (c.in-Err-close.ensures.refused c.requires.open)
