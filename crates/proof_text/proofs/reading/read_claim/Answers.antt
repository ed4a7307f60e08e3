use Rattle.std.proofs.Common.{subst}
use Rattle.cable_definitions.specs.Text.{claim_line, Whole}
use Rattle.cable_definitions.specs.Refusal.{ClaimLine, AtCables}
use Rattle.cable_definitions.specs.declared.claim.Cause.TheVariants.{Layout}
use Rattle.cable_text.specs.Lines.{ahead}
use Rattle.line_words.specs.Words.{held, IsCut}
use Rattle.line_words.specs.Judged.{verdict_of}
use Rattle.proof_text.proofs.Claims.{claim_spelled, claim_in_range, no_turbine}
use Rattle.proof_text.proofs.Streams.{refused_line, line_of_good, refused_here, refused_next, line_given}
use Rattle.proof_text.proofs.reading.read_claim.Goals as goal

pub returns-in-Some-clause-reads : goal.returns-in-Some-clause-reads
returns-in-Some-clause-reads g c =
    let of = c.in-Some.ensures.some in (
      verdict_of c.in-Ok.claim,
      of,
      λ r e. line_of_good c.args.site.now r (AtCables 0) (ahead c.args.lines.now (g.S.Source.state c.args.src.now)) (ahead c.next_line.new.lines (g.S.Source.state c.next_line.new.src)) c.next_line.new.lines.text c.text.result.now (held c.words_of.result) (ClaimLine (verdict_of c.in-Ok.claim))
          c.in_ok-next_line.ensures.found c.text.ensures c.words_of.ensures c.in-Ok.ensures.good e (c.in-Some.claim, of),
    )

pub returns-in-Some-clause-text : goal.returns-in-Some-clause-text
returns-in-Some-clause-text g c =
    let h = c.in-Ok.ensures.good in
    line_given (AtCables 0) (ahead c.args.lines.now (g.S.Source.state c.args.src.now)) (ahead c.next_line.new.lines (g.S.Source.state c.next_line.new.src)) c.next_line.new.lines.text c.text.result.now (held c.words_of.result) (ClaimLine (verdict_of c.in-Ok.claim)) (claim_line c.args.site.now c.in-Some.claim)
    c.in_ok-next_line.ensures.found c.text.ensures c.words_of.ensures h.standing (claim_spelled c.args.site.now (verdict_of c.in-Ok.claim) c.in-Some.claim c.in-Some.ensures.some h.limits.0)

pub returns-in-Some-clause-range : goal.returns-in-Some-clause-range
returns-in-Some-clause-range g c = claim_in_range c.args.site.now (verdict_of c.in-Ok.claim) c.in-Some.claim c.in-Some.ensures.some c.in-Ok.ensures.good.limits.0

pub returns-in-Err-clause-line : goal.returns-in-Err-clause-line
returns-in-Err-clause-line g c = rw c.refused.ensures (refused_line c.next_line.ensures.line.count (λ s r (own, e). rw own (
    refused_here c.args.site.now r (AtCables 0) (ahead c.args.lines.now (g.S.Source.state c.args.src.now)) (ahead c.next_line.new.lines (g.S.Source.state c.next_line.new.src)) c.next_line.new.lines.text c.text.result.now (held c.words_of.result) c.args.lines.now.lines c.next_line.new.lines.number c.in-Err.cause
    c.in_ok-next_line.ensures.found c.text.ensures c.words_of.ensures c.in-Err.ensures.bad e c.next_line.ensures.number)))

pub returns-in-None-clause-line : goal.returns-in-None-clause-line
returns-in-None-clause-line g c =
    let cut : IsCut c.next_line.new.lines.text (held c.words_of.result) = subst (λ t. IsCut t (held c.words_of.result)) c.text.ensures c.words_of.ensures in
    rw c.refused-in-None.ensures (refused_line c.next_line.ensures.line.count (λ s r (own, e). rw own (
    refused_next c.args.site.now r (ahead c.args.lines.now (g.S.Source.state c.args.src.now)) (ahead c.next_line.new.lines (g.S.Source.state c.next_line.new.src)) (Whole c.next_line.new.lines.text) c.args.lines.now.lines c.next_line.new.lines.number Layout c.next_line.ensures.number c.in_ok-next_line.ensures.found
    (no_turbine c.args.site.now r c.next_line.new.lines.text (held c.words_of.result) (verdict_of c.in-Ok.claim) e cut c.in-Ok.ensures.good c.in-None.ensures.none))))
