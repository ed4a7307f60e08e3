use Rattle.std.proofs.Common.{[], ◌∷◌, ◌++◌, suc, subst}
use Rattle.cable_definitions.specs.Text.{cable_line, Whole}
use Rattle.cable_definitions.specs.Refusal.{CableLine}
use Rattle.cable_text.specs.Lines.{ahead}
use Rattle.line_words.specs.Words.{held, IsCut}
use Rattle.proof_text.specs.Cables.{cables_left}
use Rattle.proof_text.proofs.Streams.{refused_line, goes_one, refused_next, line_given}
use Rattle.proof_text.proofs.Names.{cable_good, cable_of, cable_goes, cable_spelled, cable_bad}
use Rattle.proof_text.proofs.cables.read_cable.Goals as goal

pub returns-in-Ok-clause-reads : goal.returns-in-Ok-clause-reads
returns-in-Ok-clause-reads g c =
    let h = c.in-Ok.ensures.good in (
      CableLine h.a h.b h.t,
      λ r k e f.
          let of = cable_of c.args.site.now r c.args.ordered k c.args.cables.now h.a h.b h.t c.in-Ok.cable e f h.named h.ahead in
          goes_one c.args.site.now r (cables_left c.args.ordered (suc k)) (ahead c.args.lines.now (g.S.Source.state c.args.src.now)) (ahead c.next_line.new.lines (g.S.Source.state c.next_line.new.src)) c.next_line.new.lines.text c.text.result.now (held c.words_of.result) (CableLine h.a h.b h.t)
          (record r { phase = cables_left c.args.ordered k; cables = c.args.cables.now ++ c.in-Ok.cable ∷ [] }) c.in_ok-next_line.ensures.found c.text.ensures c.words_of.ensures
          (cable_good c.args.ordered k (held c.words_of.result) h.a h.b h.t h.words_are) e (c.in-Ok.cable, of) (λ arcs cause n. n)
          (λ arcs. cable_goes c.args.site.now arcs r c.args.ordered k c.args.cables.now h.a h.b h.t c.in-Ok.cable e f of),
    )

pub returns-in-Ok-clause-text : goal.returns-in-Ok-clause-text
returns-in-Ok-clause-text g c =
    let h = c.in-Ok.ensures.good in
    line_given (cables_left c.args.ordered 1) (ahead c.args.lines.now (g.S.Source.state c.args.src.now)) (ahead c.next_line.new.lines (g.S.Source.state c.next_line.new.src)) c.next_line.new.lines.text c.text.result.now (held c.words_of.result) (CableLine h.a h.b h.t) (cable_line c.args.site.now c.in-Ok.cable)
    c.in_ok-next_line.ensures.found c.text.ensures c.words_of.ensures (cable_good c.args.ordered 0 (held c.words_of.result) h.a h.b h.t h.words_are).standing (cable_spelled c.args.site.now h.a h.b h.t c.in-Ok.cable h.named c.in-Ok.ensures.valid.types_count)

pub returns-in-Err-clause-line : goal.returns-in-Err-clause-line
returns-in-Err-clause-line g c =
    let cut : IsCut c.next_line.new.lines.text (held c.words_of.result) = subst (λ t. IsCut t (held c.words_of.result)) c.text.ensures c.words_of.ensures in
    rw c.refused.ensures (refused_line c.next_line.ensures.line.count (λ s r (own, k, e, f). rw own (
    refused_next c.args.site.now r (ahead c.args.lines.now (g.S.Source.state c.args.src.now)) (ahead c.next_line.new.lines (g.S.Source.state c.next_line.new.src)) (Whole c.next_line.new.lines.text) c.args.lines.now.lines c.next_line.new.lines.number c.in-Err.cause c.next_line.ensures.number c.in_ok-next_line.ensures.found
    (cable_bad c.args.site.now r c.args.ordered k c.args.cables.now c.next_line.new.lines.text (held c.words_of.result) c.in-Err.cause e f cut c.in-Err.ensures.bad))))
