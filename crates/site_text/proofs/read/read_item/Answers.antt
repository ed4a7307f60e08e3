use Rattle.std.proofs.Common.{◌≡◌, ℕ, Bool, Err, ap, sym, ◌∙◌}
use Rattle.std.proofs.lemmas.Result.{err_from_is_err_and}
use Rattle.cable_definitions.specs.declared.site.SiteCode.{SiteCode}
use Rattle.cable_text.specs.Lines.{ahead}
use Rattle.site_model.specs.declared.fault.SiteFault.TheVariants.{Refused}
use Rattle.site_text.specs.Reading.{Faults}
use Rattle.site_text.proofs.NextLine.{build_fault, text_fault}
use Rattle.site_text.proofs.read.read_item.Goals as goal

pub returns-in_err-next_text-clause-refused : goal.returns-in_err-next_text-clause-refused
returns-in_err-next_text-clause-refused g c = λ code place broken is.
    let p = err_from_is_err_and c.from_residual.result c.from_residual.ensures.1 in
    let f : p.0 ≡ Refused code place broken = cc (p.1, is) in
    c.in_err-next_text.ensures.refused code place broken (ap Err (sym p.2 ∙ f)) c.args.builder.now

pub returns-in-Err-clause-refused : goal.returns-in-Err-clause-refused
returns-in-Err-clause-refused g c =
    let d = c.args.builder.now in
    let before = ahead c.args.lines.now (g.S.Source.state c.args.src.now) in
    let after = ahead c.next_text.new.lines (g.S.Source.state c.next_text.new.src) in
    let P : SiteCode → ℕ → Bool → Type 0 = λ x y z. Faults d before c.args.lines.now.lines x y z in
    build_fault P c.in-Err.fault c.number.result c.fault_of.result c.fault_of.ensures
    (λ code e. text_fault d before after c.args.lines.now c.next_text.new.lines c.text.result.now code c.number.result c.in_ok-next_text.ensures.reads c.text.ensures (c.in-Err.ensures.refused code (ap Err e)) c.number.ensures)
