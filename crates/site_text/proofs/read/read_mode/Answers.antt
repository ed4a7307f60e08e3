use Rattle.std.proofs.Common.{◌≡◌, ℕ, Bool, false, Err, ap, sym, ◌∙◌}
use Rattle.std.proofs.lemmas.Result.{err_from_is_err_and}
use Rattle.cable_definitions.specs.declared.site.SiteCode.{SiteCode}
use Rattle.cable_text.specs.Lines.{ahead}
use Rattle.site_model.specs.declared.fault.SiteFault.TheVariants.{Refused}
use Rattle.site_text.specs.Reading.{versioned, Faults}
use Rattle.site_text.proofs.NextLine.{fault_parts, text_fault}
use Rattle.site_text.proofs.read.read_mode.Goals as goal

pub returns-in_err-next_text-clause-refused : goal.returns-in_err-next_text-clause-refused
returns-in_err-next_text-clause-refused g c = λ code place broken is.
    let p = err_from_is_err_and c.from_residual.result c.from_residual.ensures.1 in
    let f : p.0 ≡ Refused code place broken = cc (p.1, is) in
    c.in_err-next_text.ensures.refused code place broken (ap Err (sym p.2 ∙ f)) (versioned c.args.version)

pub returns-in-Err-clause-refused : goal.returns-in-Err-clause-refused
returns-in-Err-clause-refused g c = λ code place broken is.
    let before = ahead c.args.lines.now (g.S.Source.state c.args.src.now) in
    let after = ahead c.next_text.new.lines (g.S.Source.state c.next_text.new.src) in
    let P : SiteCode → ℕ → Bool → Type 0 = λ x y z. Faults (versioned c.args.version) before c.args.lines.now.lines x y z in
    fault_parts P c.refused.result c.in-Err.code code c.number.result place false broken c.refused.ensures is
    (text_fault (versioned c.args.version) before after c.args.lines.now c.next_text.new.lines c.text.result.now c.in-Err.code c.number.result c.in_ok-next_text.ensures.reads c.text.ensures c.in-Err.ensures.code c.number.ensures)
