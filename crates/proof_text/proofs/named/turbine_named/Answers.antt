use Rattle.std.proofs.Common.{sym, ap, ◌∙◌}
use Rattle.std.proofs.lemmas.Bool.{false≢true}
use Rattle.cable_definitions.specs.Arcs.{is_turbine}
use Rattle.proof_text.proofs.Names.{no_point, no_turbine_named}
use Rattle.proof_text.proofs.named.turbine_named.Goals as goal

pub returns-in_default-clause-none : goal.returns-in_default-clause-none
returns-in_default-clause-none c = λ p turbine. no_point c.args.site.now c.args.name.now p c.in_default.ensures.none turbine

pub returns-clause-none : goal.returns-clause-none
returns-clause-none c =
    let h = c.in-Some.ensures.some in
    λ q turbine.
    no_turbine_named c.args.site.now c.args.name.now c.in-Some.number q c.number_of.ensures.valid.names_differ h.0 h.1 (λ t. false≢true (sym c.if-is_turbine.false ∙ c.is_turbine.ensures.turbine ∙ ap is_turbine c.kind.ensures.kind ∙ t)) turbine
