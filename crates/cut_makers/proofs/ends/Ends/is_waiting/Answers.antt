use Rattle.std.proofs.Common.{◌∙◌, sym, ap}
use Rattle.cable_definitions.specs.Arcs.{is_turbine}
use Rattle.cut_makers.proofs.Endings.{kind_there}
use Rattle.cut_makers.proofs.ends.Ends.is_waiting.Goals as goal

pub returns : goal.returns
returns c =
    let same = ap is_turbine (kind_there c.args.site.now c.points-points.result.now c.args.p c.index-points-p.result c.points-points.ensures.value c.requires) in (
      λ t. record { point = c.requires; turbine = same ∙ sym c.is_turbine.ensures.turbine ∙ t; no_end = sym c.has.ensures ∙ c.if-has.false },
      λ waiting. c.is_turbine.ensures.turbine ∙ sym same ∙ waiting.turbine,
    )
