use Rattle.std.proofs.Common.{pos, FitsSigned, refl, rules, arith}
use Rattle.std.specs.Int.{w128}
use Rattle.cable_definitions.specs.Items.{kind_fields}
use Rattle.site_model.specs.declared.raw.RawKind.TheVariants.{Turbine, Substation}
use Rattle.site_model.specs.Building.{kind_item}
use Rattle.site_model.proofs.Ranges.{All-IsWithin-not}
use Rattle.site_model.proofs.raw.kind_of.Goals as goal

pub returns-in_err-power-in-Turbine : goal.returns-in_err-power-in-Turbine
returns-in_err-power-in-Turbine c =
    let power = c.in-Turbine.power in
    let fits : FitsSigned w128 power = search rules in
    rw (c.from_residual.ensures, c.in-Turbine.is)
    (All-IsWithin-not (kind_fields (kind_item (Turbine power))) 0 power (pos 1) (pos 1000) (omega arith) refl fits c.in_err-power-in-Turbine.ensures)

pub returns-in_err-feeders-in-Substation : goal.returns-in_err-feeders-in-Substation
returns-in_err-feeders-in-Substation c =
    let fits : FitsSigned w128 c.in-Substation.feeders = search rules in
    rw (c.from_residual-in_err-feeders-in-Substation.ensures, c.in-Substation.is)
    (All-IsWithin-not (kind_fields (kind_item (Substation c.in-Substation.feeders c.in-Substation.power))) 0 c.in-Substation.feeders (pos 0) (pos 256) (omega arith) refl fits c.in_err-feeders-in-Substation.ensures)

pub returns-in_err-power-in-Substation : goal.returns-in_err-power-in-Substation
returns-in_err-power-in-Substation c =
    let fits : FitsSigned w128 c.in-Substation.power = search rules in
    rw (c.from_residual-in_err-power-in-Substation.ensures, c.in-Substation.is)
    (All-IsWithin-not (kind_fields (kind_item (Substation c.in-Substation.feeders c.in-Substation.power))) 1 c.in-Substation.power (pos 0) (pos 300000) (omega arith) refl fits c.in_err-power-in-Substation.ensures)
