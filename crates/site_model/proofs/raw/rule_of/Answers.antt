use Rattle.std.proofs.Common.{Some, pos, FitsSigned, refl, rules, arith}
use Rattle.std.specs.Int.{w128}
use Rattle.cable_definitions.specs.Items.{rule_fields}
use Rattle.site_model.specs.Building.{rule_item}
use Rattle.site_model.proofs.Ranges.{All-IsWithin-not}
use Rattle.site_model.proofs.raw.rule_of.Goals as goal

pub returns-in_err-amount-in-Some : goal.returns-in_err-amount-in-Some
returns-in_err-amount-in-Some c =
    let amount = c.in-Some.amount in
    let fits : FitsSigned w128 amount = search rules in
    rw (c.from_residual.ensures, c.in-Some.is)
    (All-IsWithin-not (rule_fields (rule_item (Some amount))) 0 amount (pos 0) (pos 1000000000000) (omega arith) refl fits c.in_err-amount-in-Some.ensures)
