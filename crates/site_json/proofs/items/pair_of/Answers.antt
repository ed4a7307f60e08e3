use Rattle.std.proofs.Common.{sym, ◌∙◌}
use Rattle.serde_json.specs.View.{view}
use Rattle.site_json.proofs.Misshapen.{at_none, misshapen_charge}
use Rattle.site_json.proofs.items.pair_of.Goals as goal

pub returns-in_err-charge : goal.returns-in_err-charge
returns-in_err-charge c =
    at_none _ _ _ c.from_residual-in_err-charge.ensures
    (misshapen_charge (view c.args.member.now) (sym c.has_exactly.ensures ∙ c.if-has_exactly.true) (sym c.whole_at.ensures ∙ c.in_err-charge.was))
