use Rattle.std.proofs.Common.{sym, ◌∙◌, ap, of_z}
use Rattle.std.specs.Int.{w128}
use Rattle.site_json.proofs.Codes.{IsFirstCode-no_version, IsFirstCode-other_version}
use Rattle.site_json.proofs.top.version_of.Goals as goal

pub returns-in_default-clause-code : goal.returns-in_default-clause-code
returns-in_default-clause-code c = IsFirstCode-no_version _ (sym c.whole_at.ensures ∙ c.in_default.is)

pub returns-then-number-ne1-clause-code : goal.returns-then-number-ne1-clause-code
returns-then-number-ne1-clause-code c = IsFirstCode-other_version _ c.in-Some.number (sym c.in-Some.ensures) (λ e. c.if-number-ne1.true (ap (of_z w128) e))
