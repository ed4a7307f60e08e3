use Rattle.std.proofs.Common.{inl, inr, sym, subst, arith}
use Rattle.cable_definitions.specs.Site.{IsValid}
use Rattle.site_model.proofs.Ruled.{rule_of-past}
use Rattle.site_model.proofs.Site.rule_of.Goals as goal

pub returns-then-a-gt255 : goal.returns-then-a-gt255
returns-then-a-gt255 c =
    let valid = subst IsValid c.self.view_is c.self.invariant.valid in
    sym (rule_of-past c.args.self.now c.args.a c.args.b valid (inl (omega arith)))

pub returns-then-b-gt255 : goal.returns-then-b-gt255
returns-then-b-gt255 c =
    let valid = subst IsValid c.self.view_is c.self.invariant.valid in
    sym (rule_of-past c.args.self.now c.args.a c.args.b valid (inr (omega arith)))
