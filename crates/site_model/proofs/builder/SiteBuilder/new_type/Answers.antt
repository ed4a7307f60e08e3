use Rattle.std.proofs.Common.{FitsSigned, length, arith, sym, ap, ◌∙◌, rules}
use Rattle.std.specs.Int.{w128}
use Rattle.cable_definitions.specs.Items.{Draft}
use Rattle.site_model.proofs.Types.{IsFirstCode-type}
use Rattle.site_model.proofs.Building.{IsFirstCode-ninth_type, IsGood-type_read}
use Rattle.site_model.proofs.builder.SiteBuilder.new_type.Goals as goal

pub returns-in_default-type_of-clause-code : goal.returns-in_default-type_of-clause-code
returns-in_default-type_of-clause-code c =
    let loss = c.in-Some.loss in
    let fits : FitsSigned w128 loss = search rules in
    let stands = sym c.takes_types.ensures ∙ c.if-not-takes_types.false in
    let same = ap (λ (d : Draft). d.site.version) c.self.view_is in
    IsFirstCode-type c.args.self.now c.self.inside.version c.args.capacity c.args.price c.args.loss loss same (c.in-Some.ensures c.args.capacity c.args.price) stands
    c.ranges.capacity c.ranges.price fits c.in_default-type_of.ensures

pub returns-then-len-ge8-clause-code : goal.returns-then-len-ge8-clause-code
returns-then-len-ge8-clause-code c =
    let fits : FitsSigned w128 c.in-Some.loss = search rules in
    let count = ap (λ (d : Draft). length d.site.types) c.self.view_is in
    IsFirstCode-ninth_type c.args.self.now c.self.inside.version c.args.capacity c.args.price c.args.loss c.in-Some.loss c.in-Some-type_of.cable_type (ap (λ (d : Draft). d.site.version) c.self.view_is)
    (c.in-Some.ensures c.args.capacity c.args.price) (sym c.takes_types.ensures ∙ c.if-not-takes_types.false) c.ranges.capacity c.ranges.price fits c.in-Some-type_of.ensures (omega (arith, count, c.len.ensures, c.self.inside.types.ok.0))

pub returns-clause-good : goal.returns-clause-good
returns-clause-good c =
    let fits : FitsSigned w128 c.in-Some.loss = search rules in
    let count = ap (λ (d : Draft). length d.site.types) c.self.view_is in
    IsGood-type_read c.args.self.now c.self.inside.version c.args.capacity c.args.price c.args.loss c.in-Some.loss c.in-Some-type_of.cable_type (ap (λ (d : Draft). d.site.version) c.self.view_is)
    (c.in-Some.ensures c.args.capacity c.args.price) (sym c.takes_types.ensures ∙ c.if-not-takes_types.false) c.ranges.capacity c.ranges.price fits c.in-Some-type_of.ensures (omega (arith, count, c.len.ensures, c.self.inside.types.ok.0))
