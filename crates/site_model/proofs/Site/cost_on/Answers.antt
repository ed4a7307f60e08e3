use Rattle.std.proofs.Common.{get_or, ◌∙◌}
use Rattle.cable_definitions.specs.declared.site.CableType.{CableType}
use Rattle.site_model.proofs.Costs.{type_at, type_is}
use Rattle.site_model.proofs.Measuring.{measured_short, measured_cheap, cost_on_is}
use Rattle.site_model.proofs.Site.cost_on.Goals as goal

pub cable_cost-requires : goal.cable_cost-requires
cable_cost-requires c =
    let s = c.args.self.now in
    let t = type_at s c.args.grade _ c.types.ensures.valid (type_is s c.types.result.now c.args.grade _ c.types.ensures.value c.requires.grade) in
    record {
      metres = measured_short s c.args.arc c.requires.arc;
      price = t.price;
      loss = t.loss;
      load = c.requires.load;
      charge = measured_cheap s c.args.arc c.types.ensures.valid c.requires.arc;
    }

pub returns : goal.returns
returns c =
    let s = c.args.self.now in
    let none : CableType = record { capacity = 0; price = 0; loss = 0 } in
    let t = get_or c.types.result.now c.args.grade none in
    c.cable_cost.ensures ∙ cost_on_is s c.args.arc c.args.grade c.args.load t c.requires.arc (type_is s c.types.result.now c.args.grade none c.types.ensures.value c.requires.grade)
