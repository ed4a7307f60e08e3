use Rattle.std.proofs.Common.{◌∙◌, ◌+◌, ◌<◌, List, max, get_or, length, refl, ap, arith}
use Rattle.cable_definitions.specs.declared.site.CableType.{CableType}
use Rattle.cable_definitions.specs.Arcs.{cost_of, capacity_from}
use Rattle.site_model.specs.Best.{most_cost}
use Rattle.site_model.proofs.Costs.{type_is}
use Rattle.arc_choices.proofs.GreatestCosts.{types_from, types_more, ord_max-nat, max_small}
use Rattle.arc_choices.proofs.greatest.greatest_of_types.Goals as goal

pub cost_along-requires-clause-bears : goal.cost_along-requires-clause-bears
cost_along-requires-clause-bears c =
    let s = c.args.site.now in
    let grade = c.loop-grade.grade in
    let none : CableType = record { capacity = 0; price = 0; loss = 0 } in
    let listed : grade < length s.types = omega (arith, c.loop-grade-test.true, ap (length {A = CableType}) c.types.ensures.value) in
    let read = ap (λ (ts : List CableType). (get_or ts grade none).capacity) c.types-in-loop-grade.ensures.value in
    record { listed = listed; enough = omega (arith, read, ap capacity_from (type_is s s.types grade none refl listed)) }

pub loop-grade-preserved : goal.loop-grade-preserved
loop-grade-preserved c =
    let s = c.args.site.now in
    let a = c.args.arc in
    let grade = c.loop-grade.grade in
    let none : CableType = record { capacity = 0; price = 0; loss = 0 } in
    let listed : grade < length s.types = omega (arith, c.loop-grade-test.true, ap (length {A = CableType}) c.types.ensures.value) in
    let capacity = (get_or s.types grade none).capacity in
    let read = c.cost_along.ensures.cost ∙ ap (λ (ts : List CableType). cost_of s a.from a.to grade (get_or ts grade none).capacity) c.types-in-loop-grade.ensures.value in
    let greater = c.max-most.ensures ∙ (ord_max-nat c.loop-grade.most c.cost_along.result ∙ ap (max c.loop-grade.most) read) in
    record {
      rest = ap (types_from s a (grade + 1)) greater ∙ (types_more s a grade c.loop-grade.most none listed ∙ c.loop-grade.invariant.rest);
      small = max_small c.max-most.result c.loop-grade.most c.cost_along.result most_cost (c.max-most.ensures ∙ ord_max-nat c.loop-grade.most c.cost_along.result) c.loop-grade.invariant.small c.cost_along.ensures.most;
    }
