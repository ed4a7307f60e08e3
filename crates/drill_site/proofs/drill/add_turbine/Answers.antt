use Rattle.std.proofs.Common.{◌/◌, ◌%◌, arith, sym, ◌∙◌, subst}
use Rattle.cable_definitions.specs.Drill.{draw}
use Rattle.cable_definitions.specs.Naming.{IsName}
use Rattle.drill_site.proofs.Drawing.{first_length, apart_next, square_passed}
use Rattle.drill_site.proofs.Apart.{IsName-turbine, draw-small}
use Rattle.drill_site.proofs.drill.add_turbine.Goals as goal

pub add_point-requires-clause-few : goal.add_point-requires-clause-few
add_point-requires-clause-few c = let first = c.requires.first in let l = first_length first.0 c.args.number c.args.state.now c.args.builder.now.site.points first.1 in omega (arith, l)

pub add_point-requires-clause-named : goal.add_point-requires-clause-named
add_point-requires-clause-named c = subst IsName (sym (c.as_bytes.ensures.value ∙ c.in_ok-name.ensures.ok)) (IsName-turbine c.args.number c.requires.few)

pub add_point-requires-clause-apart : goal.add_point-requires-clause-apart
add_point-requires-clause-apart c =
    let i = c.args.number in
    let a = draw 401 c.args.state.now in
    let b = draw 401 c.draw.new.state in
    apart_next i c.args.state.now a b c.as_bytes.result.now _ _ c.args.builder.now.site.points c.requires.few (draw-small c.args.state.now) (draw-small c.draw.new.state) (c.as_bytes.ensures.value ∙ c.in_ok-name.ensures.ok)
    (square_passed c.from.result c.draw.result (i % 10) a c.from.ensures c.draw.ensures.answer (omega arith) (draw-small c.args.state.now))
    (square_passed c.from-2.result c.draw-2.result (i / 10) b c.from-2.ensures c.draw-2.ensures.answer (omega arith) (draw-small c.draw.new.state)) c.requires.first
