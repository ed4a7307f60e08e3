use Rattle.std.proofs.Common.{◌≡◌, refl, sym, ◌∙◌, arith}
use Rattle.site_model.proofs.Corners.{Any-inside_same}
use Rattle.site_model.proofs.builder.encloses.Goals as goal

pub returns-clause-answer : goal.returns-clause-answer
returns-clause-answer c =
    let one : c.args.missing ≡ 1 = omega arith in
    let same = c.as_slice.ensures.value ∙ c.push_reserved.ensures.items in (
      λ t. (one, Any-inside_same c.args.points.now c.args.points.now c.as_slice.result.now _ refl same (c.has_inside-inside.ensures.0 t)),
      λ w. c.has_inside-inside.ensures.1 (Any-inside_same c.args.points.now c.args.points.now _ c.as_slice.result.now refl (sym same) w.1),
    )
