use Rattle.std.proofs.Common.{Some, refl, sym, ap, ◌∙◌, arith}
use Rattle.std.proofs.lemmas.Bool.{and_parts}
use Rattle.std.proofs.lemmas.Bool.Decides.{Decides-int_eq}
use Rattle.site_model.proofs.builder.has_place.Goals as goal

pub returns-then-eq : goal.returns-then-eq
returns-then-eq c =
    let same = and_parts _ _ (sym c.eq.ensures ∙ c.if-eq.true) in
    let point = c.point-item.result in
    let x_is = (Decides-int_eq point.at.x c.args.at.x).0 same.0 in
    let y_is = (Decides-int_eq point.at.y c.args.at.y).0 same.1 in
    (λ t. (c.loop-point.point-index, point, omega arith, sym c.point-item.is, record { x_is = ap Some (sym x_is); y_is = ap Some (sym y_is) }), λ a. refl)
