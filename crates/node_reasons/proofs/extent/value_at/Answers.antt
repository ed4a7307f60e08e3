use Rattle.std.proofs.Common.{FitsSigned, arith, ◌∙◌, sym, subst}
use Rattle.std.specs.Int.{w8}
use Rattle.std.proofs.lemmas.Int.{ints, to_z-of_z}
use Rattle.node_reasons.specs.Extents.{IsUpTo}
use Rattle.node_reasons.proofs.RowExtents.{value_is}
use Rattle.node_reasons.proofs.extent.value_at.Goals as goal

pub returns-clause-value : goal.returns-clause-value
returns-clause-value c =
    let u_fits : FitsSigned w8 c.args.counts.0 = omega (arith, ints) in
    let v_fits : FitsSigned w8 c.args.counts.1 = omega (arith, ints) in
    let u : IsUpTo 128 c.args.counts.0 = record { below = omega (arith, ints); above = omega (arith, ints) } in
    let v : IsUpTo 128 c.args.counts.1 = record { below = omega (arith, ints); above = omega (arith, ints) } in
    (value_is c.args.counts.0 c.args.counts.1 c.args.load c.from.result c.from-2.result c.from-3.result (c.from.ensures ∙ to_z-of_z w8 c.args.counts.0 u_fits) (c.from-2.ensures ∙ to_z-of_z w8 c.args.counts.1 v_fits) c.from-3.ensures u v c.requires).0

pub returns-clause-small : goal.returns-clause-small
returns-clause-small c =
    let u_fits : FitsSigned w8 c.args.counts.0 = omega (arith, ints) in
    let v_fits : FitsSigned w8 c.args.counts.1 = omega (arith, ints) in
    let u : IsUpTo 128 c.args.counts.0 = record { below = omega (arith, ints); above = omega (arith, ints) } in
    let v : IsUpTo 128 c.args.counts.1 = record { below = omega (arith, ints); above = omega (arith, ints) } in
    let r = value_is c.args.counts.0 c.args.counts.1 c.args.load c.from.result c.from-2.result c.from-3.result (c.from.ensures ∙ to_z-of_z w8 c.args.counts.0 u_fits) (c.from-2.ensures ∙ to_z-of_z w8 c.args.counts.1 v_fits) c.from-3.ensures u v c.requires in
    subst (IsUpTo 2000000) (sym r.0) r.1
