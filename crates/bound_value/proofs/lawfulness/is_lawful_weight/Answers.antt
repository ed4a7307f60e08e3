use Rattle.std.proofs.Common.{pos, ◌<ℤ◌, ap, sym, ◌∙◌, arith, nat_abs}
use Rattle.std.specs.Int.{w128}
use Rattle.std.proofs.lemmas.Int.{ints, to_z-of_z}
use Rattle.bound_value.proofs.LawfulWeights.{negative_equation}
use Rattle.bound_value.proofs.lawfulness.is_lawful_weight.Goals as goal

pub returns-clause-lawful : goal.returns-clause-lawful
returns-clause-lawful c =
    let weight = c.args.weight in
    let read = to_z-of_z w128 weight c.ranges.weight in
    let size = c.unsigned_abs.ensures.value ∙ ap nat_abs read in
    let negative : weight <ℤ pos 0 = omega (arith, ints) in (
      λ t. record {
        listed = omega (arith, c.if-row-len.false, c.len.ensures.count);
        not_zero = λ e. omega (arith, ints, negative, e);
        small = omega (arith, size, c.if-unsigned_abs-gt-MOST_WEIGHT.false);
        sign = λ r e n. absurd (n (sym (c.is_equation.ensures r e) ∙ t));
      },
      negative_equation c.args.pool.now c.args.row weight c.is_equation.result (omega (arith, c.if-row-len.false, c.len.ensures.count)) c.is_equation.ensures negative,
    )
