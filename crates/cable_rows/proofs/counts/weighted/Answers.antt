use Rattle.std.proofs.Common.{◌≡◌, ◌≤◌, ◌*◌, ◌^◌, unsigned_abs, sym, subst, ◌∙◌, arith}
use Rattle.std.specs.Int.{w64}
use Rattle.std.proofs.lemmas.Int.{ints, to_z-of_z}
use Rattle.cable_rows.proofs.Weighing.{product}
use Rattle.cable_rows.proofs.counts.weighted.Goals as goal

pub returns-clause-product : goal.returns-clause-product
returns-clause-product c =
    let count : c.from.result ≡ c.args.count = c.from.ensures ∙ to_z-of_z w64 c.args.count (let h = c.requires.count in omega (arith, ints, h)) in
    (product c.args.weight c.args.count c.from.result count c.requires.weight c.requires.count).0

pub returns-clause-small : goal.returns-clause-small
returns-clause-small c =
    let count : c.from.result ≡ c.args.count = c.from.ensures ∙ to_z-of_z w64 c.args.count (let h = c.requires.count in omega (arith, ints, h)) in
    let p = product c.args.weight c.args.count c.from.result count c.requires.weight c.requires.count in
    subst (λ z. unsigned_abs z ≤ 2 ^ 76 * unsigned_abs c.args.count) (sym p.0) p.1
