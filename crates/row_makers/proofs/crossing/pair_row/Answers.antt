use Rattle.std.proofs.Common.{◌≡◌, ◌∷◌, [], subst}
use Rattle.std.specs.Prelude.{IfOk}
use Rattle.row_makers.proofs.Rivals.{pair-violated, made-ok}
use Rattle.row_makers.proofs.crossing.pair_row.Goals as goal

pub returns : goal.returns
returns c =
    let is = pair-violated c.args.site.now c.args.arcs.now c.args.shares.now c.args.a c.args.b c.points-points.ensures.valid c.requires.arcs c.requires.order c.requires.rivals in
    made-ok c.args.site.now c.args.arcs.now c.args.shares.now (c.args.a ∷ c.args.b ∷ []) c.new.result is c.new.ensures.kind
    (subst (λ ms. IfOk c.new.result (λ row. row.members ≡ ms)) c.as_slice.ensures c.new.ensures.members)
