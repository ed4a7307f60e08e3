use Rattle.std.proofs.Common.{◌∷◌, [], ap, sym, ◌∙◌}
use Rattle.bound_shares.specs.Shares.{leaving_shares}
use Rattle.row_makers.specs.Sums.{SharedArcs}
use Rattle.row_makers.proofs.Leaving.{leaving_one}
use Rattle.row_makers.proofs.sums.Sums.leaving_one.Goals as goal

pub returns : goal.returns
returns c =
    let seen = ap (λ (v : SharedArcs). leaving_shares (c.args.p ∷ []) v.arcs v.shares) c.self.view_is in
    (c.self.invariant.out_is c.args.p c.requires ∙ sym (leaving_one c.self.inside.arcs.now c.self.inside.shares.now c.args.p c.self.invariant.joined)) ∙ seen
