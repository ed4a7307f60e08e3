use Rattle.std.proofs.Common.{ap, sym, ◌∙◌, subst}
use Rattle.cable_definitions.specs.Arcs.{AreArcs}
use Rattle.bound_shares.specs.Shares.{leaving_shares}
use Rattle.row_makers.specs.Sums.{SharedArcs}
use Rattle.row_makers.specs.Tried.{turbines_and_bends}
use Rattle.row_makers.proofs.Whole.{leaving_all}
use Rattle.row_makers.proofs.sums.Sums.leaving_all.Goals as goal

pub returns : goal.returns
returns c =
    let s = c.args.site.now in
    let are = subst (λ (v : SharedArcs). AreArcs s v.arcs) (sym c.self.view_is) c.requires in
    let seen = ap (λ (v : SharedArcs). leaving_shares (turbines_and_bends s) v.arcs v.shares) c.self.view_is in
    (c.sum_into_substations.ensures ∙ sym (leaving_all s c.self.inside.arcs.now c.self.inside.shares.now are)) ∙ seen
