use Rattle.std.proofs.Common.{◌≡◌, ◌+ℤ◌, Some, sym, ◌∙◌, subst}
use Rattle.cable_definitions.specs.declared.cable.Arc.{Arc}
use Rattle.cable_rows.specs.Sums.{AreSummed, AreCounts}
use Rattle.cable_rows.proofs.Counting.{counts_added}
use Rattle.cable_rows.proofs.sums.PointSums.counts.Goals as goal

pub returns : goal.returns
returns c = λ ws a e h.
    let arc = c.get-from.result in
    let f = c.get-from.ensures in
    let same : arc ≡ a = (let g : Some arc ≡ Some a = sym f ∙ e in cc) in
    let use_is = c.with.ensures.on_use ∙ (λ i. c.at_ends.ensures.on_use i +ℤ c.weighted_counts.ensures.on_use arc f i) in
    let load_is = c.with.ensures.on_load ∙ (λ i. c.at_ends.ensures.on_load i +ℤ c.weighted_counts.ensures.on_load arc f i) in
    let summed = subst (λ (b : Arc). AreSummed c.args.pool.now ws c.args.self.now c.args.others.now c.args.arc b) (sym same) h in
    let counts = counts_added c.args.site.now c.args.arcs.now c.args.pool.now ws c.args.others.now c.args.self.now c.args.arc arc c.with.result c.points-points.ensures.valid c.requires.arcs f summed use_is load_is in
    subst (λ (b : Arc). AreCounts c.args.pool.now ws c.args.arc b c.with.result) same counts
