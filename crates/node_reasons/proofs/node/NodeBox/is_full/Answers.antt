use Rattle.std.proofs.Common.{◌≡◌, ap, subst}
use Rattle.cable_definitions.specs.Site.{Site}
use Rattle.cable_definitions.specs.Layout.{IsLegal, IsFirstBroken, cost}
use Rattle.node_reasons.specs.Node.{NodeParts}
use Rattle.node_reasons.proofs.FullLayouts.{full_at, broken_full}
use Rattle.node_reasons.proofs.node.NodeBox.is_full.Goals as goal

pub returns-in-Legal-clause-full : goal.returns-in-Legal-clause-full
returns-in-Legal-clause-full c =
    let n = c.args.self.now in
    let cables = c.as_slice.result.now in
    let site = ap (λ (p : NodeParts). p.site) c.self.view_is in
    full_at n.site n.arcs n.marks c.in-Some.typed cables c.in-Legal.cost c.in-Some.ensures.typed c.as_slice.ensures.value (subst (λ (s : Site). IsLegal s cables) site c.in-Legal.ensures.0)
    (subst (λ (s : Site). c.in-Legal.cost ≡ cost s cables) site c.in-Legal.ensures.1)

pub returns-in-Broken-clause-none : goal.returns-in-Broken-clause-none
returns-in-Broken-clause-none c =
    let n = c.args.self.now in
    let b = c.in-Broken in
    let cables = c.as_slice.result.now in
    let site = ap (λ (p : NodeParts). p.site) c.self.view_is in
    broken_full n.site n.arcs n.marks c.in-Some.typed cables b.rule b.a b.b c.in-Some.ensures.typed c.as_slice.ensures.value (subst (λ (s : Site). IsFirstBroken s cables b.rule b.a b.b) site b.ensures)
