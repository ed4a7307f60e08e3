use Rattle.std.proofs.Common.{subst, sym, ◌+◌, List, ℕ}
use Rattle.std.proofs.lemmas.Bool.{iff_false}
use Rattle.cable_definitions.specs.declared.cable.Arc.{Arc}
use Rattle.cable_definitions.specs.Arcs.{IsCandidate}
use Rattle.candidate_cables.specs.Listing.{IsArc, AreArcsBefore}
use Rattle.candidate_cables.proofs.Candidates.{arc_listed, arc_passed}
use Rattle.candidate_cables.proofs.listing.list_arc.Goals as goal

pub returns-in_ok-push : goal.returns-in_ok-push
returns-in_ok-push c =
    let a = c.args in
    let arc = c.arc_between.result in
    let from = c.arc_between.ensures.start in
    let to = c.arc_between.ensures.end in
    let candidate = subst (λ (p : ℕ). IsCandidate a.site.now p arc.to) (sym from) (subst (λ (q : ℕ). IsCandidate a.site.now a.from q) (sym to) (c.is_candidate.ensures.0 c.if-is_candidate.true)) in
    let is_arc : IsArc a.site.now arc = record { candidate = candidate; metres = c.arc_between.ensures.measured.metres; charged = c.arc_between.ensures.measured.charged } in
    subst (λ (arcs : List Arc). AreArcsBefore a.site.now a.from (a.to + 1) arcs) (sym c.in_ok-push.ensures.items)
    (arc_listed a.site.now a.from a.to a.arcs.now.items c.arc_between.result c.requires.before is_arc c.arc_between.ensures.start c.arc_between.ensures.end)

pub returns-else-is_candidate : goal.returns-else-is_candidate
returns-else-is_candidate c =
    let a = c.args in
    arc_passed a.site.now a.from a.to a.arcs.now.items c.requires.before (iff_false c.is_candidate.ensures c.if-is_candidate.false)
