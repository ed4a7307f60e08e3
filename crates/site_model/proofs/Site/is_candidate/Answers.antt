use Rattle.std.proofs.Common.{◌≤◌, ◌↔◌, List, IsTrue, ◌∙◌, sym, subst, arith}
use Rattle.std.specs.Prelude.{All}
use Rattle.std.proofs.lemmas.Bool.{false≢true}
use Rattle.cable_definitions.specs.declared.place.Place.{Place}
use Rattle.cable_definitions.specs.declared.site.Point.{Point}
use Rattle.cable_definitions.specs.Plane.{edges}
use Rattle.cable_definitions.specs.Arcs.{power_of_kind, largest_capacity}
use Rattle.site_model.specs.Passing.{PassesNone, IsClear}
use Rattle.site_model.proofs.Passed.{denied}
use Rattle.site_model.proofs.Candidates.{candidate_if, candidate_passes, point_is}
use Rattle.site_model.proofs.Site.is_candidate.Goals as goal

pub returns : goal.returns
returns c =
    let s = c.args.self.now in
    let p = c.args.from in
    let q = c.args.to in
    let from = c.index-points-from.result in
    let to = c.index-points-to.result in
    let from_is = point_is s c.points.result.now p from c.points.ensures.value c.requires.from c.index-points-from.is in
    let to_is = point_is s c.points-2.result.now q to c.points-2.ensures.value c.requires.to c.index-points-to.is in
    let largest = c.largest_capacity.ensures.largest in
    let bearable : power_of_kind from.kind ≤ largest_capacity s = omega (arith, largest, c.power.ensures.power, c.if-power-largest_capacity.false) in
    let passes = subst (λ (points : List Point). PassesNone points p q from.at to.at) c.points-3.ensures.value (c.passes_none.ensures.0 c.if-not-passes_none.false) in
    let clear = subst (λ (obstacles : List (List Place)). IsTrue c.is_clear.result ↔ All (λ corners. IsClear from.at to.at (edges corners)) obstacles) c.obstacles.ensures.value c.is_clear.ensures in
    candidate_if s p q from to c.is_clear.result from_is to_is (sym c.is_substation.ensures.substation ∙ c.if-is_substation.false) c.if-from-to.false (denied c.is_closed.result c.is_closed.ensures c.if-is_closed.false) bearable passes clear

pub returns-then-not-passes_none : goal.returns-then-not-passes_none
returns-then-not-passes_none c =
    let from_is = point_is c.args.self.now c.points.result.now c.args.from c.index-points-from.result c.points.ensures.value c.requires.from c.index-points-from.is in
    let to_is = point_is c.args.self.now c.points-2.result.now c.args.to c.index-points-to.result c.points-2.ensures.value c.requires.to c.index-points-to.is in
    let passes = subst (λ (points : List Point). IsTrue c.passes_none.result ↔ PassesNone points c.args.from c.args.to c.index-points-from.result.at c.index-points-to.result.at) c.points-3.ensures.value c.passes_none.ensures in
    (λ e. absurd (false≢true e), λ k. absurd (denied c.passes_none.result passes c.if-not-passes_none.true (candidate_passes c.args.self.now c.args.from c.args.to c.index-points-from.result c.index-points-to.result from_is to_is k)))
