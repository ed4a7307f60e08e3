use Rattle.std.proofs.Common.{subst, sym, ◌≡◌, ◌+◌, ℕ}
use Rattle.cable_definitions.specs.Arcs.{IsCheapest, Bears, cost_of}
use Rattle.site_model.specs.Best.{IsLeastOutBelow}
use Rattle.site_model.proofs.Passed.{denied}
use Rattle.layout_laws.proofs.Straightest.{arc-borne}
use Rattle.site_model.proofs.Nearest.{no_arc, one_more_arc}
use Rattle.site_model.proofs.Site.lesser_of_ends.Goals as goal

pub returns-then-not-is_candidate : goal.returns-then-not-is_candidate
returns-then-not-is_candidate c =
    let s = c.args.self.now in
    no_arc s c.args.p c.args.q c.args.least (denied c.is_candidate.result c.is_candidate.ensures c.if-not-is_candidate.true) c.requires.least

pub returns-in-None : goal.returns-in-None
returns-in-None c =
    let s = c.args.self.now in
    let b = arc-borne s c.args.p c.args.q c.requires.valid.some_types (c.is_candidate.ensures.0 c.if-not-is_candidate.false) in
    absurd (c.in-None.ensures.none b.0 (subst (Bears s b.0) (sym c.requires.power) b.1))

pub returns-in-Some : goal.returns-in-Some
returns-in-Some c =
    let s = c.args.self.now in
    let a = c.args in
    let grade = c.in-Some.field-0-0 in
    let cheapest = subst (λ (load : ℕ). IsCheapest s a.p a.q load grade) c.requires.power c.in-Some.ensures.grade in
    let cost = subst (λ (load : ℕ). c.in-Some.cost ≡ cost_of s a.p a.q grade load) c.requires.power c.in-Some.ensures.cost in
    let more = one_more_arc s a.p a.q grade c.in-Some.cost a.least (c.is_candidate.ensures.0 c.if-not-is_candidate.false) cheapest cost c.requires.least in
    subst (IsLeastOutBelow s a.p (a.q + 1)) (sym c.lesser.ensures) more
