use Rattle.std.proofs.Common.{◌≡◌, ℕ, subst}
use Rattle.cable_definitions.specs.Arcs.{IsCheapest, cost_of}
use Rattle.start_layout.proofs.Straightening.{least_to}
use Rattle.start_layout.proofs.straight.cable_to.Goals as goal

pub returns-in-Some : goal.returns-in-Some
returns-in-Some c =
    let s = c.args.site.now in
    let p = c.args.from in
    let q = c.args.to in
    let grade = c.in-Some.grade in
    let power = c.power-power.ensures.power in
    least_to s p q grade c.in-Some.cost (c.is_arc.ensures.0 c.if-not-is_arc.false) (cc)
    (subst (λ (x : ℕ). IsCheapest s p q x grade) power c.in-Some.ensures.grade)
    (subst (λ (x : ℕ). c.in-Some.cost ≡ cost_of s p q grade x) power c.in-Some.ensures.cost)
