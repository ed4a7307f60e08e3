use Rattle.std.proofs.Common.{arith, ap, sym, ◌∙◌, ◌≡◌, ◌<◌, ◌+◌, ℕ, List, cond, length}
use Rattle.std.proofs.lemmas.List.{get_or-replicate}
use Rattle.std.specs.Prelude.{slice_index}
use Rattle.cable_definitions.specs.Walk.{passes}
use Rattle.cable_definitions.specs.Arcs.{power_of}
use Rattle.layout_meaning.proofs.LoadSums.{load_with, load_unmoved, added_small}
use Rattle.layout_meaning.proofs.flows.all_loads.Goals as goal
use Rattle.layout_meaning.proofs.flows.all_loads.Goals.{then-power-gt0, else-power-gt0}

pub loop-t-init : goal.loop-t-init
loop-t-init c = record {
  room = omega arith;
  at = λ p h. get_or-replicate {A = ℕ} 256 p 0 0 h;
  bound = λ p h. omega (arith, get_or-replicate {A = ℕ} 256 p 0 0 h);
}

pub loop-t-preserved : goal.loop-t-preserved
loop-t-preserved c =
    let s = c.args.site.now in
    let cables = c.args.cables.now in
    let t = c.loop-t.t in
    let e = ap length c.points.ensures.value in
    let within : t < length s.points = omega (arith, e) in
    let before = c.loop-t.invariant in
    elim c.if-power-gt0.branch [
      | then-power-gt0 w ↦
          let added : (p : ℕ) → p < 256 → slice_index c.if-power-gt0.loads p ≡ slice_index c.loop-t.loads p + cond (passes cables p t) (power_of s t) 0
          = λ p h. ap (λ (loads : List ℕ). slice_index loads p) w.loads-is ∙ w.add_along.ensures p h
          ∙ ap (λ (power : ℕ). slice_index c.loop-t.loads p + cond (passes cables p t) power 0) c.power-power.ensures.power in
          record {
            room = ap length w.loads-is ∙ w.add_along.array_long;
            at = λ p h. added p h ∙ omega (arith, before.at p h, load_with s cables p t within);
            bound = λ p h. omega (arith, added p h, added_small (passes cables p t) (power_of s t), c.power-power.ensures.power, c.power-power.ensures.most, before.bound p h);
          }
      | else-power-gt0 w ↦
          let none : power_of s t ≡ 0 = omega (arith, c.power-power.ensures.power, w.if-power-gt0.false) in
          record {
            room = ap length w.loads-is ∙ before.room;
            at = λ p h. ap (λ (loads : List ℕ). slice_index loads p) w.loads-is ∙ before.at p h ∙ sym (load_unmoved s cables p t within none);
            bound = λ p h. omega (arith, ap (λ (loads : List ℕ). slice_index loads p) w.loads-is, before.bound p h);
          }
    ]
