use Rattle.std.proofs.Common.{◌≡◌, ◌≢◌, ◌<◌, ◌≤◌, Some, length, length-set, arith, sym, ap, ◌∙◌, subst}
use Rattle.cable_definitions.specs.Walk.{cable_out, load}
use Rattle.layout_meaning.specs.Partial.{SitePart}
use Rattle.start_layout.specs.Floors.{without, AreLeasts}
use Rattle.start_layout.proofs.Gaining.{end_read, leasts_zero, least_set_without}
use Rattle.start_layout.proofs.floors.least_costs.Goals as goal
use Rattle.start_layout.proofs.floors.least_costs.Goals.{then-p-start+in-Some, then-p-start+in_default, else-p-start}

pub loop-p-init : goal.loop-p-init
loop-p-init c = record {
  room = omega arith;
  below = λ q. leasts_zero c.args.site.now c.args.cables.now c.args.start q;
}

pub least_cost-requires-clause-to : goal.least_cost-requires-clause-to
least_cost-requires-clause-to c = end_read c.args.site.now c.args.cables.now c.loop-p.p c.in-Some.cable c.requires.range (sym c.in-Some.ensures)

pub loop-p-preserved : goal.loop-p-preserved
loop-p-preserved c =
    let s = c.args.site.now in
    let cables = c.args.cables.now in
    let p = c.args.start in
    let r = c.loop-p.p in
    let leasts = c.loop-p.leasts in
    let before = c.loop-p.invariant in
    elim c.if-p-start.branch [
      | then-p-start+in-Some w ↦ (
          let within : r < length s.points = omega (arith, ap length c.points.ensures.value, c.loop-p-test.true) in
          let room : r < length leasts = omega (arith, within, c.points.ensures.valid.points_count, before.room) in
          let low : w.load.result ≤ load s (without p cables) r = omega (arith, w.load.ensures.value, ap (λ (f : SitePart). load f.site f.cables r) c.requires.others) in
          let elsewhere : r ≢ p = λ e. absurd (omega (arith, e, w.if-p-start.true)) in
          let out : cable_out cables r ≡ Some w.in-Some.cable = sym w.in-Some.ensures in
          record {
            room = ap length w.leasts-is ∙ length-set leasts r w.least_cost.result ∙ before.room;
            below = λ q. subst (AreLeasts s cables p q) (sym w.leasts-is)
                (least_set_without s cables p q r w.load.result w.least_cost.result w.in-Some.cable leasts room (before.below q) out elsewhere w.least_cost.ensures low);
          })
      | then-p-start+in_default w ↦ record { room = ap length w.leasts-is ∙ before.room; below = λ q. subst (AreLeasts s cables p q) (sym w.leasts-is) (before.below q) }
      | else-p-start w ↦ record { room = ap length w.leasts-is ∙ before.room; below = λ q. subst (AreLeasts s cables p q) (sym w.leasts-is) (before.below q) }
    ]
