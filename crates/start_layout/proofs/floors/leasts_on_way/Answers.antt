use Rattle.std.proofs.Common.{ℕ, ◌≡◌, ◌≢◌, ◌<◌, ◌≤◌, ◌+◌, Some, length, length-set, arith, sym, ◌∙◌, subst}
use Rattle.std.specs.Prelude.{slice_index}
use Rattle.cable_definitions.specs.Walk.{cable_out}
use Rattle.start_layout.specs.Floors.{without, AreLeasts}
use Rattle.cable_definitions.specs.Walk.{load}
use Rattle.start_layout.proofs.Gaining.{way_begins, way_goes_on, end_read, least_set_on_way}
use Rattle.start_layout.proofs.floors.leasts_on_way.Goals as goal

pub loop-step-init : goal.loop-step-init
loop-step-init c =
    let s = c.args.site.now in
    let cables = c.args.cables.now in
    let q = c.args.arc.to in
    record {
      within = c.requires.to;
      room = search;
      way = way_begins s cables c.args.arc.from q c.requires.starts;
      below = subst (λ (p : ℕ). AreLeasts s cables p q c.args.floor.now.leasts) c.requires.start (c.requires.floor.leasts_below q);
    }

pub least_cost-requires-clause-to : goal.least_cost-requires-clause-to
least_cost-requires-clause-to c = end_read c.args.site.now c.args.cables.now c.loop-step.at c.in-Some.cable c.requires.range (sym c.in-Some.ensures)

pub loop-step-preserved : goal.loop-step-preserved
loop-step-preserved c =
    let s = c.args.site.now in
    let cables = c.args.cables.now in
    let floor = c.args.floor.now in
    let p = c.args.arc.from in
    let q = c.args.arc.to in
    let r = c.loop-step.at in
    let leasts = c.loop-step.leasts in
    let before = c.loop-step.invariant in
    let out : cable_out cables r ≡ Some c.in-Some.cable = sym c.in-Some.ensures in
    let elsewhere : r ≢ p = λ e. absurd (omega (arith, e, c.if-at-arc.false)) in
    let room : r < length leasts = omega (arith, before.within, c.requires.valid.points_count, before.room) in
    let sum : c.saturating_add-load.result ≤ slice_index floor.loads r + floor.load = omega (arith, c.saturating_add-load.ensures) in
    let own : slice_index floor.loads r ≤ load s (without p cables) r =
    subst (λ (x : ℕ). slice_index floor.loads r ≤ load s (without x cables) r) c.requires.start (c.requires.floor.loads_below r before.within) in
    let more : floor.load ≤ load s (without p cables) p =
    subst (λ (x : ℕ). floor.load ≤ load s (without x cables) x) c.requires.start c.requires.floor.load_below in
    record {
      within = end_read s cables r c.in-Some.cable c.requires.range out;
      room = length-set leasts r c.least_cost.result ∙ before.room;
      way = way_goes_on s cables p q r c.in-Some.cable out elsewhere before.way;
      below = least_set_on_way s cables p q r c.saturating_add-load.result (slice_index floor.loads r) floor.load c.least_cost.result c.in-Some.cable leasts room before.below out elsewhere
          c.least_cost.ensures c.requires.starts before.way sum own more;
    }
