use Rattle.std.proofs.Common.{◌≢◌, ◌≤◌, ◌+◌, get_or, arith, sym, subst}
use Rattle.std.specs.Prelude.{slice_index}
use Rattle.cable_definitions.specs.declared.cable.Cable.{Cable}
use Rattle.std.proofs.lemmas.Option.{slice_get-get_or}
use Rattle.layout_meaning.proofs.LoadSums.{start_below}
use Rattle.start_layout.specs.Floors.{AreOthersAbove}
use Rattle.start_layout.proofs.Cutting.{others_kept, others_added}
use Rattle.start_layout.proofs.floors.others_cost.Goals as goal
use Rattle.start_layout.proofs.floors.others_cost.Goals.{then-cable-start, else-cable-start}

-- a cable of numbers 0, for places past the list
abbrev no_cable : Cable
no_cable = record { from = 0; to = 0; grade = 0 }

pub bounds-leasts-cable : goal.bounds-leasts-cable
bounds-leasts-cable c = start_below c.args.site.now c.args.cables.now c.loop-cable.cable-index _ c.requires.valid c.requires.range (slice_get-get_or c.args.cables.now c.loop-cable.cable-index no_cable c.loop-cable-test.true)

pub loop-cable-preserved : goal.loop-cable-preserved
loop-cable-preserved c = λ q below.
    let s = c.args.site.now in
    let cables = c.args.cables.now in
    let p = c.args.start in
    let i = c.loop-cable.cable-index in
    let base = c.loop-cable.total in
    let here : Cable = get_or cables i no_cable in
    let e = slice_get-get_or cables i no_cable c.loop-cable-test.true in
    elim c.if-cable-start.branch [
      | then-cable-start w ↦ (
          let elsewhere : here.from ≢ p = λ g. absurd (omega (arith, g, w.if-cable-start.true)) in
          let within : c.if-cable-start.total ≤ base + slice_index c.args.leasts.now here.from = omega (arith, w.saturating_add-total.ensures, w.total-is) in
          others_added s cables p q i base c.if-cable-start.total c.args.leasts.now here e (c.loop-cable.invariant q below) elsewhere below within)
      | else-cable-start w ↦ subst (AreOthersAbove s cables p q (i + 1)) (sym w.total-is) (others_kept s cables p q i base here e (c.loop-cable.invariant q below))
    ]
