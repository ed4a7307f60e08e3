use Rattle.std.proofs.lemmas.Bool.{iff_false}
use Rattle.crossing_index.proofs.Listing.{joins_at, clash_listed, clash_passed, no_arcs_clash}
use Rattle.crossing_index.proofs.scan.clashing_numbers.Goals as goal
use Rattle.crossing_index.proofs.scan.clashing_numbers.Goals.{then-is_clash+in_ok-push, else-is_clash}

pub is_clash-requires-clause-valid : goal.is_clash-requires-clause-valid
is_clash-requires-clause-valid c = c.sides_of-sides.ensures.valid

pub is_clash-requires-clause-first : goal.is_clash-requires-clause-first
is_clash-requires-clause-first c = joins_at c.args.site.now c.args.arcs.now c.args.arc c.get-own.result c.requires.arcs c.get-own.ensures

pub is_clash-requires-clause-second : goal.is_clash-requires-clause-second
is_clash-requires-clause-second c = joins_at c.args.site.now c.args.arcs.now c.loop-number.number c.get.result c.requires.arcs c.get.ensures

pub loop-number-preserved : goal.loop-number-preserved
loop-number-preserved c =
    let s = c.args.site.now in
    let arcs = c.args.arcs.now in
    let n = c.loop-number.number in
    elim c.if-is_clash.branch [
      | then-is_clash+in_ok-push w ↦
          rw (w.numbers-is, w.in_ok-push.ensures.items) (clash_listed s arcs c.args.arc n c.loop-number.numbers.items c.loop-number.invariant
          (record { first = c.get-own.result; second = c.get.result; first_is = c.get-own.ensures; second_is = c.get.ensures; clash = c.is_clash.ensures.0 w.if-is_clash.true }))
      | else-is_clash w ↦
          rw w.numbers-is (clash_passed s arcs c.args.arc n c.loop-number.numbers.items c.loop-number.invariant
          (no_arcs_clash s arcs c.args.arc n c.get-own.result c.get.result c.get-own.ensures c.get.ensures (iff_false c.is_clash.ensures w.if-is_clash.false)))
    ]
