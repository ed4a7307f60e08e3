use Rattle.std.proofs.Common.{◌<◌, length, get_or, cond, Bool, arith, ap, sym, ◌∙◌}
use Rattle.std.proofs.lemmas.Option.{slice_get-get_or}
use Rattle.cable_definitions.specs.Arcs.{is_substation}
use Rattle.row_makers.specs.Sums.{ends_in_substation}
use Rattle.row_makers.proofs.Upto.{sum_upto-more, sum_upto-all}
use Rattle.row_makers.proofs.sums.sum_into_substations.Goals as goal
use Rattle.row_makers.proofs.sums.sum_into_substations.Goals.{then-is_substation, else-is_substation}

pub loop-a-preserved : goal.loop-a-preserved
loop-a-preserved c =
    let shares = c.args.shares.now in
    let a = c.loop-a.a in
    let arc = c.get.result in
    let test = ends_in_substation c.args.site.now in
    let inside : a < length shares = omega (arith, c.requires, c.loop-a-test.true, c.len-a-end.ensures.count) in
    elim c.if-is_substation.branch [
      | then-is_substation w ↦
          let u = w.get-then-is_substation.result in
          let more = sum_upto-more test c.args.arcs.now shares a arc u c.get.ensures w.get-then-is_substation.ensures.share in
          let one = ap (λ (b : Bool). cond b u 0) (ap is_substation (sym c.kind.ensures.kind) ∙ sym c.is_substation.ensures.substation ∙ w.if-is_substation.true) in
          record {
            total_is = omega (arith, w.total-is, w.from-total.ensures, more, one, c.loop-a.invariant.total_is);
            small = omega (arith, w.total-is, w.from-total.ensures, w.get-then-is_substation.ensures.most, c.loop-a.invariant.small);
          }
      | else-is_substation w ↦
          let more = sum_upto-more test c.args.arcs.now shares a arc (get_or shares a 0) c.get.ensures (slice_get-get_or shares a 0 inside) in
          let none = ap (λ (b : Bool). cond b (get_or shares a 0) 0) (ap is_substation (sym c.kind.ensures.kind) ∙ sym c.is_substation.ensures.substation ∙ w.if-is_substation.false) in
          record {
            total_is = omega (arith, w.total-is, more, none, c.loop-a.invariant.total_is);
            small = omega (arith, w.total-is, c.loop-a.invariant.small);
          }
    ]

pub returns : goal.returns
returns c = c.loop-a.invariant.total_is ∙ sum_upto-all (ends_in_substation c.args.site.now) c.args.arcs.now c.args.shares.now c.loop-a.a c.requires (omega (arith, c.loop-a-test.false, c.len-a-end.ensures.count))
