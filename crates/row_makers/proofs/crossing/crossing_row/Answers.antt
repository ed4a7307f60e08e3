use Rattle.std.proofs.Common.{◌≡◌, ℕ, slice_get, Some, arith, below_more, subst, sym}
use Rattle.std.proofs.lemmas.Option.{get_or_from_slice_get}
use Rattle.row_makers.specs.Rivals.{AreShared, HasNoRival}
use Rattle.row_makers.proofs.Rivals.{no_rivals, of_none}
use Rattle.row_makers.proofs.crossing.crossing_row.Goals as goal

pub loop-a-preserved : goal.loop-a-preserved
loop-a-preserved c =
    let s = c.args.site.now in
    let arcs = c.args.arcs.now in
    let shares = c.args.shares.now in
    let items = c.as_slice-a-items.result.now in
    λ k a h.
    below_more (λ (n : ℕ). slice_get items n ≡ Some a → HasNoRival s arcs shares a) c.loop-a.a-index (λ n l. c.loop-a.invariant n a l)
    (λ e. subst (HasNoRival s arcs shares) (get_or_from_slice_get items c.loop-a.a-index a 0 e) (of_none _ _ c.in_default.is c.rival_of.ensures.none)) k h

pub returns-clause-none : goal.returns-clause-none
returns-clause-none c =
    no_rivals c.args.site.now c.args.arcs.now c.args.shares.now c.as_slice-a-items.result.now
    (subst (AreShared c.args.shares.now) (sym c.as_slice-a-items.ensures.value) c.in_ok-shared.ensures) (λ k a h e. c.loop-a.invariant k a (omega (arith, h, c.loop-a-test.false)) e)
