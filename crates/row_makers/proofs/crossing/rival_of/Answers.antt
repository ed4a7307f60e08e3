use Rattle.std.proofs.Common.{◌≡◌, ℕ, slice_get, Some, arith, below_more, subst, sym}
use Rattle.std.proofs.lemmas.Bool.{iff_false}
use Rattle.std.proofs.lemmas.Option.{get_or_from_slice_get}
use Rattle.row_makers.specs.Rivals.{AreRivals}
use Rattle.row_makers.proofs.Rivals.{no_rival}
use Rattle.row_makers.proofs.crossing.rival_of.Goals as goal

pub loop-b-preserved : goal.loop-b-preserved
loop-b-preserved c =
    let s = c.args.site.now in
    let arcs = c.args.arcs.now in
    let shares = c.args.shares.now in
    let a = c.args.a in
    λ k b h.
    below_more (λ (n : ℕ). slice_get c.args.shared.now n ≡ Some b → AreRivals s arcs shares a b → ⊥) c.loop-b.b-index (λ n l. c.loop-b.invariant n b l)
    (λ e r. iff_false c.are_rivals.ensures c.if-are_rivals.false (subst (AreRivals s arcs shares a) (sym (get_or_from_slice_get c.args.shared.now c.loop-b.b-index b 0 e)) r)) k h

pub returns-clause-none : goal.returns-clause-none
returns-clause-none c =
    no_rival c.args.site.now c.args.arcs.now c.args.shares.now c.args.shared.now c.args.a c.requires.shared (λ k b h e. c.loop-b.invariant k b (omega (arith, h, c.loop-b-test.false)) e)
