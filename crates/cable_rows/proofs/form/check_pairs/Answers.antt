use Rattle.std.proofs.Common.{ℕ, below_more}
use Rattle.std.proofs.lemmas.Result.{err_from_is_err_and}
use Rattle.cable_rows.specs.Form.{IsPairedWell}
use Rattle.cable_rows.proofs.Forms.{arcs_below, well_met, bad_unmet}
use Rattle.cable_rows.proofs.form.check_pairs.Goals as goal

pub check_pairs_of-requires-clause-members : goal.check_pairs_of-requires-clause-members
check_pairs_of-requires-clause-members c = arcs_below c.args.site.now c.args.arcs.now c.args.kind c.args.members.now c.in-One.is c.requires.range

pub returns-in_err-check_pairs_of-clause-unmet : goal.returns-in_err-check_pairs_of-clause-unmet
returns-in_err-check_pairs_of-clause-unmet c =
    let p = err_from_is_err_and c.from_residual.result c.from_residual.ensures.1 in
    rw (p.1, p.2) (bad_unmet c.args.site.now c.args.arcs.now c.args.kind c.args.members.now c.loop-first.first _ c.in-One.is c.loop-first.invariant c.in_err-check_pairs_of.ensures.unmet)

pub loop-first-preserved : goal.loop-first-preserved
loop-first-preserved c = λ i j l.
    below_more (λ (k : ℕ). IsPairedWell c.args.site.now c.args.arcs.now c.args.members.now k j) c.loop-first.first (λ k b. c.loop-first.invariant k j b) (c.in_ok-check_pairs_of.ensures.met j) i l

pub returns-clause-met : goal.returns-clause-met
returns-clause-met c = well_met c.args.site.now c.args.arcs.now c.args.kind c.args.members.now c.loop-first.first c.loop-first-test.false c.loop-first.invariant
