use Rattle.std.proofs.lemmas.Bool.{iff_false}
use Rattle.std.proofs.lemmas.Result.{err_from_is_err_and, on_ok_weaker, MatchResult-weaker}
use Rattle.cable_definitions.specs.Row.{InRange, Ascending, RightKind, NoSubstation, Incompatible}
use Rattle.proof_laws.proofs.RowsHold.{rows-hold}
use Rattle.cable_rows.proofs.Forms.{empty_fault, count_fault, fault_of, with_some, with_count, with_range, with_order, with_kinds, with_substations, well_formed, some_member}
use Rattle.cable_rows.proofs.form.row_form.Goals as goal

pub returns-then-is_empty-clause-fault : goal.returns-then-is_empty-clause-fault
returns-then-is_empty-clause-fault c = empty_fault c.args.site.now c.args.arcs.now c.args.kind c.args.members.now c.is_empty.result c.is_empty.ensures c.if-is_empty.true

pub returns-then-not-may_have-clause-fault : goal.returns-then-not-may_have-clause-fault
returns-then-not-may_have-clause-fault c =
    count_fault c.args.site.now c.args.arcs.now c.args.kind c.args.members.now (some_member c.args.members.now c.is_empty.result c.is_empty.ensures c.if-is_empty.false) (iff_false c.may_have.ensures c.if-not-may_have.true)

pub returns-in_err-check_range-clause-fault : goal.returns-in_err-check_range-clause-fault
returns-in_err-check_range-clause-fault c =
    let a = with_some c.args.site.now c.args.arcs.now c.args.kind c.args.members.now (some_member c.args.members.now c.is_empty.result c.is_empty.ensures c.if-is_empty.false) in
    let b = with_count c.args.site.now c.args.arcs.now c.args.kind c.args.members.now a (λ i j. c.may_have.ensures.0 c.if-not-may_have.false) in
    let p = err_from_is_err_and c.from_residual.result c.from_residual.ensures.1 in
    rw (p.1, p.2) (fault_of c.args.site.now c.args.arcs.now c.args.kind c.args.members.now InRange _ b c.in_err-check_range.ensures.unmet)

pub returns-in_err-check_order-clause-fault : goal.returns-in_err-check_order-clause-fault
returns-in_err-check_order-clause-fault c =
    let a = with_some c.args.site.now c.args.arcs.now c.args.kind c.args.members.now (some_member c.args.members.now c.is_empty.result c.is_empty.ensures c.if-is_empty.false) in
    let b = with_count c.args.site.now c.args.arcs.now c.args.kind c.args.members.now a (λ i j. c.may_have.ensures.0 c.if-not-may_have.false) in
    let below_range = with_range c.args.site.now c.args.arcs.now c.args.kind c.args.members.now b c.in_ok-check_range.ensures.met in
    let p = err_from_is_err_and c.from_residual-in_err-check_order.result c.from_residual-in_err-check_order.ensures.1 in
    rw (p.1, p.2) (fault_of c.args.site.now c.args.arcs.now c.args.kind c.args.members.now Ascending _ below_range c.in_err-check_order.ensures.unmet)

pub returns-in_err-check_kinds-clause-fault : goal.returns-in_err-check_kinds-clause-fault
returns-in_err-check_kinds-clause-fault c =
    let a = with_some c.args.site.now c.args.arcs.now c.args.kind c.args.members.now (some_member c.args.members.now c.is_empty.result c.is_empty.ensures c.if-is_empty.false) in
    let b = with_count c.args.site.now c.args.arcs.now c.args.kind c.args.members.now a (λ i j. c.may_have.ensures.0 c.if-not-may_have.false) in
    let below_range = with_range c.args.site.now c.args.arcs.now c.args.kind c.args.members.now b c.in_ok-check_range.ensures.met in
    let below_order = with_order c.args.site.now c.args.arcs.now c.args.kind c.args.members.now below_range c.in_ok-check_order.ensures.met in
    let p = err_from_is_err_and c.from_residual-in_err-check_kinds.result c.from_residual-in_err-check_kinds.ensures.1 in
    rw (p.1, p.2) (fault_of c.args.site.now c.args.arcs.now c.args.kind c.args.members.now RightKind _ below_order c.in_err-check_kinds.ensures.unmet)

pub returns-in_err-check_substations-clause-fault : goal.returns-in_err-check_substations-clause-fault
returns-in_err-check_substations-clause-fault c =
    let a = with_some c.args.site.now c.args.arcs.now c.args.kind c.args.members.now (some_member c.args.members.now c.is_empty.result c.is_empty.ensures c.if-is_empty.false) in
    let b = with_count c.args.site.now c.args.arcs.now c.args.kind c.args.members.now a (λ i j. c.may_have.ensures.0 c.if-not-may_have.false) in
    let below_range = with_range c.args.site.now c.args.arcs.now c.args.kind c.args.members.now b c.in_ok-check_range.ensures.met in
    let below_order = with_order c.args.site.now c.args.arcs.now c.args.kind c.args.members.now below_range c.in_ok-check_order.ensures.met in
    let below_kinds = with_kinds c.args.site.now c.args.arcs.now c.args.kind c.args.members.now below_order c.in_ok-check_kinds.ensures.met in
    let p = err_from_is_err_and c.from_residual-in_err-check_substations.result c.from_residual-in_err-check_substations.ensures.1 in
    rw (p.1, p.2) (fault_of c.args.site.now c.args.arcs.now c.args.kind c.args.members.now NoSubstation _ below_kinds c.in_err-check_substations.ensures.unmet)

pub returns-clause-well_formed : goal.returns-clause-well_formed
returns-clause-well_formed c =
    let a = with_some c.args.site.now c.args.arcs.now c.args.kind c.args.members.now (some_member c.args.members.now c.is_empty.result c.is_empty.ensures c.if-is_empty.false) in
    let b = with_count c.args.site.now c.args.arcs.now c.args.kind c.args.members.now a (λ i j. c.may_have.ensures.0 c.if-not-may_have.false) in
    let below_range = with_range c.args.site.now c.args.arcs.now c.args.kind c.args.members.now b c.in_ok-check_range.ensures.met in
    let below_order = with_order c.args.site.now c.args.arcs.now c.args.kind c.args.members.now below_range c.in_ok-check_order.ensures.met in
    let below_kinds = with_kinds c.args.site.now c.args.arcs.now c.args.kind c.args.members.now below_order c.in_ok-check_kinds.ensures.met in
    let below_substations = with_substations c.args.site.now c.args.arcs.now c.args.kind c.args.members.now below_kinds c.in_ok-check_substations.ensures.met in
    on_ok_weaker c.check_pairs.result (λ met. well_formed c.args.site.now c.args.arcs.now c.args.kind c.args.members.now below_substations met) c.check_pairs.ensures.met

pub returns-clause-fault : goal.returns-clause-fault
returns-clause-fault c =
    let a = with_some c.args.site.now c.args.arcs.now c.args.kind c.args.members.now (some_member c.args.members.now c.is_empty.result c.is_empty.ensures c.if-is_empty.false) in
    let b = with_count c.args.site.now c.args.arcs.now c.args.kind c.args.members.now a (λ i j. c.may_have.ensures.0 c.if-not-may_have.false) in
    let below_range = with_range c.args.site.now c.args.arcs.now c.args.kind c.args.members.now b c.in_ok-check_range.ensures.met in
    let below_order = with_order c.args.site.now c.args.arcs.now c.args.kind c.args.members.now below_range c.in_ok-check_order.ensures.met in
    let below_kinds = with_kinds c.args.site.now c.args.arcs.now c.args.kind c.args.members.now below_order c.in_ok-check_kinds.ensures.met in
    let below_substations = with_substations c.args.site.now c.args.arcs.now c.args.kind c.args.members.now below_kinds c.in_ok-check_substations.ensures.met in
    MatchResult-weaker c.check_pairs.result c.check_pairs.ensures.unmet (λ x h. h) (λ fault unmet. fault_of c.args.site.now c.args.arcs.now c.args.kind c.args.members.now Incompatible fault below_substations unmet)

pub returns-clause-holds : goal.returns-clause-holds
returns-clause-holds c =
    let a = with_some c.args.site.now c.args.arcs.now c.args.kind c.args.members.now (some_member c.args.members.now c.is_empty.result c.is_empty.ensures c.if-is_empty.false) in
    let b = with_count c.args.site.now c.args.arcs.now c.args.kind c.args.members.now a (λ i j. c.may_have.ensures.0 c.if-not-may_have.false) in
    let below_range = with_range c.args.site.now c.args.arcs.now c.args.kind c.args.members.now b c.in_ok-check_range.ensures.met in
    let below_order = with_order c.args.site.now c.args.arcs.now c.args.kind c.args.members.now below_range c.in_ok-check_order.ensures.met in
    let below_kinds = with_kinds c.args.site.now c.args.arcs.now c.args.kind c.args.members.now below_order c.in_ok-check_kinds.ensures.met in
    let below_substations = with_substations c.args.site.now c.args.arcs.now c.args.kind c.args.members.now below_kinds c.in_ok-check_substations.ensures.met in
    on_ok_weaker c.check_pairs.result (λ met cables legal. rows-hold c.args.site.now c.args.arcs.now cables _ c.points-points.ensures.valid c.requires (well_formed c.args.site.now c.args.arcs.now c.args.kind c.args.members.now below_substations met) legal) c.check_pairs.ensures.met
