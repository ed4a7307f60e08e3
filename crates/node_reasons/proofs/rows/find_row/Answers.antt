use Rattle.std.proofs.Common.{◌≡◌, true, false, slice_get, inl, inr, arith, sym, ap, ◌∙◌}
use Rattle.std.proofs.lemmas.Bool.{cases_lt}
use Rattle.std.proofs.lemmas.Option.{slice_get_within}
use Rattle.proof_laws.proofs.Lists.{some_at}
use Rattle.node_reasons.proofs.rows.find_row.Goals as goal

pub returns-then-cannot_meet-clause-some : goal.returns-then-cannot_meet-clause-some
returns-then-cannot_meet-clause-some c =
    let r = some_at c.args.pool.now c.loop-row.row (omega arith) in
    (r.0, r.1, (c.cannot_meet.ensures r.0 r.1).0 c.if-cannot_meet.true)

pub loop-row-preserved : goal.loop-row-preserved
loop-row-preserved c = λ row r l e k. elim (cases_lt row c.loop-row.row) [
  | inl less ↦ c.loop-row.invariant row r less e k
  | inr more ↦ (
      let here : row ≡ c.loop-row.row = omega arith in
      let t = (c.cannot_meet.ensures r (ap (slice_get c.args.pool.now) (sym here) ∙ e)).1 k in
      let g : false ≡ true = sym c.if-cannot_meet.false ∙ t in
      cc
      )
]

pub returns-clause-none : goal.returns-clause-none
returns-clause-none c = λ row r e. c.loop-row.invariant row r (let w = slice_get_within c.args.pool.now row r e in omega arith) e
