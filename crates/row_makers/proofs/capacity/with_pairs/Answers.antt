use Rattle.std.proofs.Common.{◌≡◌, ◌≤◌, ℕ, ◌∷◌, [], true, arith, sym, ap, ◌∙◌, below_more}
use Rattle.std.proofs.lemmas.Bool.{false≢true}
use Rattle.cable_definitions.specs.Arcs.{kind_of, is_turbine}
use Rattle.row_makers.specs.Tried.{missing}
use Rattle.row_makers.proofs.capacity.with_pairs.Goals as goal
use Rattle.row_makers.proofs.capacity.with_pairs.Goals.{then-is_turbine, else-is_turbine}

pub loop-p-preserved : goal.loop-p-preserved
loop-p-preserved c =
    let s = c.args.site.now in
    let arcs = c.args.sums.now.arcs in
    let shares = c.args.sums.now.shares in
    let before = c.loop-p.invariant in
    elim c.if-is_turbine.branch [
      | then-is_turbine w ↦
          rw w.most-is (record {
            is_one = w.with_set-most.ensures.most;
            as_much = omega (arith, before.as_much, w.with_set-most.ensures.as_much);
            tried = below_more (λ (p : ℕ). is_turbine (kind_of s p) ≡ true → missing s arcs shares (p ∷ c.args.q ∷ []) ≤ w.with_set-most.result.missing) c.loop-p.p
                (λ p h t. let k = before.tried p h t in omega (arith, k, w.with_set-most.ensures.as_much)) (λ t. w.with_set-most.ensures.tried);
          })
      | else-is_turbine w ↦
          rw w.most-is (record {
            is_one = before.is_one;
            as_much = before.as_much;
            tried = below_more (λ (p : ℕ). is_turbine (kind_of s p) ≡ true → missing s arcs shares (p ∷ c.args.q ∷ []) ≤ c.loop-p.most.missing) c.loop-p.p
                before.tried (λ t. absurd (false≢true (sym w.if-is_turbine.false ∙ (c.is_turbine.ensures.turbine ∙ ap is_turbine c.kind.ensures.kind ∙ t))));
          })
    ]
