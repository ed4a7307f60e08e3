use Rattle.std.proofs.Common.{ℕ, ℤ, List, [], ◌∷◌, ◌++◌, length, sym, ap, ◌∙◌, subst, arith}
use Rattle.std.specs.Int.{w128}
use Rattle.std.proofs.lemmas.Int.{ints, to_z-of_z}
use Rattle.std.proofs.lemmas.List.{length-append}
use Rattle.cable_text.specs.Lines.{ahead}
use Rattle.proof_text.specs.Items.{ReadsWeights}
use Rattle.proof_text.proofs.WeightLines.{no_weights, one_weight_more, weight_refused}
use Rattle.proof_text.proofs.items.read_weights.Goals as goal

pub loop-init : goal.loop-init
loop-init g c =
    let start = ahead c.args.lines.now (g.S.Source.state c.args.src.now) in
    let P : List (ℕ × ℤ) → Type 0 = λ ws. ReadsWeights start start ws in
    record {
      reads = subst P (sym c.clear.ensures) (no_weights start);
      size = ap length c.clear.ensures;
      lines = omega (arith);
      no_fault = c.requires.no_fault;
      faults = omega arith;
    }

pub add_weight-requires : goal.add_weight-requires
add_weight-requires g c = omega (arith, c.loop.invariant.size, c.loop-test.true, c.requires.room)

pub returns-in-Err-clause-refused : goal.returns-in-Err-clause-refused
returns-in-Err-clause-refused g c =
    weight_refused (ahead c.args.lines.now (g.S.Source.state c.args.src.now)) (ahead c.loop.lines (g.S.Source.state c.loop.src)) c.loop.weights c.args.count c.args.lines.now.lines c.loop.lines.lines c.in-Err.fault
    c.loop.invariant.reads (omega (arith, c.loop.invariant.size, c.loop-test.true)) (omega (arith, c.loop.invariant.size, c.loop.invariant.lines)) c.in-Err.ensures.line.refused

pub loop-preserved : goal.loop-preserved
loop-preserved g c =
    let start = ahead c.args.lines.now (g.S.Source.state c.args.src.now) in
    let here = ahead c.loop.lines (g.S.Source.state c.loop.src) in
    let there = ahead c.read_weight.new.lines (g.S.Source.state c.read_weight.new.src) in
    let P : List (ℕ × ℤ) → Type 0 = λ ws. ReadsWeights start there ws in
    let read = c.in-Ok.ensures.reads in
    let same = to_z-of_z w128 c.in-Ok.weight (omega (arith, ints, read.small.0, read.small.1)) in
    let added = c.add_weight.ensures ∙ ap (λ w. c.loop.weights ++ (c.in-Ok.row, w) ∷ []) same in
    record {
      reads = subst P (sym added) (one_weight_more start here there c.loop.weights (c.in-Ok.row, c.in-Ok.weight) c.loop.invariant.reads read);
      size = ap length added ∙ length-append c.loop.weights ((c.in-Ok.row, c.in-Ok.weight) ∷ []) ∙ omega (arith, c.loop.invariant.size);
      lines = omega (arith, c.in-Ok.ensures.line.lines, c.loop.invariant.lines);
      no_fault = c.in-Ok.ensures.line.no_fault;
      faults = omega (arith, c.loop.invariant.faults, c.read_weight.ensures.line.count);
    }
