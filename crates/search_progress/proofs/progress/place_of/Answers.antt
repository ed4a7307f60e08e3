use Rattle.std.proofs.Common.{ℕ, ◌≡◌, true, Some, ap, ◌∙◌, arith}
use Rattle.std.specs.Prelude.{◌==◌}
use Rattle.std.proofs.lemmas.Bool.Decides.{nat_tests}
use Rattle.std.proofs.lemmas.Option.{slice_get_within}
use Rattle.number_laws.proofs.NatSums.{count_by-place}
use Rattle.search_progress.proofs.progress.place_of.Goals as goal

same_number : (w v : ℕ) → (w == v) ≡ true → w ≡ v
same_number w v e = grind (arith, nat_tests)

pub unreachable-requires : goal.unreachable-requires
unreachable-requires c =
    let there = count_by-place (λ (w : ℕ). w == c.args.node) c.args.nodes.now c.requires in
    let within = slice_get_within c.args.nodes.now there.0 there.1 there.2 in
    let past = c.loop-place-test.false in
    c.loop-place.invariant there.0 (omega (arith, within, past)) (there.2 ∙ ap (λ (w : ℕ). Some w) (same_number there.1 c.args.node there.3))
