use Rattle.std.proofs.Common.{◌≡◌, ℕ, ℤ, pos, ◌⊎◌, inl, inr, to_z, of_z, arith, refl, sym, subst}
use Rattle.std.specs.Int.{w64}
use Rattle.std.proofs.lemmas.Int.{ints}
use Rattle.cable_definitions.specs.declared.row.Mark.{Mark}
use Rattle.cable_definitions.specs.declared.row.Mark.TheVariants.{Free, Used, Unused}
use Rattle.cable_definitions.specs.Choice.{AtMost, AtLeast}
use Rattle.node_reasons.specs.declared.boxed_row.BoxedRow.{BoxedRow}
use Rattle.node_reasons.specs.Extents.{IsUpTo}
use Rattle.node_reasons.specs.RowBox.{IsArcEnd, IsArcExtent}
use Rattle.node_reasons.proofs.RowExtents.{back, wider, extreme_of_free, extreme_of_unused}
use Rattle.node_reasons.proofs.OwnSums.{within_nothing}
use Rattle.node_reasons.proofs.boxed_row.BoxedRow.extent_of_arc.Goals as goal

-- what is kept of a small number or of none is small
small_of : (used z : ℤ) (P Q : Type 0) → IsUpTo 2000000 used → ((z ≡ used) × P) ⊎ ((z ≡ pos 0) × Q) → IsUpTo 2000000 z
small_of used z P Q h (inl (e, p)) = subst (IsUpTo 2000000) (sym e) h
small_of used z P Q h (inr (e, q)) = within_nothing 2000000 z e

-- what is kept of a used arc's extreme or of none is that of a free one
free_end : (R : ℤ → ℤ → Type 0) → ((x : ℤ) → R x x) → ((x y z : ℤ) → R x y → R y z → R x z) → (b : BoxedRow) (n : ℕ) (used z : ℤ) → IsArcEnd R b n Used used → ((z ≡ used) × R used (pos 0)) ⊎ ((z ≡ pos 0) × R (pos 0) used)
    → IsArcEnd R b n Free (to_z w64 (of_z w64 z))
free_end R same trans b n used z x h =
    let small = small_of used z (R used (pos 0)) (R (pos 0) used) x.small h in
    subst (IsArcEnd R b n Free) (sym (back z (wider z small)))
    (record { extreme = λ r a e f. extreme_of_free R same trans b.site.now r n a used z (x.extreme r a e f) h; small = small })

-- an arc that isn't used counts as nothing
unused_end : (R : ℤ → ℤ → Type 0) → ((x : ℤ) → R x x) → (b : BoxedRow) (n : ℕ) (z : ℤ) → z ≡ pos 0 → IsArcEnd R b n Unused z
unused_end R same b n z e =
    subst (IsArcEnd R b n Unused) (sym e) (record { extreme = λ r a f g. extreme_of_unused R same b.site.now r n a; small = within_nothing 2000000 (pos 0) refl })

pub returns-in-Unused : goal.returns-in-Unused
returns-in-Unused c =
    subst (λ (mark : Mark). IsArcExtent c.args.self.now c.args.arc mark c.nothing.result) (sym c.in-Unused.is)
    (record {
      least = unused_end AtMost (λ x. omega (arith, ints)) c.args.self.now c.args.arc c.nothing.result.least c.nothing.ensures.least;
      greatest = unused_end AtLeast (λ x. omega (arith, ints)) c.args.self.now c.args.arc c.nothing.result.greatest c.nothing.ensures.greatest;
    })

pub returns : goal.returns
returns c =
    let used = c.extent_of_used-used.result in
    subst (λ (mark : Mark). IsArcExtent c.args.self.now c.args.arc mark (record { least = to_z w64 (of_z w64 c.least_or_none.result); greatest = to_z w64 (of_z w64 c.greatest_or_none.result) })) (sym c.in-Free.is)
    (record {
      least = free_end AtMost (λ x. omega (arith, ints)) (λ x y w h k. omega (arith, ints)) c.args.self.now c.args.arc used.least c.least_or_none.result c.extent_of_used-used.ensures.least c.least_or_none.ensures;
      greatest = free_end AtLeast (λ x. omega (arith, ints)) (λ x y w h k. omega (arith, ints)) c.args.self.now c.args.arc used.greatest c.greatest_or_none.result c.extent_of_used-used.ensures.greatest c.greatest_or_none.ensures;
    })
