-- Shares that are made less, one after another.
use Rattle.std.proofs.Common.{◌≡◌, ℕ, ◌+◌, ◌*◌, ◌<◌, inl, inr, List, length, slice_get, Some, sym, ◌∙◌, ap, arith}
use Rattle.std.specs.Prelude.{◌/◌, slice_set}
use Rattle.std.proofs.Math.ListN.{length-set}
use Rattle.std.proofs.lemmas.Bool.{cases_eq}
use Rattle.std.proofs.lemmas.Option.{slice_get_within}
use Rattle.proof_laws.proofs.Boxes.{set_here, set_other}
use Rattle.proof_laws.proofs.Lists.{some_at}
use Rattle.search_parts.specs.Making.{AreReduced}

-- as many shares, and each of the first is three quarters of the one in its place, rounded down
pub record AreReducedBelow (shares reduced : List ℕ) (count : ℕ) : Type 0 where
  pub one_each : length reduced ≡ length shares
  pub below : (a share : ℕ) → a < count → slice_get shares a ≡ Some share → slice_get reduced a ≡ Some (3 * share / 4)

-- one more
pub reduced-more : (shares reduced : List ℕ) (arc own : ℕ) → AreReducedBelow shares reduced arc → slice_get shares arc ≡ Some own → AreReducedBelow shares (slice_set reduced arc (3 * own / 4)) (arc + 1)
reduced-more shares reduced arc own h e = record {
  one_each = length-set reduced arc (3 * own / 4) ∙ h.one_each;
  below = λ a share l is. elim (cases_eq a arc) [
    | inl same ↦
        let f : Some own ≡ Some share = sym e ∙ ap (slice_get shares) (sym same) ∙ is in
        let is_own : own ≡ share = cc in
        ap (slice_get (slice_set reduced arc (3 * own / 4))) same ∙ set_here reduced arc at.0 (3 * own / 4) at.1 ∙ ap (λ (k : ℕ). Some (3 * k / 4)) is_own
    | inr other ↦ set_other reduced arc a (3 * own / 4) other ∙ h.below a share (omega (arith, l, other)) is
  ];
}
  where
    at : (x : ℕ) × (slice_get reduced arc ≡ Some x)
    at = some_at reduced arc (let within = slice_get_within shares arc own e in let same = h.one_each in omega (arith, within, same))

-- all of them
pub reduced-all : (shares reduced : List ℕ) (count : ℕ) → length shares ≡ count → AreReducedBelow shares reduced count → AreReduced shares reduced
reduced-all shares reduced count all h = record {
  one_each = h.one_each;
  three_quarters = λ a share is. h.below a share (let within = slice_get_within shares a share is in omega (arith, within, all)) is;
}
