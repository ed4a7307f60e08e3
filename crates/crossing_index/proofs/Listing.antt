-- The arcs that clash with one, arc by arc.
use Rattle.std.proofs.Common.{◌≡◌, ℕ, ◌+◌, ◌<◌, List, [], ◌∷◌, ◌++◌, length, slice_get, Some, below_more, arith, subst, ◌∙◌}
use Rattle.std.proofs.lemmas.Grind.{common_steps}
use Rattle.std.specs.Prelude.{Contains}
use Rattle.std.proofs.lemmas.List.{length_push, get_or_append_left}
use Rattle.std.proofs.lemmas.List.Elements.{All-push, All-weaker}
use Rattle.std.proofs.lemmas.List.Quantifiers.{all_pairs_push}
use Rattle.cable_definitions.specs.declared.cable.Arc.{Arc}
use Rattle.cable_definitions.specs.Site.{Site}
use Rattle.cable_definitions.specs.Arcs.{AreArcs}
use Rattle.cable_definitions.specs.Layout.{PairsClash}
use Rattle.candidate_cables.specs.Listing.{JoinsPoints}
use Rattle.candidate_cables.proofs.Measuring.{measured_at}
use Rattle.crossing_index.specs.Clashing.{ArcsClash, AreClashingBelow}

-- the ends of an arc are points of the site
pub joins_at : (s : Site) (arcs : List Arc) (n : ℕ) (a : Arc) → AreArcs s arcs → slice_get arcs n ≡ Some a → JoinsPoints s a
joins_at s arcs n a are e = let m = measured_at s arcs n a are e in record { from = m.from; to = m.to }

contains_left : (xs : List ℕ) (y x : ℕ) → Contains xs x → Contains (xs ++ y ∷ []) x
contains_left xs y x (k, h, e) = (k, omega (arith, length_push xs y, h), get_or_append_left xs (y ∷ []) x k h ∙ e)

contains_last : (xs : List ℕ) (y : ℕ) → Contains (xs ++ y ∷ []) y
contains_last xs y = (length xs, omega (arith, length_push xs y), grind (arith, common_steps))

-- arc number n clashes, and is listed
pub clash_listed : (s : Site) (arcs : List Arc) (m n : ℕ) (numbers : List ℕ) → AreClashingBelow s arcs m n numbers → ArcsClash s arcs m n → AreClashingBelow s arcs m (n + 1) (numbers ++ n ∷ [])
clash_listed s arcs m n numbers h clash = record {
  ascending = all_pairs_push (λ (k i : ℕ). k < i) numbers n h.ascending (λ k d less. h.below k d less);
  below = All-push (λ (i : ℕ). i < n + 1) numbers n (All-weaker (λ (i : ℕ). i < n) (λ (i : ℕ). i < n + 1) (λ i less. omega arith) numbers h.below) (omega arith);
  clash = All-push (λ (i : ℕ). ArcsClash s arcs m i) numbers n h.clash clash;
  all = below_more (λ (i : ℕ). ArcsClash s arcs m i → Contains (numbers ++ n ∷ []) i) n (λ i less k. contains_left numbers n i (h.all i less k)) (λ k. contains_last numbers n);
}

-- arc number n doesn't clash
pub clash_passed : (s : Site) (arcs : List Arc) (m n : ℕ) (numbers : List ℕ) → AreClashingBelow s arcs m n numbers → (ArcsClash s arcs m n → ⊥) → AreClashingBelow s arcs m (n + 1) numbers
clash_passed s arcs m n numbers h none = record {
  ascending = h.ascending;
  below = All-weaker (λ (i : ℕ). i < n) (λ (i : ℕ). i < n + 1) (λ i less. omega arith) numbers h.below;
  clash = h.clash;
  all = below_more (λ (i : ℕ). ArcsClash s arcs m i → Contains numbers i) n h.all (λ k. absurd (none k));
}

-- two arcs that were read don't clash
pub no_arcs_clash : (s : Site) (arcs : List Arc) (m n : ℕ) (own other : Arc) → slice_get arcs m ≡ Some own → slice_get arcs n ≡ Some other → (PairsClash s own.from own.to other.from other.to → ⊥)
    → ArcsClash s arcs m n → ⊥
no_arcs_clash s arcs m n own other e f none k =
    let first : k.first ≡ own = one_item m k.first own k.first_is e in
    let second : k.second ≡ other = one_item n k.second other k.second_is f in
    none (subst (λ (a : Arc). PairsClash s a.from a.to other.from other.to) first (subst (λ (b : Arc). PairsClash s k.first.from k.first.to b.from b.to) second k.clash))
  where
    one_item : (i : ℕ) (a b : Arc) → slice_get arcs i ≡ Some a → slice_get arcs i ≡ Some b → a ≡ b
    one_item i a b e f = cc
