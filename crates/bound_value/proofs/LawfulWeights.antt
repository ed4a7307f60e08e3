-- For callers too: lawful weights, weight by weight.
use Rattle.std.proofs.Common.{◌≡◌, ℕ, ◌+◌, ◌≤◌, ◌<◌, inl, inr, ◌⊎◌, ℤ, pos, ◌<ℤ◌, List, length, get_or, slice_get, Some, None, Bool, true, false, below_more, refl, ap, ◌∙◌, subst, arith}
use Rattle.std.specs.Prelude.{IsTrue}
use Rattle.std.proofs.lemmas.Int.{ints}
use Rattle.std.proofs.lemmas.Option.{slice_get_cases}
use Rattle.cable_definitions.specs.Row.{Row, is_equation}
use Rattle.cable_definitions.specs.Choice.{AreLawful}
use Rattle.cable_rows.proofs.Listing.{get_or-same}
use Rattle.bound_value.specs.Lawful.{IsLawfulWeight}

-- a row with a lawful weight below 0 is an equation
pub negative_equation : (rows : List Row) (row : ℕ) (weight : ℤ) (equation : Bool) → row < length rows → ((r : Row) → slice_get rows row ≡ Some r → equation ≡ is_equation r.kind) → weight <ℤ pos 0
    → IsLawfulWeight rows row weight → IsTrue equation
negative_equation rows row weight equation l e n h = by (slice_get_cases rows row).1
  where
    decided : (r : Row) → slice_get rows row ≡ Some r → (b : Bool) → b ≡ is_equation r.kind → IsTrue b
    decided r f true g = refl
    decided r f false g = let s = h.sign r f (λ t. cc) in absurd (omega (arith, ints, s, n))

    by : ((r : Row) × (row < length rows) × (slice_get rows row ≡ Some r) × (get_or rows row r ≡ r)) ⊎ ((length rows ≤ row) × (slice_get rows row ≡ None)) → IsTrue equation
    by (inl (r, within, f, same)) = decided r f equation (e r f)
    by (inr (past, f)) = absurd (omega arith)

-- the first so many weights are lawful, and each of their rows is below `next`, which is 0 or follows one of them
pub record AreLawfulBelow (rows : List Row) (weights : List (ℕ × ℤ)) (count next : ℕ) : Type 0 where
  pub ascending : (k : ℕ) → k < count → (j : ℕ) (d : ℕ × ℤ) → j < k → (get_or weights j d).0 < (get_or weights k d).0
  pub lawful : (k : ℕ) → k < count → (d : ℕ × ℤ) → IsLawfulWeight rows (get_or weights k d).0 (get_or weights k d).1
  pub below : (k : ℕ) → k < count → (d : ℕ × ℤ) → (get_or weights k d).0 < next
  pub follows : (next ≡ 0) ⊎ ((k : ℕ) × (k < count) × ((d : ℕ × ℤ) → (get_or weights k d).0 + 1 ≡ next))

-- one weight more
pub lawful_more : (rows : List Row) (weights : List (ℕ × ℤ)) (count next : ℕ) (w : ℕ × ℤ) → count < length weights → w ≡ get_or weights count w → next ≤ w.0 → IsLawfulWeight rows w.0 w.1
    → AreLawfulBelow rows weights count next → AreLawfulBelow rows weights (count + 1) (w.0 + 1)
lawful_more rows weights count next w l e n here h = record {
  ascending = below_more (λ (k : ℕ). (j : ℕ) (d : ℕ × ℤ) → j < k → (get_or weights j d).0 < (get_or weights k d).0) count h.ascending (λ j d less. let b = h.below j less d in let r = ap (λ (x : ℕ × ℤ). x.0) (at d) in omega (arith, b, r, n));
  lawful = below_more (λ (k : ℕ). (d : ℕ × ℤ) → IsLawfulWeight rows (get_or weights k d).0 (get_or weights k d).1) count h.lawful (λ d. subst (λ (x : ℕ × ℤ). IsLawfulWeight rows x.0 x.1) (at d) here);
  below = below_more (λ (k : ℕ). (d : ℕ × ℤ) → (get_or weights k d).0 < w.0 + 1) count (λ k less d. let b = h.below k less d in omega (arith, b, n)) (λ d. let r = ap (λ (x : ℕ × ℤ). x.0) (at d) in omega (arith, r));
  follows = inr (count, omega arith, λ d. let r = ap (λ (x : ℕ × ℤ). x.0) (at d) in omega (arith, r));
}
  where
    at : (d : ℕ × ℤ) → w ≡ get_or weights count d
    at d = e ∙ get_or-same weights count w d l

-- a row that doesn't follow those before it
pub not_ascending : (rows : List Row) (weights : List (ℕ × ℤ)) (count next : ℕ) (w : ℕ × ℤ) → count < length weights → w ≡ get_or weights count w → w.0 < next → AreLawfulBelow rows weights count next → ¬ (AreLawful rows weights)
not_ascending rows weights count next w l e less h all = by h.follows
  where
    by : (next ≡ 0) ⊎ ((k : ℕ) × (k < count) × ((d : ℕ × ℤ) → (get_or weights k d).0 + 1 ≡ next)) → ⊥
    by (inl none) = omega arith
    by (inr (k, before, follows)) =
        let a = all.ascending k count w before l in
        let r = ap (λ (x : ℕ × ℤ). x.0) e in
        let f = follows w in
        omega (arith, a, r, f, less)
