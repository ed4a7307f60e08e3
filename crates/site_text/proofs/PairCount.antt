-- A site of at most 256 points has at most 32,640 pair rules, since no unordered pair is ruled twice.
use Rattle.std.proofs.Common.{◌≡◌, ◌≢◌, ℕ, suc, ◌+◌, ◌-◌, ◌*◌, ◌<◌, ◌≤◌, ◌⊎◌, inl, inr, List, [], ◌∷◌, length, get_or, Bool, true, false, ltb, eqb, cond, refl, sym, ap, ◌∙◌, arith, All, IsTrue}
use Rattle.std.specs.Prelude.{AllPairs}
use Rattle.std.specs.List.{list_any}
use Rattle.std.proofs.lemmas.Bool.{eqb-true}
use Rattle.std.proofs.lemmas.Bool.Decides.{nat_tests, Decides-eqb}
use Rattle.std.proofs.lemmas.List.Elements.{All-head, All-tail, All-nil, All-cons}
use Rattle.std.proofs.lemmas.List.Kept.{AllPairs-cons}
use Rattle.std.proofs.lemmas.List.Folds.{Any-from_list_any}
use Rattle.std.proofs.lemmas.Map.Made.{IsDistinct-from_AllPairs}
use Rattle.std.proofs.lemmas.Map.Steps.{length-le_from_distinct_below}
use Rattle.cable_definitions.specs.declared.site.Point.{Point}
use Rattle.cable_definitions.specs.declared.site.Pair.{Pair}
use Rattle.cable_definitions.specs.Site.{IsPair, joins}

-- a number for each ordered pair of two different points
code : ℕ → ℕ → ℕ
code a b = 255 * a + cond (ltb b a) b (b - 1)

-- two different points of a site
record Differ (a b : ℕ) : Type 0 where
  first : a < 256
  second : b < 256
  different : a ≢ b

-- the number of a pair, taken apart
record Coded (a b : ℕ) : Type 0 where
  rest : ℕ
  is : code a b ≡ 255 * a + rest
  below : rest < 255
  second : (b ≡ rest × b < a) ⊎ (b ≡ rest + 1 × a < b)

coded : (a b : ℕ) → Differ a b → Coded a b
unfolding code
coded a b h = by_test (ltb b a) refl
  where
    by_test : (t : Bool) → ltb b a ≡ t → Coded a b
    by_test true e = record { rest = b; is = ap (λ (u : Bool). 255 * a + cond u b (b - 1)) e; below = (let l : b < a = grind (arith, nat_tests) in let f = h.first in omega arith); second = inl (refl, grind (arith, nat_tests)) }
    by_test false e =
        let l : a < b = (let n = h.different in grind (arith, nat_tests)) in
        record { rest = b - 1; is = ap (λ (u : Bool). 255 * a + cond u b (b - 1)) e; below = (let f = h.second in omega arith); second = inr (omega arith, l) }

-- pairs with one number are one
code_same : (a b c d : ℕ) → Differ a b → Differ c d → code a b ≡ code c d → (a ≡ c) × (b ≡ d)
code_same a b c d h k e =
    let x = coded a b h in
    let y = coded c d k in
    let sum : 255 * a + x.rest ≡ 255 * c + y.rest = sym x.is ∙ e ∙ y.is in
    let l = x.below in
    let m = y.below in
    let first : a ≡ c = omega arith in
    let rest : x.rest ≡ y.rest = omega arith in (
      first,
      elim x.second [
        | inl p ↦ elim y.second [ inl q ↦ omega arith | inr q ↦ absurd (omega arith) ]
        | inr p ↦ elim y.second [ inl q ↦ absurd (omega arith) | inr q ↦ omega arith ]
      ],
    )

code_below : (a b : ℕ) → Differ a b → code a b < 65280
code_below a b h = let x = coded a b h in let e = x.is in let l = x.below in let f = h.first in omega arith

-- both numbers of each pair
codes : List Pair → List ℕ
codes [] = []
codes (p ∷ ps) = code p.a p.b ∷ code p.b p.a ∷ codes ps

codes_length : (ps : List Pair) → length (codes ps) ≡ 2 * length ps
unfolding codes
codes_length [] = refl
codes_length (p ∷ ps) = let h = codes_length ps in omega arith

abbrev Fits : Pair → Type 0
Fits p = Differ p.a p.b

turned : (a b : ℕ) → Differ a b → Differ b a
turned a b h = record { first = h.second; second = h.first; different = λ e. h.different (sym e) }

codes_below : (ps : List Pair) → All Fits ps → All (λ y. y < 65280) (codes ps)
unfolding codes
codes_below [] h = All-nil (λ y. y < 65280)
codes_below (p ∷ ps) h =
    let k = All-head Fits p ps h in
    All-cons (λ y. y < 65280) (code p.a p.b) (code p.b p.a ∷ codes ps) (code_below p.a p.b k)
    (All-cons (λ y. y < 65280) (code p.b p.a) (codes ps) (code_below p.b p.a (turned p.a p.b k)) (codes_below ps (All-tail Fits p ps h)))

joined : (a b : ℕ) (q : Pair) → (q.a ≡ a) × (q.b ≡ b) → IsTrue (joins a b q)
joined a b q h = let e = h.0 in let f = h.1 in grind (arith, nat_tests)

joined_back : (a b : ℕ) (q : Pair) → (q.a ≡ b) × (q.b ≡ a) → IsTrue (joins a b q)
joined_back a b q h = let e = h.0 in let f = h.1 in grind (arith, nat_tests)

-- the numbers of a pair are those of no other pair
abbrev Other : Pair → ℕ → Type 0
Other p y = (code p.a p.b ≢ y) × (code p.b p.a ≢ y)

apart : (p : Pair) (ps : List Pair) → Fits p → All Fits ps → All (λ q. ¬ IsTrue (joins p.a p.b q)) ps → All (Other p) (codes ps)
unfolding codes
apart p [] f h n = All-nil (Other p)
apart p (q ∷ qs) f h n =
    let k = All-head Fits q qs h in
    let other = All-head (λ (r : Pair). ¬ IsTrue (joins p.a p.b r)) q qs n in
    let back = turned p.a p.b f in
    let turn = turned q.a q.b k in
    All-cons (Other p) (code q.a q.b) (code q.b q.a ∷ codes qs) (
      λ e. let s = code_same p.a p.b q.a q.b f k e in other (joined p.a p.b q (sym s.0, sym s.1)),
      λ e. let s = code_same p.b p.a q.a q.b back k e in other (joined_back p.a p.b q (sym s.0, sym s.1)),
    )
    (All-cons (Other p) (code q.b q.a) (codes qs) (
      λ e. let s = code_same p.a p.b q.b q.a f turn e in other (joined_back p.a p.b q (sym s.1, sym s.0)),
      λ e. let s = code_same p.b p.a q.b q.a back turn e in other (joined p.a p.b q (sym s.1, sym s.0)),
    ) (apart p qs f (All-tail Fits q qs h) (All-tail (λ (r : Pair). ¬ IsTrue (joins p.a p.b r)) q qs n)))

-- no number stands twice
differ : (ps : List Pair) → All Fits ps → AllPairs (λ p q. ¬ IsTrue (joins p.a p.b q)) ps → AllPairs (λ x y. x ≢ y) (codes ps)
unfolding codes
differ [] h n = λ i j d l m. absurd (omega arith)
differ (p ∷ ps) h n =
    let k = All-head Fits p ps h in
    let tail = All-tail Fits p ps h in
    let later : All (λ (q : Pair). ¬ IsTrue (joins p.a p.b q)) ps = λ i d l. n 0 (suc i) d (omega arith) (omega arith) in
    let rest : AllPairs (λ (q r : Pair). ¬ IsTrue (joins q.a q.b r)) ps = λ i j d l m. n (suc i) (suc j) d (omega arith) (omega arith) in
    let others = apart p ps k tail later in
    AllPairs-cons (λ x y. x ≢ y) (code p.a p.b) (code p.b p.a ∷ codes ps)
    (All-cons (λ y. code p.a p.b ≢ y) (code p.b p.a) (codes ps) (λ e. k.different (code_same p.a p.b p.b p.a k (turned p.a p.b k) e).0) (λ i d l. (others i d l).0))
    (AllPairs-cons (λ x y. x ≢ y) (code p.b p.a) (codes ps) (λ i d l. (others i d l).1) (differ ps tail rest))

below_any : (n : ℕ) (xs : List ℕ) → All (λ y. y < n) xs → (q : ℕ) → list_any (eqb q) xs ≡ true → q < n
below_any n xs h q t =
    let a = Any-from_list_any (eqb q) xs t in
    let l : get_or xs a.0 a.1 < n = h a.0 a.1 a.2 in
    let e : q ≡ a.1 = eqb-true q a.1 a.4 in
    let s : get_or xs a.0 a.1 ≡ a.1 = a.3 in
    omega arith

-- at most so many pair rules
pub pair_count : (points : List Point) (ps : List Pair) → length points ≤ 256 → All (IsPair points) ps → AllPairs (λ p q. ¬ IsTrue (joins p.a p.b q)) ps → length ps ≤ 32640
pair_count points ps few h n =
    let fits : All Fits ps = λ i d l. let k = h i d l in record { first = (let f = k.first in omega arith); second = (let s = k.second in omega arith); different = k.different } in
    let distinct = IsDistinct-from_AllPairs Decides-eqb (codes ps) (differ ps fits n) in
    omega (arith, codes_length ps, length-le_from_distinct_below (codes ps) 65280 distinct (below_any 65280 (codes ps) (codes_below ps fits)))
