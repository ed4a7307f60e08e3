-- Names of turbines, and points that are apart from a further one.
use Rattle.std.proofs.Common.{◌≡◌, ◌≢◌, ℕ, zero, suc, ◌+◌, ◌*◌, ◌/◌, ◌%◌, ◌^◌, ◌≤◌, ◌<◌, ◌⊎◌, inl, inr, ⊎_elim, ℤ, pos, neg_ℤ, ◌<ℤ◌, List, [], ◌∷◌, ◌++◌, length, IsTrue, refl, sym, ◌∙◌, arith}
use Rattle.std.specs.Prelude.{All, codes}
use Rattle.std.specs.Fmt.{decimal}
use Rattle.std.proofs.lemmas.Bool.{cases_lt}
use Rattle.std.proofs.lemmas.Int.{ints}
use Rattle.std.proofs.lemmas.Fmt.{length-decimal-le, decimal_by_steps, decimal_injective}
use Rattle.std.proofs.lemmas.List.Elements.{All-nil, All-cons, All-push}
use Rattle.cable_definitions.specs.declared.site.Kind.{Kind}
use Rattle.cable_definitions.specs.declared.site.Kind.TheVariants.{Substation}
use Rattle.cable_definitions.specs.declared.site.Point.{Point}
use Rattle.cable_definitions.specs.Naming.{is_name_byte, IsName}
use Rattle.cable_definitions.specs.Drill.{IsPointAt, IsDrawn, next_state, draw, state_after}
use Rattle.drill_site.specs.Growing.{IsApart, IsBeside}

-- ---- names
-- a digit may stand in a name
digit_passes : (n : ℕ) → n < 10 → IsTrue (is_name_byte (48 + n))
digit_passes zero l = refl
digit_passes (suc zero) l = refl
digit_passes (suc (suc zero)) l = refl
digit_passes (suc (suc (suc zero))) l = refl
digit_passes (suc (suc (suc (suc zero)))) l = refl
digit_passes (suc (suc (suc (suc (suc zero))))) l = refl
digit_passes (suc (suc (suc (suc (suc (suc zero)))))) l = refl
digit_passes (suc (suc (suc (suc (suc (suc (suc zero))))))) l = refl
digit_passes (suc (suc (suc (suc (suc (suc (suc (suc zero)))))))) l = refl
digit_passes (suc (suc (suc (suc (suc (suc (suc (suc (suc zero))))))))) l = refl
digit_passes (suc (suc (suc (suc (suc (suc (suc (suc (suc (suc n)))))))))) l = absurd (omega arith)

-- a remainder by 10
below_ten : (n : ℕ) → n % 10 < 10
below_ten n = omega arith

-- so may every digit of a number
decimal_passes : (n : ℕ) → n < 2 ^ 64 → All (λ b. IsTrue (is_name_byte b)) (decimal n)
decimal_passes n l =
    let P : ℕ → Type 0 = λ b. IsTrue (is_name_byte b) in
    decimal_by_steps (λ m ds. All P ds) (λ m small. All-cons P (48 + m) [] (digit_passes m small) (All-nil P)) (λ m ds large rest. All-push P ds (48 + m % 10) rest (digit_passes (m % 10) (below_ten m))) n l

-- `T` and a number below 200
pub IsName-turbine : (i : ℕ) → i < 200 → IsName (codes "T" ++ decimal i)
IsName-turbine i l =
    let short : length (decimal i) ≤ 3 = length-decimal-le 3 i (omega arith) (omega arith) (omega arith) in
    record {
      not_empty = omega (arith, short);
      short = omega (arith, short);
      spelled = All-cons (λ b. IsTrue (is_name_byte b)) 84 (decimal i) refl (decimal_passes i (omega arith));
    }

-- bytes that begin differently differ
pub first_differs : (a b : ℕ) (s t : List ℕ) → a ≢ b → (a ∷ s) ≢ (b ∷ t)
first_differs a b s t ne e = ne (cc)

-- so do pairs of bytes that end differently
pub second_differs : (f a b : ℕ) → a ≢ b → (f ∷ a ∷ []) ≢ (f ∷ b ∷ [])
second_differs f a b ne e = ne (cc)

-- ---- what is known of a turbine
-- turbine i by its name, near the corner of its square
pub record IsCell (i : ℕ) (p : Point) : Type 0 where
  pub name : p.name ≡ codes "T" ++ decimal i
  pub east : ℕ
  pub north : ℕ
  pub near_east : east ≤ 400
  pub near_north : north ≤ 400
  pub x_is : p.at.x ≡ pos (1000 * (i % 10) + east)
  pub y_is : p.at.y ≡ pos (1000 * (i / 10) + north)

-- a remainder by 401
at_most_400 : (n : ℕ) → n % 401 ≤ 400
at_most_400 n = omega arith

-- an offset that is drawn
pub draw-small : (state : ℕ) → draw 401 state ≤ 400
draw-small state = at_most_400 (next_state state / 2 ^ 33)

-- a turbine that is drawn
pub IsCell-drawn : (i state : ℕ) (p : Point) → IsDrawn i state p → IsCell i p
IsCell-drawn i state p h = record {
  name = h.name_is;
  east = draw 401 state;
  north = draw 401 (state_after 1 state);
  near_east = draw-small state;
  near_north = draw-small (state_after 1 state);
  x_is = h.x_is;
  y_is = h.y_is;
}

-- one of the substations, or one of the first n turbines
abbrev pub IsEarly : ℕ → Point → Type 0
IsEarly n p = IsPointAt p (codes "S0") (neg_ℤ (pos 2000)) (pos 0) (Substation 16 3000) ⊎ (IsPointAt p (codes "S1") (pos 12000) (pos 0) (Substation 16 3000) ⊎ ((j : ℕ) × (j < n) × IsCell j p))

-- ---- points that are apart
-- a known point is apart from one of another name and another place
pub IsApart-known : (p : Point) (name other : List ℕ) (x y u v : ℤ) (kind : Kind) → IsPointAt p name x y kind → name ≢ other → ¬ ((x ≡ u) × (y ≡ v)) → IsApart other u v p
IsApart-known p name other x y u v kind is ne away = record {
  name_differs = λ e. ne (sym is.name_is ∙ e);
  place_differs = λ e. away (sym is.x_is ∙ e.0, sym is.y_is ∙ e.1);
}

-- one square for one coordinate
one_square : (u v a b : ℕ) → a ≤ 400 → b ≤ 400 → pos (1000 * u + a) ≡ pos (1000 * v + b) → u ≡ v
one_square u v a b small_a small_b e = let f : 1000 * u + a ≡ 1000 * v + b = cc in omega arith

-- one number for one square
one_number : (i j : ℕ) → i % 10 ≡ j % 10 → i / 10 ≡ j / 10 → i ≡ j
one_number i j e f = omega arith

-- no turbine stands where the second substation stands
before_12000 : (i a : ℕ) → a ≤ 400 → pos 12000 ≢ pos (1000 * (i % 10) + a)
before_12000 i a small e = let f : 12000 ≡ 1000 * (i % 10) + a = cc in let l = below_ten i in omega arith

before_west : (i a : ℕ) → neg_ℤ (pos 2000) ≢ pos (1000 * (i % 10) + a)
before_west i a e = absurd (cc)

-- what stands before turbine i is apart from it
pub IsApart-turbine : (i a b : ℕ) (p : Point) → i < 200 → a ≤ 400 → b ≤ 400 → IsEarly i p → IsApart (codes "T" ++ decimal i) (pos (1000 * (i % 10) + a)) (pos (1000 * (i / 10) + b)) p
IsApart-turbine i a b p few small_a small_b (inl s0) =
    IsApart-known p (codes "S0") (codes "T" ++ decimal i) (neg_ℤ (pos 2000)) (pos 0) (pos (1000 * (i % 10) + a)) (pos (1000 * (i / 10) + b)) (Substation 16 3000) s0 (first_differs 83 84 (48 ∷ []) (decimal i) (λ e. omega arith)) (λ e. before_west i a e.0)
IsApart-turbine i a b p few small_a small_b (inr (inl s1)) =
    IsApart-known p (codes "S1") (codes "T" ++ decimal i) (pos 12000) (pos 0) (pos (1000 * (i % 10) + a)) (pos (1000 * (i / 10) + b)) (Substation 16 3000) s1 (first_differs 83 84 (49 ∷ []) (decimal i) (λ e. omega arith)) (λ e. before_12000 i a small_a e.0)
IsApart-turbine i a b p few small_a small_b (inr (inr (j, l, cell))) = record {
  name_differs = λ e.
      let same : decimal j ≡ decimal i = tails j i (sym cell.name ∙ e) in
      let one : j ≡ i = decimal_injective j i (omega arith) (omega arith) same in omega (arith, one, l);
  place_differs = λ e.
      let column : j % 10 ≡ i % 10 = one_square (j % 10) (i % 10) cell.east a cell.near_east small_a (sym cell.x_is ∙ e.0) in
      let line : j / 10 ≡ i / 10 = one_square (j / 10) (i / 10) cell.north b cell.near_north small_b (sym cell.y_is ∙ e.1) in
      let one : j ≡ i = one_number j i column line in omega (arith, one, l);
}
  where
    tails : (j i : ℕ) → (84 ∷ decimal j) ≡ (84 ∷ decimal i) → decimal j ≡ decimal i
    tails j i e = cc

-- what stands before the bends is apart from each of them, which stand 450 metres from the corners of their squares or more
pub IsApart-bend : (n b x y : ℕ) (p : Point) → n ≤ 200 → ((u a : ℕ) → a ≤ 400 → 1000 * u + a ≢ x) → x ≢ 12000 → IsEarly n p → IsApart (66 ∷ b ∷ []) (pos x) (pos y) p
IsApart-bend n b x y p few off away (inl s0) =
    IsApart-known p (codes "S0") (66 ∷ b ∷ []) (neg_ℤ (pos 2000)) (pos 0) (pos x) (pos y) (Substation 16 3000) s0 (first_differs 83 66 (48 ∷ []) (b ∷ []) (λ e. omega arith)) (λ e. let f = e.0 in absurd (cc f))
IsApart-bend n b x y p few off away (inr (inl s1)) =
    IsApart-known p (codes "S1") (66 ∷ b ∷ []) (pos 12000) (pos 0) (pos x) (pos y) (Substation 16 3000) s1 (first_differs 83 66 (49 ∷ []) (b ∷ []) (λ e. omega arith)) (λ e. away (let f = e.0 in cc f))
IsApart-bend n b x y p few off away (inr (inr (j, l, cell))) = record {
  name_differs = λ e. first_differs 84 66 (decimal j) (b ∷ []) (λ g. omega arith) (sym cell.name ∙ e);
  place_differs = λ e. off (j % 10) cell.east cell.near_east (let f : pos (1000 * (j % 10) + cell.east) ≡ pos x = sym cell.x_is ∙ e.0 in cc f);
}

-- 450 metres, and 950
pub off_450 : (u a : ℕ) → a ≤ 400 → 1000 * u + a ≢ 4450
off_450 u a l e = omega arith

pub off_950 : (u a : ℕ) → a ≤ 400 → 1000 * u + a ≢ 4950
off_950 u a l e = omega arith

-- ---- beside the obstacle
-- a turbine's column is one of the first five or a later one
cell_beside : (c a : ℕ) (x : ℤ) → a ≤ 400 → x ≡ pos (1000 * c + a) → (x <ℤ pos 4500) ⊎ (pos 4900 <ℤ x)
cell_beside c a x small e =
    ⊎_elim (λ (west : c < 5). inl (omega (arith, ints, e))) (λ (east : 5 ≤ c). inr (omega (arith, ints, e))) (cases_lt c 5)

-- what stands before the bends is beside the obstacle
pub IsBeside-early : (n : ℕ) (p : Point) → IsEarly n p → IsBeside p
IsBeside-early n p (inl s0) = inl (omega (arith, ints, s0.x_is))
IsBeside-early n p (inr (inl s1)) = inr (omega (arith, ints, s1.x_is))
IsBeside-early n p (inr (inr (j, l, cell))) = cell_beside (j % 10) cell.east p.at.x cell.near_east cell.x_is
