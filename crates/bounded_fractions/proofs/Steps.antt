-- The steps of sums, products and quotients of fractions.
use Rattle.std.proofs.Common.{◌≡◌, ◌≢◌, true, false, ℕ, ◌*◌, ◌/◌, ◌^◌, ◌<◌, ◌≤◌, refl, sym, ap, ◌∙◌, subst, arith, lit≤, ℤ, pos, negsuc, ◌+ℤ◌, ◌-ℤ◌, ◌*ℤ◌, ◌≤ℤ◌, ◌<ℤ◌, w64, to_z, of_z}
use Rattle.std.specs.Prelude.{unsigned_abs}
use Rattle.std.specs.Int.{w128, ◌∣◌, IsGcd}
use Rattle.std.specs.Int.RustNames.{int_div, FitsSigned}
use Rattle.std.specs.Int.Signed.{lt_z}
use Rattle.std.proofs.lemmas.Int.{ints, fits_signed_from_abs, to_z-of_z, by_lt_z}
use Rattle.std.specs.Ordering.{MatchOrdering, int_cmp}
use Rattle.std.specs.declared.cmp.Ordering.{Ordering}
use Rattle.std.specs.declared.cmp.Ordering.TheVariants.{Less, Equal, Greater}
use Rattle.std.proofs.lemmas.Cmp.{int_ranked}
use Rattle.std.proofs.Math.Nat.{div-le_self, eq-one_of_dvd-one}
use Rattle.fraction_laws.specs.Divisor.{AreCoprime}
use Rattle.fraction_laws.specs.Rational.{ℚ, whole, ◌+ℚ◌, ◌*ℚ◌, ◌/ℚ◌, neg_ℚ, inverse, ◌<ℚ◌}
use Rattle.fraction_laws.proofs.Cross.{same_from_cross, cross_from_same, IsQuotient-parts}
use Rattle.fraction_laws.proofs.Expression.{same_quotients, IsQuotient-times}
use Rattle.fraction_laws.proofs.Signs.{abs-neg, positive_is, some_abs, same_neg, same_inverse_positive, same_inverse_negative, same_quotient_positive, same_quotient_negative}
use Rattle.fraction_laws.proofs.Reducing.{IsReduced, IsReduced-quotient, IsReduced-product, same_product, IsReduced-sum, same_sum, same_sum_over}
use Rattle.bounded_fractions.specs.declared.fraction.Fraction.{Fraction}
use Rattle.number_laws.proofs.Ring.{var, nat, plus, times, same_value}
use Rattle.bounded_fractions.specs.Value.{value_of, abs-positive}
use Rattle.bounded_fractions.proofs.Casts.{back64, back128, mul_back, add_back, quotient_back, mul-abs, add-abs, quotient-abs}

-- a divisor of numbers under other names
IsGcd-at : (a b c d g : ℕ) → a ≡ c → b ≡ d → IsGcd a b g → IsGcd c d g
IsGcd-at a b c d g e f h = subst (λ n. IsGcd c n g) f (subst (λ n. IsGcd n b g) e h)

-- a numerator and a denominator under other names
IsReduced-at : (n m m' : ℤ) (d e e' : ℕ) → m' ≡ m → e' ≡ e → IsReduced n d m e → IsReduced n d m' e'
IsReduced-at n m m' d e e' p q h = subst (λ z. IsReduced n d z e') (sym p) (subst (λ k. IsReduced n d m k) (sym q) h)

-- the product fits
pub product_fits : (l r : Fraction) (g h : ℕ) (p q : ℤ) → p ≡ int_div l.num (pos g) → q ≡ int_div r.num (pos h)
    → FitsSigned w128 (to_z w128 (of_z w128 p) *ℤ to_z w128 (of_z w128 q))
product_fits l r g h p q p_is q_is =
    let a : unsigned_abs p ≤ 2 ^ 62 = subst (λ z. unsigned_abs z ≤ 2 ^ 62) (sym p_is) (at_most (quotient-abs l.num g) l.num_in_range) in
    let b : unsigned_abs q ≤ 2 ^ 62 = subst (λ z. unsigned_abs z ≤ 2 ^ 62) (sym q_is) (at_most (quotient-abs r.num h) r.num_in_range) in
    subst (λ z. FitsSigned w128 (z *ℤ to_z w128 (of_z w128 q))) (sym (back128 p (omega arith)))
    (subst (λ z. FitsSigned w128 (p *ℤ z)) (sym (back128 q (omega arith)))
    (fits_signed_from_abs w128 (p *ℤ q) (omega (arith, mul-abs p q a b))))
  where
    at_most : {a b : ℕ} → a ≤ b → b ≤ 2 ^ 62 → a ≤ 2 ^ 62
    at_most s t = omega arith

-- a product
module _ (l r : Fraction) (ld rd ln rn g h x y : ℕ) (p q : ℤ)
    (ld_is : ld ≡ unsigned_abs l.den) (rd_is : rd ≡ unsigned_abs r.den) (ln_is : ln ≡ unsigned_abs l.num) (rn_is : rn ≡ unsigned_abs r.num)
    (first : IsGcd ln rd g) (second : IsGcd rn ld h)
    (p_is : p ≡ int_div l.num (pos g)) (q_is : q ≡ int_div r.num (pos h)) (x_is : x ≡ ld / h) (y_is : y ≡ rd / g) where
  product_num : to_z w128 (of_z w128 (to_z w128 (of_z w128 p) *ℤ to_z w128 (of_z w128 q))) ≡ int_div l.num (pos g) *ℤ int_div r.num (pos h)
  product_num =
      ap (λ z. to_z w128 (of_z w128 (to_z w128 (of_z w128 z) *ℤ to_z w128 (of_z w128 q)))) p_is
      ∙ ap (λ z. to_z w128 (of_z w128 (to_z w128 (of_z w128 (int_div l.num (pos g))) *ℤ to_z w128 (of_z w128 z)))) q_is
      ∙ mul_back (int_div l.num (pos g)) (int_div r.num (pos h)) (at_most (quotient-abs l.num g) l.num_in_range) (at_most (quotient-abs r.num h) r.num_in_range)
    where
      at_most : {a b : ℕ} → a ≤ b → b ≤ 2 ^ 62 → a ≤ 2 ^ 62
      at_most s t = omega arith

  product_den : x * y ≡ (unsigned_abs l.den / h) * (unsigned_abs r.den / g)
  product_den = cc

  pub IsReduced-product_step : IsReduced (l.num *ℤ r.num) (unsigned_abs l.den * unsigned_abs r.den)
      (to_z w128 (of_z w128 (to_z w128 (of_z w128 p) *ℤ to_z w128 (of_z w128 q)))) (x * y)
  unfolding value_of
  IsReduced-product_step =
      IsReduced-at _ _ _ _ _ _ product_num product_den
      (IsReduced-product (value_of l) (value_of r) g h (IsGcd-at ln rd _ _ g ln_is rd_is first) (IsGcd-at rn ld _ _ h rn_is ld_is second))

  pub same_product_step : (w : ℚ) → w.num ≡ to_z w128 (of_z w128 (to_z w128 (of_z w128 p) *ℤ to_z w128 (of_z w128 q))) → w.den ≡ x * y
      → w ≡ value_of l *ℚ value_of r
  unfolding value_of
  same_product_step w e f =
      same_product (value_of l) (value_of r) g h (IsGcd-at ln rd _ _ g ln_is rd_is first) (IsGcd-at rn ld _ _ h rn_is ld_is second) w
      (e ∙ product_num) (f ∙ product_den)

-- a product of whole numbers
module _ (l r : Fraction) (s t : ℤ) (left_is : unsigned_abs l.den ≡ 1) (right_is : unsigned_abs r.den ≡ 1)
    (s_is : s ≡ l.num *ℤ pos 1) (t_is : t ≡ r.num *ℤ pos 1) where
  one_time : (z : ℤ) → z *ℤ pos 1 ≡ z
  one_time z = same_value (times (var z) (nat 1)) (var z) (omega arith)

  factor-abs : (f : Fraction) (z : ℤ) → z ≡ f.num *ℤ pos 1 → unsigned_abs z ≤ 2 ^ 62
  factor-abs f z e = subst (λ y. unsigned_abs y ≤ 2 ^ 62) (sym (e ∙ one_time f.num)) f.num_in_range

  whole_num : to_z w128 (of_z w128 (to_z w128 (of_z w128 s) *ℤ to_z w128 (of_z w128 t))) ≡ l.num *ℤ r.num
  whole_num =
      mul_back s t (factor-abs l s s_is) (factor-abs r t t_is)
      ∙ ap (λ z. z *ℤ t) (s_is ∙ one_time l.num)
      ∙ ap (λ z. l.num *ℤ z) (t_is ∙ one_time r.num)

  pub whole_product_fits : FitsSigned w128 (to_z w128 (of_z w128 s) *ℤ to_z w128 (of_z w128 t))
  whole_product_fits =
      let a = factor-abs l s s_is in
      let b = factor-abs r t t_is in
      subst (λ z. FitsSigned w128 (z *ℤ to_z w128 (of_z w128 t))) (sym (back128 s (omega arith)))
      (subst (λ z. FitsSigned w128 (s *ℤ z)) (sym (back128 t (omega arith)))
      (fits_signed_from_abs w128 (s *ℤ t) (omega (arith, mul-abs s t a b))))

  pub same_whole_product : (w : ℚ) → w.num ≡ to_z w128 (of_z w128 (to_z w128 (of_z w128 s) *ℤ to_z w128 (of_z w128 t))) → w.den ≡ 1
      → w ≡ value_of l *ℚ value_of r
  unfolding value_of
  same_whole_product w e f =
      same_quotients w (value_of l *ℚ value_of r) w.num (l.num *ℤ r.num) w.den (unsigned_abs l.den * unsigned_abs r.den) (IsQuotient-parts w)
      (IsQuotient-times (value_of l) (value_of r) l.num r.num (unsigned_abs l.den) (unsigned_abs r.den) (IsQuotient-parts (value_of l)) (IsQuotient-parts (value_of r)))
      (ap (λ z. z *ℤ pos (unsigned_abs l.den * unsigned_abs r.den)) (e ∙ whole_num)
      ∙ ap (λ k. (l.num *ℤ r.num) *ℤ pos (k * unsigned_abs r.den)) left_is
      ∙ ap (λ k. (l.num *ℤ r.num) *ℤ pos (1 * k)) right_is
      ∙ ap (λ k. (l.num *ℤ r.num) *ℤ pos k) (sym f))

-- 1 has no divisor in common with any number
pub AreCoprime-one : (n : ℕ) → AreCoprime n 1
AreCoprime-one n = record { only_one = λ k p q. eq-one_of_dvd-one q }

-- a sum of two products of a numerator and a number that is no more than a denominator
module _ (l r : Fraction) (m n : ℕ) (s t : ℤ) (m_most : m ≤ 2 ^ 62) (n_most : n ≤ 2 ^ 62) (s_is : s ≡ l.num *ℤ pos m) (t_is : t ≡ r.num *ℤ pos n) where
  first-abs : unsigned_abs s ≤ 2 ^ 124
  first-abs = subst (λ z. unsigned_abs z ≤ 2 ^ 124) (sym s_is) (mul-abs l.num (pos m) l.num_in_range m_most)

  second-abs : unsigned_abs t ≤ 2 ^ 124
  second-abs = subst (λ z. unsigned_abs z ≤ 2 ^ 124) (sym t_is) (mul-abs r.num (pos n) r.num_in_range n_most)

  pub sum_fits : FitsSigned w128 (to_z w128 (of_z w128 s) +ℤ to_z w128 (of_z w128 t))
  sum_fits =
      let a = first-abs in
      let b = second-abs in
      subst (λ z. FitsSigned w128 (z +ℤ to_z w128 (of_z w128 t))) (sym (back128 s (omega arith)))
      (subst (λ z. FitsSigned w128 (s +ℤ z)) (sym (back128 t (omega arith)))
      (fits_signed_from_abs w128 (s +ℤ t) (omega (arith, add-abs s t a b))))

  sum_num : to_z w128 (of_z w128 (to_z w128 (of_z w128 s) +ℤ to_z w128 (of_z w128 t))) ≡ l.num *ℤ pos m +ℤ r.num *ℤ pos n
  sum_num = add_back s t first-abs second-abs ∙ ap (λ z. z +ℤ t) s_is ∙ ap (λ z. l.num *ℤ pos m +ℤ z) t_is

  sum_num-abs : unsigned_abs (to_z w128 (of_z w128 (to_z w128 (of_z w128 s) +ℤ to_z w128 (of_z w128 t)))) ≤ 2 ^ 125
  sum_num-abs =
      subst (λ z. unsigned_abs z ≤ 2 ^ 125) (sym (add_back s t first-abs second-abs)) (add-abs s t first-abs second-abs)

  -- divided by a divisor
  sum_quotient : (f : ℤ) (d : ℕ) → f ≡ pos d → d < 2 ^ 64
      → to_z w128 (of_z w128 (int_div (to_z w128 (of_z w128 (to_z w128 (of_z w128 s) +ℤ to_z w128 (of_z w128 t)))) (to_z w128 (of_z w128 f))))
      ≡ int_div (l.num *ℤ pos m +ℤ r.num *ℤ pos n) (pos d)
  sum_quotient f d f_is small =
      quotient_back (to_z w128 (of_z w128 (to_z w128 (of_z w128 s) +ℤ to_z w128 (of_z w128 t)))) f d sum_num-abs f_is small
      ∙ ap (λ z. int_div z (pos d)) sum_num

  -- and such a division is safe
  pub sum_quotient_fits : (f : ℤ) (d : ℕ) → f ≡ pos d → 1 ≤ d → d < 2 ^ 64
      → (0 < of_z w128 f)
      × FitsSigned w128 (int_div (to_z w128 (of_z w128 (to_z w128 (of_z w128 s) +ℤ to_z w128 (of_z w128 t)))) (to_z w128 (of_z w128 f)))
  sum_quotient_fits f d f_is some small = (
    subst (λ z. 0 < of_z w128 z) (sym f_is) some,
    subst (λ z. FitsSigned w128 (int_div (to_z w128 (of_z w128 (to_z w128 (of_z w128 s) +ℤ to_z w128 (of_z w128 t)))) z))
        (sym (ap (λ z. to_z w128 (of_z w128 z)) f_is ∙ back128 (pos d) (omega arith)))
        (fits_signed_from_abs w128 _
        (below (quotient-abs (to_z w128 (of_z w128 (to_z w128 (of_z w128 s) +ℤ to_z w128 (of_z w128 t)))) d) sum_num-abs)),
  )
    where
      below : {a b : ℕ} → a ≤ b → b ≤ 2 ^ 125 → a < 2 ^ 127
      below h k = omega arith

-- a part of a denominator
pub part-most : (f : Fraction) (d g : ℕ) → d ≡ unsigned_abs f.den → d / g ≤ 2 ^ 62
part-most f d g e =
    let h : d / g ≤ d = div-le_self d g in
    let k : unsigned_abs f.den ≤ 2 ^ 62 = f.den_in_range in
    omega arith

-- a sum over different denominators
module _ (l r : Fraction) (ld rd g u d x y : ℕ) (s t f : ℤ)
    (ld_is : ld ≡ unsigned_abs l.den) (rd_is : rd ≡ unsigned_abs r.den) (shared : IsGcd ld rd g)
    (s_is : s ≡ l.num *ℤ pos (rd / g)) (t_is : t ≡ r.num *ℤ pos (ld / g))
    (u_is : u ≡ unsigned_abs (to_z w128 (of_z w128 (to_z w128 (of_z w128 s) +ℤ to_z w128 (of_z w128 t)))))
    (divisor : IsGcd u g d) (f_is : f ≡ pos d) (small : d < 2 ^ 64) (x_is : x ≡ ld / g) (y_is : y ≡ rd / d) where
  cleaned : l.num *ℤ pos (rd / g) +ℤ r.num *ℤ pos (ld / g) ≡ l.num *ℤ pos (unsigned_abs r.den / g) +ℤ r.num *ℤ pos (unsigned_abs l.den / g)
  cleaned = ap (λ k. l.num *ℤ pos (k / g) +ℤ r.num *ℤ pos (ld / g)) rd_is ∙ ap (λ k. l.num *ℤ pos (unsigned_abs r.den / g) +ℤ r.num *ℤ pos (k / g)) ld_is

  both : IsGcd (unsigned_abs l.den) (unsigned_abs r.den) g
  both = IsGcd-at ld rd _ _ g ld_is rd_is shared

  again : IsGcd (unsigned_abs (l.num *ℤ pos (unsigned_abs r.den / g) +ℤ r.num *ℤ pos (unsigned_abs l.den / g))) g d
  again =
      IsGcd-at u g _ _ d
      (u_is ∙ ap unsigned_abs (sum_num l r (rd / g) (ld / g) s t (part-most r rd g rd_is) (part-most l ld g ld_is) s_is t_is ∙ cleaned))
      refl
      divisor

  sum_step_num : to_z w128 (of_z w128 (int_div (to_z w128 (of_z w128 (to_z w128 (of_z w128 s) +ℤ to_z w128 (of_z w128 t)))) (to_z w128 (of_z w128 f))))
      ≡ int_div (l.num *ℤ pos (unsigned_abs r.den / g) +ℤ r.num *ℤ pos (unsigned_abs l.den / g)) (pos d)
  sum_step_num =
      sum_quotient l r (rd / g) (ld / g) s t (part-most r rd g rd_is) (part-most l ld g ld_is) s_is t_is f d f_is small
      ∙ ap (λ z. int_div z (pos d)) cleaned

  sum_step_den : x * y ≡ (unsigned_abs l.den / g) * (unsigned_abs r.den / d)
  sum_step_den = cc

  pub IsReduced-sum_step : IsReduced (l.num *ℤ pos (unsigned_abs r.den) +ℤ r.num *ℤ pos (unsigned_abs l.den)) (unsigned_abs l.den * unsigned_abs r.den)
      (to_z w128 (of_z w128 (int_div (to_z w128 (of_z w128 (to_z w128 (of_z w128 s) +ℤ to_z w128 (of_z w128 t)))) (to_z w128 (of_z w128 f)))))
      (x * y)
  unfolding value_of
  IsReduced-sum_step = IsReduced-at _ _ _ _ _ _ sum_step_num sum_step_den (IsReduced-sum (value_of l) (value_of r) g d both again)

  pub same_sum_step : (w : ℚ)
      → w.num ≡ to_z w128 (of_z w128 (int_div (to_z w128 (of_z w128 (to_z w128 (of_z w128 s) +ℤ to_z w128 (of_z w128 t)))) (to_z w128 (of_z w128 f))))
      → w.den ≡ x * y → w ≡ value_of l +ℚ value_of r
  unfolding value_of
  same_sum_step w e k = same_sum (value_of l) (value_of r) g d both again w (e ∙ sum_step_num) (k ∙ sum_step_den)

-- a sum over one denominator
ones : (a b : ℤ) → a *ℤ pos 1 +ℤ b *ℤ pos 1 ≡ a +ℤ b
ones a b = same_value (plus (times (var a) (nat 1)) (times (var b) (nat 1))) (plus (var a) (var b)) (omega arith)

module _ (l r : Fraction) (k : ℕ) (s t : ℤ) (left_is : unsigned_abs l.den ≡ k) (right_is : unsigned_abs r.den ≡ k)
    (s_is : s ≡ l.num *ℤ pos 1) (t_is : t ≡ r.num *ℤ pos 1) where
  over_num : to_z w128 (of_z w128 (to_z w128 (of_z w128 s) +ℤ to_z w128 (of_z w128 t))) ≡ l.num +ℤ r.num
  over_num = sum_num l r 1 1 s t (lit≤ tt) (lit≤ tt) s_is t_is ∙ ones l.num r.num

  -- of whole numbers
  pub IsReduced-whole_step : k ≡ 1
      → IsReduced (l.num +ℤ r.num) (unsigned_abs l.den) (to_z w128 (of_z w128 (to_z w128 (of_z w128 s) +ℤ to_z w128 (of_z w128 t)))) 1
  IsReduced-whole_step one = record {
    positive = lit≤ tt;
    lowest = AreCoprime-one _;
    cross = ap (λ z. z *ℤ pos (unsigned_abs l.den)) over_num ∙ ap (λ n. (l.num +ℤ r.num) *ℤ pos n) (left_is ∙ one);
  }

  pub same_over : (w : ℚ) (m : ℤ) (d : ℕ) → IsReduced (l.num +ℤ r.num) (unsigned_abs l.den) m d → w.num ≡ m → w.den ≡ d → w ≡ value_of l +ℚ value_of r
  unfolding value_of
  same_over w m d x e f = same_sum_over (value_of l) (value_of r) w m d (left_is ∙ sym right_is) x e f

  pub IsReduced-over_step : (u d y : ℕ) (f : ℤ)
      → u ≡ unsigned_abs (to_z w128 (of_z w128 (to_z w128 (of_z w128 s) +ℤ to_z w128 (of_z w128 t))))
      → IsGcd u k d → f ≡ pos d → d < 2 ^ 64 → y ≡ k / d
      → IsReduced (l.num +ℤ r.num) (unsigned_abs l.den)
      (to_z w128 (of_z w128 (int_div (to_z w128 (of_z w128 (to_z w128 (of_z w128 s) +ℤ to_z w128 (of_z w128 t)))) (to_z w128 (of_z w128 f))))) y
  IsReduced-over_step u d y f u_is divisor f_is small y_is =
      IsReduced-at _ _ _ _ _ _
      (sum_quotient l r 1 1 s t (lit≤ tt) (lit≤ tt) s_is t_is f d f_is small ∙ ap (λ z. int_div z (pos d)) (ones l.num r.num))
      (y_is ∙ ap (λ n. n / d) (sym left_is))
      (IsReduced-quotient (l.num +ℤ r.num) (unsigned_abs l.den) d (abs-positive l.den l.positive)
      (IsGcd-at u k _ _ d (u_is ∙ ap unsigned_abs over_num) (sym left_is) divisor))

-- a numerator and a denominator of a fraction
pub record IsFraction (n d : ℤ) : Type 0 where
  pub positive : pos 1 ≤ℤ d
  pub lowest : AreCoprime (unsigned_abs n) (unsigned_abs d)
  pub num_in_range : unsigned_abs n ≤ 2 ^ 62
  pub den_in_range : unsigned_abs d ≤ 2 ^ 62

pub IsFraction-at : (n d m e : ℤ) → m ≡ n → e ≡ d → IsFraction n d → IsFraction m e
IsFraction-at n d m e p q h = subst (λ z. IsFraction z e) (sym p) (subst (λ z. IsFraction n z) (sym q) h)

-- from numbers in range
back_den : (f : Fraction) → to_z w64 (of_z w64 f.den) ≡ f.den
back_den f = let h : unsigned_abs f.den ≤ 2 ^ 62 = f.den_in_range in back64 f.den (omega arith)

back_num : (f : Fraction) → to_z w64 (of_z w64 f.num) ≡ f.num
back_num f = let h : unsigned_abs f.num ≤ 2 ^ 62 = f.num_in_range in back64 f.num (omega arith)

back_neg : (z : ℤ) → unsigned_abs z ≤ 2 ^ 62 → to_z w64 (of_z w64 (pos 0 -ℤ to_z w64 (of_z w64 z))) ≡ pos 0 -ℤ z
back_neg z h =
    ap (λ y. to_z w64 (of_z w64 (pos 0 -ℤ y))) (back64 z (omega arith))
    ∙ back64 (pos 0 -ℤ z) (subst (λ n. n < 2 ^ 63) (sym (abs-neg z)) (omega arith))

-- the opposite
pub opposite_step : (f : Fraction) → IsFraction (to_z w64 (of_z w64 (pos 0 -ℤ to_z w64 (of_z w64 f.num)))) (to_z w64 (of_z w64 f.den))
opposite_step f =
    IsFraction-at (pos 0 -ℤ f.num) f.den _ _ (back_neg f.num f.num_in_range) (back_den f)
    record {
      positive = f.positive;
      lowest = subst (λ n. AreCoprime n (unsigned_abs f.den)) (sym (abs-neg f.num)) f.lowest;
      num_in_range = subst (λ n. n ≤ 2 ^ 62) (sym (abs-neg f.num)) f.num_in_range;
      den_in_range = f.den_in_range;
    }

pub same_opposite_step : (f : Fraction) (w : ℚ) → w.num ≡ to_z w64 (of_z w64 (pos 0 -ℤ to_z w64 (of_z w64 f.num)))
    → w.den ≡ unsigned_abs (to_z w64 (of_z w64 f.den)) → w ≡ neg_ℚ (value_of f)
unfolding value_of
same_opposite_step f w e k = same_neg (value_of f) w (e ∙ back_neg f.num f.num_in_range) (k ∙ ap unsigned_abs (back_den f))

-- the sign of a numerator, as it is tested
negative : (z : ℤ) → lt_z z (pos 0) ≡ true → z <ℤ pos 0
negative z h = grind (arith, ints)

not_negative : (z : ℤ) → lt_z z (pos 0) ≡ false → pos 0 ≤ℤ z
not_negative z h = grind (arith, ints)

sign_negative : (f : Fraction) → lt_z (to_z w64 (of_z w64 f.num)) (pos 0) ≡ true → f.num <ℤ pos 0
sign_negative f h = negative f.num (ap (λ z. lt_z z (pos 0)) (sym (back_num f)) ∙ h)

sign_positive : (f : Fraction) → lt_z (to_z w64 (of_z w64 f.num)) (pos 0) ≡ false → pos 0 ≤ℤ f.num
sign_positive f h = not_negative f.num (ap (λ z. lt_z z (pos 0)) (sym (back_num f)) ∙ h)

-- the inverse of a negative number
at_least_one : (z : ℤ) → z ≢ pos 0 → pos 0 ≤ℤ z → pos 1 ≤ℤ z
at_least_one z other h = by_lt_z (pos 0) z (λ lt. omega (arith, ints)) (λ ge. absurd (other (omega (arith, ints))))

pub den_is : (f : Fraction) → f.den ≡ pos (unsigned_abs f.den)
den_is f = let h : pos 1 ≤ℤ f.den = f.positive in positive_is f.den (omega (arith, ints))

module _ (f : Fraction) (test : lt_z (to_z w64 (of_z w64 f.num)) (pos 0) ≡ true) where
  pub turned_negative_step : IsFraction (to_z w64 (of_z w64 (pos 0 -ℤ to_z w64 (of_z w64 f.den)))) (to_z w64 (of_z w64 (pos 0 -ℤ to_z w64 (of_z w64 f.num))))
  turned_negative_step =
      IsFraction-at (pos 0 -ℤ f.den) (pos 0 -ℤ f.num) _ _ (back_neg f.den f.den_in_range) (back_neg f.num f.num_in_range)
      record {
        positive = let h : f.num <ℤ pos 0 = sign_negative f test in omega (arith, ints);
        lowest = record { only_one = λ k p q. f.lowest.only_one k (subst (λ n. k ∣ n) (abs-neg f.num) q) (subst (λ n. k ∣ n) (abs-neg f.den) p) };
        num_in_range = subst (λ n. n ≤ 2 ^ 62) (sym (abs-neg f.den)) f.den_in_range;
        den_in_range = subst (λ n. n ≤ 2 ^ 62) (sym (abs-neg f.num)) f.num_in_range;
      }

  pub same_turned_negative_step : f.num ≢ pos 0 → (w : ℚ) → w.num ≡ to_z w64 (of_z w64 (pos 0 -ℤ to_z w64 (of_z w64 f.den)))
      → w.den ≡ unsigned_abs (to_z w64 (of_z w64 (pos 0 -ℤ to_z w64 (of_z w64 f.num)))) → w ≡ inverse (value_of f)
  unfolding value_of
  same_turned_negative_step other w e k =
      same_inverse_negative (value_of f) w other (sign_negative f test)
      (e ∙ back_neg f.den f.den_in_range ∙ ap (λ z. pos 0 -ℤ z) (den_is f))
      (k ∙ ap unsigned_abs (back_neg f.num f.num_in_range) ∙ abs-neg f.num)

-- the inverse of a positive number
module _ (f : Fraction) (other : f.num ≢ pos 0) (test : lt_z (to_z w64 (of_z w64 f.num)) (pos 0) ≡ false) where
  pub turned_positive_step : IsFraction (to_z w64 (of_z w64 f.den)) (to_z w64 (of_z w64 f.num))
  turned_positive_step =
      IsFraction-at f.den f.num _ _ (back_den f) (back_num f)
      record {
        positive = at_least_one f.num other (sign_positive f test);
        lowest = record { only_one = λ k p q. f.lowest.only_one k q p };
        num_in_range = f.den_in_range;
        den_in_range = f.num_in_range;
      }

  pub same_turned_positive_step : (w : ℚ) → w.num ≡ to_z w64 (of_z w64 f.den) → w.den ≡ unsigned_abs (to_z w64 (of_z w64 f.num)) → w ≡ inverse (value_of f)
  unfolding value_of
  same_turned_positive_step w e k =
      same_inverse_positive (value_of f) w other (sign_positive f test) (e ∙ back_den f ∙ den_is f) (k ∙ ap unsigned_abs (back_num f))

-- a quotient of whole numbers
fits-abs : (z : ℤ) → FitsSigned w64 z → unsigned_abs z ≤ 2 ^ 63
fits-abs (pos n) h = omega (arith, h.sfits)
fits-abs (negsuc n) h = omega (arith, h.sfits)

module _ (n d a b : ℤ) (u v t g y : ℕ) (n_fits : FitsSigned w64 n) (d_fits : FitsSigned w64 d) (other : d ≢ pos 0)
    (u_is : u ≡ unsigned_abs (to_z w64 (of_z w64 n))) (v_is : v ≡ unsigned_abs (to_z w64 (of_z w64 d))) (divisor : IsGcd u v g) (small : g < 2 ^ 64)
    (a_is : a ≡ to_z w64 (of_z w64 n)) (b_is : b ≡ pos g) (t_is : t ≡ unsigned_abs (to_z w64 (of_z w64 d))) (y_is : y ≡ t / g) where
  quotient_num : to_z w128 (of_z w128 (int_div (to_z w128 (of_z w128 a)) (to_z w128 (of_z w128 b)))) ≡ int_div n (pos g)
  quotient_num =
      let most : unsigned_abs n ≤ 2 ^ 63 = fits-abs n n_fits in
      ap (λ z. to_z w128 (of_z w128 (int_div (to_z w128 (of_z w128 z)) (to_z w128 (of_z w128 b))))) (a_is ∙ to_z-of_z w64 n n_fits)
      ∙ ap (λ z. to_z w128 (of_z w128 (int_div z (to_z w128 (of_z w128 b))))) (back128 n (omega arith))
      ∙ quotient_back n b g (omega arith) b_is small

  pub quotient_step : IsReduced n (unsigned_abs d) (to_z w128 (of_z w128 (int_div (to_z w128 (of_z w128 a)) (to_z w128 (of_z w128 b))))) y
  quotient_step =
      IsReduced-at _ _ _ _ _ _ quotient_num (y_is ∙ ap (λ k. k / g) (t_is ∙ ap unsigned_abs (to_z-of_z w64 d d_fits)))
      (IsReduced-quotient n (unsigned_abs d) g (some_abs d other)
      (IsGcd-at u v _ _ g (u_is ∙ ap unsigned_abs (to_z-of_z w64 n n_fits)) (v_is ∙ ap unsigned_abs (to_z-of_z w64 d d_fits)) divisor))

  opposite_num : to_z w128 (of_z w128 (pos 0 -ℤ to_z w128 (of_z w128 (int_div (to_z w128 (of_z w128 a)) (to_z w128 (of_z w128 b))))))
      ≡ pos 0 -ℤ to_z w128 (of_z w128 (int_div (to_z w128 (of_z w128 a)) (to_z w128 (of_z w128 b))))
  opposite_num =
      let most : unsigned_abs n ≤ 2 ^ 63 = fits-abs n n_fits in
      let part = to_z w128 (of_z w128 (int_div (to_z w128 (of_z w128 a)) (to_z w128 (of_z w128 b)))) in
      let within : unsigned_abs part ≤ unsigned_abs n = subst (λ z. unsigned_abs z ≤ unsigned_abs n) (sym quotient_num) (quotient-abs n g) in
      back128 (pos 0 -ℤ part) (subst (λ k. k < 2 ^ 127) (sym (abs-neg part)) (omega arith))

  pub opposite_lowest : AreCoprime (unsigned_abs (to_z w128 (of_z w128 (pos 0 -ℤ to_z w128 (of_z w128 (int_div (to_z w128 (of_z w128 a)) (to_z w128 (of_z w128 b)))))))) y
  opposite_lowest =
      subst (λ k. AreCoprime k y)
      (sym (ap unsigned_abs opposite_num ∙ abs-neg (to_z w128 (of_z w128 (int_div (to_z w128 (of_z w128 a)) (to_z w128 (of_z w128 b)))))))
      quotient_step.lowest

  pub same_quotient_step : lt_z (to_z w64 (of_z w64 d)) (pos 0) ≡ false → (w : ℚ)
      → w.num ≡ to_z w128 (of_z w128 (int_div (to_z w128 (of_z w128 a)) (to_z w128 (of_z w128 b)))) → w.den ≡ y → w ≡ whole n /ℚ whole d
  same_quotient_step test w e k =
      same_quotient_positive n d _ y other quotient_step w k (not_negative d (ap (λ z. lt_z z (pos 0)) (sym (to_z-of_z w64 d d_fits)) ∙ test)) e

  pub same_opposite_quotient_step : lt_z (to_z w64 (of_z w64 d)) (pos 0) ≡ true → (w : ℚ)
      → w.num ≡ to_z w128 (of_z w128 (pos 0 -ℤ to_z w128 (of_z w128 (int_div (to_z w128 (of_z w128 a)) (to_z w128 (of_z w128 b))))))
      → w.den ≡ y → w ≡ whole n /ℚ whole d
  same_opposite_quotient_step test w e k =
      same_quotient_negative n d _ y other quotient_step w k (negative d (ap (λ z. lt_z z (pos 0)) (sym (to_z-of_z w64 d d_fits)) ∙ test)) (e ∙ opposite_num)

-- a comparison of cross products
less_cases : (o : Ordering) (x y : ℤ) → MatchOrdering o (x <ℤ y) (x ≡ y) (y <ℤ x) → (o ≡ Less → x <ℤ y) × (x <ℤ y → o ≡ Less)
less_cases Less x y h = (λ _. h, λ _. refl)
less_cases Equal x y h = (λ e. cc, λ k. absurd (omega (arith, ints, h, k)))
less_cases Greater x y h = (λ e. cc, λ k. absurd (omega (arith, ints, h, k)))

equal_cases : (o : Ordering) (x y : ℤ) → MatchOrdering o (x <ℤ y) (x ≡ y) (y <ℤ x) → (o ≡ Equal → x ≡ y) × (x ≡ y → o ≡ Equal)
equal_cases Less x y h = (λ e. cc, λ k. absurd (omega (arith, ints, h, k)))
equal_cases Equal x y h = (λ _. h, λ _. refl)
equal_cases Greater x y h = (λ e. cc, λ k. absurd (omega (arith, ints, h, k)))

greater_cases : (o : Ordering) (x y : ℤ) → MatchOrdering o (x <ℤ y) (x ≡ y) (y <ℤ x) → (o ≡ Greater → y <ℤ x) × (y <ℤ x → o ≡ Greater)
greater_cases Less x y h = (λ e. cc, λ k. absurd (omega (arith, ints, h, k)))
greater_cases Equal x y h = (λ e. cc, λ k. absurd (omega (arith, ints, h, k)))
greater_cases Greater x y h = (λ _. h, λ _. refl)

module _ (l r : Fraction) (m n : ℕ) (x y : ℤ) (o : Ordering) (m_is : m ≡ unsigned_abs r.den) (n_is : n ≡ unsigned_abs l.den)
    (x_is : x ≡ l.num *ℤ pos m) (y_is : y ≡ r.num *ℤ pos n) (o_is : o ≡ int_cmp (to_z w128 (of_z w128 x)) (to_z w128 (of_z w128 y))) where
  left_cross : to_z w128 (of_z w128 x) ≡ l.num *ℤ pos (unsigned_abs r.den)
  left_cross =
      let most = mul-abs l.num (pos (unsigned_abs r.den)) l.num_in_range r.den_in_range in
      ap (λ z. to_z w128 (of_z w128 z)) (x_is ∙ ap (λ k. l.num *ℤ pos k) m_is) ∙ back128 (l.num *ℤ pos (unsigned_abs r.den)) (omega (arith, most))

  right_cross : to_z w128 (of_z w128 y) ≡ r.num *ℤ pos (unsigned_abs l.den)
  right_cross =
      let most = mul-abs r.num (pos (unsigned_abs l.den)) r.num_in_range l.den_in_range in
      ap (λ z. to_z w128 (of_z w128 z)) (y_is ∙ ap (λ k. r.num *ℤ pos k) n_is) ∙ back128 (r.num *ℤ pos (unsigned_abs l.den)) (omega (arith, most))

  ranked : MatchOrdering o ((l.num *ℤ pos (unsigned_abs r.den)) <ℤ (r.num *ℤ pos (unsigned_abs l.den)))
      (l.num *ℤ pos (unsigned_abs r.den) ≡ r.num *ℤ pos (unsigned_abs l.den))
      ((r.num *ℤ pos (unsigned_abs l.den)) <ℤ (l.num *ℤ pos (unsigned_abs r.den)))
  ranked = int_ranked _ _ o (o_is ∙ ap (λ z. int_cmp z (to_z w128 (of_z w128 y))) left_cross ∙ ap (λ z. int_cmp (l.num *ℤ pos (unsigned_abs r.den)) z) right_cross)

  pub less_step : (o ≡ Less → value_of l <ℚ value_of r) × (value_of l <ℚ value_of r → o ≡ Less)
  unfolding value_of
  less_step = let f = less_cases o _ _ ranked in (λ e. record { cross = f.0 e }, λ h. f.1 h.cross)

  pub equal_step : (o ≡ Equal → value_of l ≡ value_of r) × (value_of l ≡ value_of r → o ≡ Equal)
  unfolding value_of
  equal_step =
      let f = equal_cases o _ _ ranked in
      (λ e. same_from_cross (value_of l) (value_of r) (f.0 e), λ h. f.1 (cross_from_same (value_of l) (value_of r) h))

  pub greater_step : (o ≡ Greater → value_of r <ℚ value_of l) × (value_of r <ℚ value_of l → o ≡ Greater)
  unfolding value_of
  greater_step = let f = greater_cases o _ _ ranked in (λ e. record { cross = f.0 e }, λ h. f.1 h.cross)
