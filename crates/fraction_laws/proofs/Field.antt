-- The laws of a commutative field for the rational numbers.
use Rattle.std.proofs.Common.{◌≡◌, ◌≢◌, ℕ, zero, suc, ◌*◌, refl, sym, ap, ◌∙◌, arith, zero-lt-suc, ℤ, pos, negsuc, ◌*ℤ◌, ◌-ℤ◌}
use Rattle.number_laws.proofs.Ring.{var, nat, minus, times, same_value}
use Rattle.fraction_laws.specs.Rational.{ℚ, whole, ◌+ℚ◌, ◌-ℚ◌, ◌*ℚ◌, neg_ℚ, inverse, turned}
use Rattle.fraction_laws.proofs.Cross.{IsQuotient, IsQuotient-ratio, IsQuotient-parts}
use Rattle.fraction_laws.proofs.Expression.{this, int, add, sub, mul, neg, same_meaning, same_quotients, IsQuotient-times, IsQuotient-whole}

pub add_comm : (a b : ℚ) → a +ℚ b ≡ b +ℚ a
add_comm a b = same_meaning (add (this a) (this b)) (add (this b) (this a)) (omega arith)

pub add_assoc : (a b c : ℚ) → (a +ℚ b) +ℚ c ≡ a +ℚ (b +ℚ c)
add_assoc a b c = same_meaning (add (add (this a) (this b)) (this c)) (add (this a) (add (this b) (this c))) (omega arith)

pub add-zero : (a : ℚ) → a +ℚ whole (pos 0) ≡ a
add-zero a = same_meaning (add (this a) (int (pos 0))) (this a) (omega arith)

pub add-neg : (a : ℚ) → a +ℚ neg_ℚ a ≡ whole (pos 0)
add-neg a = same_meaning (add (this a) (neg (this a))) (int (pos 0)) (omega arith)

pub mul_comm : (a b : ℚ) → a *ℚ b ≡ b *ℚ a
mul_comm a b = same_meaning (mul (this a) (this b)) (mul (this b) (this a)) (omega arith)

pub mul_assoc : (a b c : ℚ) → (a *ℚ b) *ℚ c ≡ a *ℚ (b *ℚ c)
mul_assoc a b c = same_meaning (mul (mul (this a) (this b)) (this c)) (mul (this a) (mul (this b) (this c))) (omega arith)

pub mul-one : (a : ℚ) → a *ℚ whole (pos 1) ≡ a
mul-one a = same_meaning (mul (this a) (int (pos 1))) (this a) (omega arith)

pub mul-add : (a b c : ℚ) → a *ℚ (b +ℚ c) ≡ a *ℚ b +ℚ a *ℚ c
mul-add a b c = same_meaning (mul (this a) (add (this b) (this c))) (add (mul (this a) (this b)) (mul (this a) (this c))) (omega arith)

pub mul-zero : (a : ℚ) → a *ℚ whole (pos 0) ≡ whole (pos 0)
mul-zero a = same_meaning (mul (this a) (int (pos 0))) (int (pos 0)) (omega arith)

pub sub_self : (a : ℚ) → a -ℚ a ≡ whole (pos 0)
sub_self a = same_meaning (sub (this a) (this a)) (int (pos 0)) (omega arith)

-- a number that is not 0 as a numerator, turned over: the product of both numerators is that of both denominators
turned-times : (n : ℤ) (d : ℕ) → n ≢ pos 0 → (m : ℤ) × (e : ℕ) × IsQuotient (turned n d) m e × (n *ℤ m ≡ pos (d * e))
unfolding turned
turned-times (pos zero) d other = absurd (other refl)
turned-times (pos (suc k)) d other =
    (pos d, suc k, IsQuotient-ratio (pos d) (suc k) (zero-lt-suc k), same_value (times (nat (suc k)) (nat d)) (nat (d * suc k)) (omega arith))
turned-times (negsuc k) d other = (
  pos 0 -ℤ pos d,
  suc k,
  IsQuotient-ratio (pos 0 -ℤ pos d) (suc k) (zero-lt-suc k),
  same_value (times (var (negsuc k)) (minus (nat 0) (nat d))) (nat (d * suc k)) (omega arith),
)

-- only 0 has the numerator 0
pub zero_from_num : (a : ℚ) → a.num ≡ pos 0 → a ≡ whole (pos 0)
zero_from_num a e =
    same_quotients a (whole (pos 0)) a.num (pos 0) a.den 1 (IsQuotient-parts a) (IsQuotient-whole (pos 0))
    (ap (λ z. z *ℤ pos 1) e ∙ same_value (times (nat 0) (nat 1)) (times (nat 0) (nat a.den)) (omega arith))

-- a number that is not 0 times its inverse is 1
pub mul-inverse : (a : ℚ) → a ≢ whole (pos 0) → a *ℚ inverse a ≡ whole (pos 1)
unfolding inverse
mul-inverse a other =
    let t = turned-times a.num a.den (λ e. other (zero_from_num a e)) in
    same_quotients (a *ℚ turned a.num a.den) (whole (pos 1)) (a.num *ℤ t.0) (pos 1) (a.den * t.1) 1
    (IsQuotient-times a (turned a.num a.den) a.num t.0 a.den t.1 (IsQuotient-parts a) t.2)
    (IsQuotient-whole (pos 1))
    (ap (λ z. z *ℤ pos 1) t.3 ∙ same_value (times (nat (a.den * t.1)) (nat 1)) (times (nat 1) (nat (a.den * t.1))) (omega arith))

-- 0 and 1 differ
pub one_is_not_zero : whole (pos 1) ≢ whole (pos 0)
unfolding whole
one_is_not_zero e = let f : pos 1 ≡ pos 0 = ap (λ q. q.num) e in cc

-- a product of two numbers that are not 0 is not 0
pub mul-eq-zero : (a b : ℚ) → a ≢ whole (pos 0) → a *ℚ b ≡ whole (pos 0) → b ≡ whole (pos 0)
mul-eq-zero a b other e =
    let one : b ≡ (a *ℚ inverse a) *ℚ b = sym (mul_comm (whole (pos 1)) b ∙ mul-one b) ∙ ap (λ q. q *ℚ b) (sym (mul-inverse a other)) in
    let turn : (a *ℚ inverse a) *ℚ b ≡ inverse a *ℚ (a *ℚ b) = ap (λ q. q *ℚ b) (mul_comm a (inverse a)) ∙ mul_assoc (inverse a) a b in
    one ∙ turn ∙ ap (λ q. inverse a *ℚ q) e ∙ mul-zero (inverse a)

-- a factor that is not 0 is cancelled
pub mul_left_cancel : (a b c : ℚ) → a ≢ whole (pos 0) → a *ℚ b ≡ a *ℚ c → b ≡ c
mul_left_cancel a b c other e =
    let back : (x : ℚ) → x ≡ inverse a *ℚ (a *ℚ x) = λ x. sym (cancel x) in
    back b ∙ ap (λ q. inverse a *ℚ q) e ∙ sym (back c)
  where
    cancel : (x : ℚ) → inverse a *ℚ (a *ℚ x) ≡ x
    cancel x =
        sym (mul_assoc (inverse a) a x)
        ∙ ap (λ q. q *ℚ x) (mul_comm (inverse a) a ∙ mul-inverse a other)
        ∙ mul_comm (whole (pos 1)) x
        ∙ mul-one x
