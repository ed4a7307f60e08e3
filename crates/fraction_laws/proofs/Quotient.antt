-- Quotients: one number is n / d exactly where its cross products with n and d are equal.
use Rattle.std.proofs.Common.{◌≡◌, ◌≢◌, ℕ, ◌*◌, sym, ap, ◌∙◌, subst, arith, ℤ, pos, ◌*ℤ◌}
use Rattle.number_laws.proofs.Ring.{var, nat, times, same_value}
use Rattle.fraction_laws.specs.Rational.{ℚ, whole, ◌*ℚ◌, ◌/ℚ◌, inverse}
use Rattle.fraction_laws.proofs.Cross.{IsQuotient-parts}
use Rattle.fraction_laws.proofs.Expression.{same_quotients, cross_of_quotients, IsQuotient-times, IsQuotient-whole}
use Rattle.fraction_laws.proofs.Field.{mul_comm, mul_assoc, mul-one, mul-inverse}

-- a quotient times its divisor is the dividend
pub div-mul_cancel : (a b : ℚ) → b ≢ whole (pos 0) → (a /ℚ b) *ℚ b ≡ a
unfolding ◌/ℚ◌
div-mul_cancel a b other =
    mul_assoc a (inverse b) b ∙ ap (λ q. a *ℚ q) (mul_comm (inverse b) b ∙ mul-inverse b other) ∙ mul-one a

-- a product divided by one of its factors is the other
pub mul-div_cancel : (a b : ℚ) → b ≢ whole (pos 0) → (a *ℚ b) /ℚ b ≡ a
unfolding ◌/ℚ◌
mul-div_cancel a b other = mul_assoc a b (inverse b) ∙ ap (λ q. a *ℚ q) (mul-inverse b other) ∙ mul-one a

pub whole-injective : (n m : ℤ) → whole n ≡ whole m → n ≡ m
unfolding whole
whole-injective n m e = ap (λ q. q.num) e

-- a number with the cross products of n / d is that quotient
pub quotient_from_cross : (q : ℚ) (n d : ℤ) → d ≢ pos 0 → q.num *ℤ d ≡ n *ℤ pos q.den → q ≡ whole n /ℚ whole d
quotient_from_cross q n d other e =
    let product : q *ℚ whole d ≡ whole n =
    same_quotients (q *ℚ whole d) (whole n) (q.num *ℤ d) n (q.den * 1) 1
    (IsQuotient-times q (whole d) q.num d q.den 1 (IsQuotient-parts q) (IsQuotient-whole d))
    (IsQuotient-whole n)
    (ap (λ z. z *ℤ pos 1) e ∙ same_value (times (times (var n) (nat q.den)) (nat 1)) (times (var n) (nat (q.den * 1))) (omega arith)) in
    sym (mul-div_cancel q (whole d) (λ z. other (whole-injective d (pos 0) z))) ∙ ap (λ r. r /ℚ whole d) product

-- the quotient n / d has the cross products of n and d
pub cross_of_quotient : (n d : ℤ) → d ≢ pos 0 → (whole n /ℚ whole d).num *ℤ d ≡ n *ℤ pos (whole n /ℚ whole d).den
cross_of_quotient n d other =
    let q = whole n /ℚ whole d in
    let e : (q.num *ℤ d) *ℤ pos 1 ≡ n *ℤ pos (q.den * 1) =
    cross_of_quotients (q *ℚ whole d) (whole n) (q.num *ℤ d) n (q.den * 1) 1
    (IsQuotient-times q (whole d) q.num d q.den 1 (IsQuotient-parts q) (IsQuotient-whole d))
    (IsQuotient-whole n)
    (div-mul_cancel (whole n) (whole d) (λ z. other (whole-injective d (pos 0) z))) in
    without_ones (q.num *ℤ d) n q.den e
  where
    without_ones : (z n : ℤ) (x : ℕ) → z *ℤ pos 1 ≡ n *ℤ pos (x * 1) → z ≡ n *ℤ pos x
    without_ones z n x e =
        same_value (var z) (times (var z) (nat 1)) (omega arith)
        ∙ e
        ∙ same_value (times (var n) (nat (x * 1))) (times (var n) (nat x)) (omega arith)

pub cross_from_quotient : (q : ℚ) (n d : ℤ) → d ≢ pos 0 → q ≡ whole n /ℚ whole d → q.num *ℤ d ≡ n *ℤ pos q.den
cross_from_quotient q n d other e = subst (λ r. r.num *ℤ d ≡ n *ℤ pos r.den) (sym e) (cross_of_quotient n d other)

-- the quotient of two numbers, by cross products with both, in both directions
module _ (a b : ℚ) (other : b ≢ whole (pos 0)) where
  pub div_from_cross : (q : ℚ) → q.num *ℤ (pos a.den *ℤ b.num) ≡ (a.num *ℤ pos b.den) *ℤ pos q.den → q ≡ a /ℚ b
  div_from_cross q e =
      sym (mul-div_cancel q b other)
      ∙ ap (λ r. r /ℚ b)
      (same_quotients (q *ℚ b) a (q.num *ℤ b.num) a.num (q.den * b.den) a.den
      (IsQuotient-times q b q.num b.num q.den b.den (IsQuotient-parts q) (IsQuotient-parts b))
      (IsQuotient-parts a)
      (regrouped q.num b.num a.num q.den b.den a.den e))
    where
      regrouped : (q b a : ℤ) (x y z : ℕ) → q *ℤ (pos z *ℤ b) ≡ (a *ℤ pos y) *ℤ pos x → (q *ℤ b) *ℤ pos z ≡ a *ℤ pos (x * y)
      regrouped q b a x y z e =
          same_value (times (times (var q) (var b)) (nat z)) (times (var q) (times (nat z) (var b))) (omega arith)
          ∙ e
          ∙ same_value (times (times (var a) (nat y)) (nat x)) (times (var a) (nat (x * y))) (omega arith)

  pub cross_of_div : (a /ℚ b).num *ℤ (pos a.den *ℤ b.num) ≡ (a.num *ℤ pos b.den) *ℤ pos (a /ℚ b).den
  cross_of_div =
      let q = a /ℚ b in
      regrouped q.num b.num a.num q.den b.den a.den
      (cross_of_quotients (q *ℚ b) a (q.num *ℤ b.num) a.num (q.den * b.den) a.den
      (IsQuotient-times q b q.num b.num q.den b.den (IsQuotient-parts q) (IsQuotient-parts b))
      (IsQuotient-parts a)
      (div-mul_cancel a b other))
    where
      regrouped : (q b a : ℤ) (x y z : ℕ) → (q *ℤ b) *ℤ pos z ≡ a *ℤ pos (x * y) → q *ℤ (pos z *ℤ b) ≡ (a *ℤ pos y) *ℤ pos x
      regrouped q b a x y z e =
          same_value (times (var q) (times (nat z) (var b))) (times (times (var q) (var b)) (nat z)) (omega arith)
          ∙ e
          ∙ same_value (times (var a) (nat (x * y))) (times (times (var a) (nat y)) (nat x)) (omega arith)
