-- Finite sums of rational numbers: they are linear, keep an order, and two of them may be exchanged.
use Rattle.std.proofs.Common.{◌≡◌, pos, List, [], ◌∷◌, ◌++◌, refl, sym, ap, ◌∙◌, arith}
use Rattle.fraction_laws.specs.Rational.{ℚ, whole, ◌+ℚ◌, ◌-ℚ◌, ◌*ℚ◌, ◌≤ℚ◌, sum_ℚ}
use Rattle.fraction_laws.proofs.Expression.{this, int, add, sub, mul, same_meaning}
use Rattle.fraction_laws.proofs.Field.{add_assoc}
use Rattle.fraction_laws.proofs.Order.{le_refl, add_le_add}

zero-add : (a : ℚ) → whole (pos 0) +ℚ a ≡ a
zero-add a = same_meaning (add (int (pos 0)) (this a)) (this a) (omega arith)

-- two sums of two numbers, in the other order
pub add_swapped : (a b c d : ℚ) → (a +ℚ b) +ℚ (c +ℚ d) ≡ (a +ℚ c) +ℚ (b +ℚ d)
add_swapped a b c d =
    same_meaning (add (add (this a) (this b)) (add (this c) (this d))) (add (add (this a) (this c)) (add (this b) (this d))) (omega arith)

pub sum_ℚ-nil : {X : Type 0} → (f : X → ℚ) → sum_ℚ f [] ≡ whole (pos 0)
unfolding sum_ℚ
sum_ℚ-nil f = refl

pub sum_ℚ-cons : {X : Type 0} → (f : X → ℚ) (x : X) (xs : List X) → sum_ℚ f (x ∷ xs) ≡ f x +ℚ sum_ℚ f xs
unfolding sum_ℚ
sum_ℚ-cons f x xs = refl

pub sum_ℚ-append : {X : Type 0} → (f : X → ℚ) (xs ys : List X) → sum_ℚ f (xs ++ ys) ≡ sum_ℚ f xs +ℚ sum_ℚ f ys
unfolding sum_ℚ
sum_ℚ-append f [] ys = sym (zero-add (sum_ℚ f ys))
sum_ℚ-append f (x ∷ xs) ys = ap (λ q. f x +ℚ q) (sum_ℚ-append f xs ys) ∙ sym (add_assoc (f x) (sum_ℚ f xs) (sum_ℚ f ys))

-- two functions that agree everywhere
pub sum_ℚ-same : {X : Type 0} → (f g : X → ℚ) (xs : List X) → ((x : X) → f x ≡ g x) → sum_ℚ f xs ≡ sum_ℚ g xs
unfolding sum_ℚ
sum_ℚ-same f g [] e = refl
sum_ℚ-same f g (x ∷ xs) e = ap (λ q. q +ℚ sum_ℚ f xs) (e x) ∙ ap (λ q. g x +ℚ q) (sum_ℚ-same f g xs e)

-- the sum of zeros
pub sum_ℚ-zero : {X : Type 0} → (xs : List X) → sum_ℚ (λ (x : X). whole (pos 0)) xs ≡ whole (pos 0)
unfolding sum_ℚ
sum_ℚ-zero [] = refl
sum_ℚ-zero {X} (x ∷ xs) = zero-add (sum_ℚ (λ (y : X). whole (pos 0)) xs) ∙ sum_ℚ-zero xs

-- a sum of sums
pub sum_ℚ-plus : {X : Type 0} → (f g : X → ℚ) (xs : List X) → sum_ℚ (λ x. f x +ℚ g x) xs ≡ sum_ℚ f xs +ℚ sum_ℚ g xs
unfolding sum_ℚ
sum_ℚ-plus f g [] = sym (zero-add (whole (pos 0)))
sum_ℚ-plus f g (x ∷ xs) =
    ap (λ q. (f x +ℚ g x) +ℚ q) (sum_ℚ-plus f g xs) ∙ add_swapped (f x) (g x) (sum_ℚ f xs) (sum_ℚ g xs)

-- a common factor
pub sum_ℚ-times : {X : Type 0} → (a : ℚ) (f : X → ℚ) (xs : List X) → sum_ℚ (λ x. a *ℚ f x) xs ≡ a *ℚ sum_ℚ f xs
unfolding sum_ℚ
sum_ℚ-times a f [] = same_meaning (int (pos 0)) (mul (this a) (int (pos 0))) (omega arith)
sum_ℚ-times a f (x ∷ xs) =
    ap (λ q. a *ℚ f x +ℚ q) (sum_ℚ-times a f xs)
    ∙ same_meaning (add (mul (this a) (this (f x))) (mul (this a) (this (sum_ℚ f xs)))) (mul (this a) (add (this (f x)) (this (sum_ℚ f xs)))) (omega arith)

-- a sum of differences
pub sum_ℚ-minus : {X : Type 0} → (f g : X → ℚ) (xs : List X) → sum_ℚ (λ x. f x -ℚ g x) xs ≡ sum_ℚ f xs -ℚ sum_ℚ g xs
unfolding sum_ℚ
sum_ℚ-minus f g [] = same_meaning (int (pos 0)) (sub (int (pos 0)) (int (pos 0))) (omega arith)
sum_ℚ-minus f g (x ∷ xs) =
    ap (λ q. (f x -ℚ g x) +ℚ q) (sum_ℚ-minus f g xs)
    ∙ same_meaning
    (add (sub (this (f x)) (this (g x))) (sub (this (sum_ℚ f xs)) (this (sum_ℚ g xs))))
    (sub (add (this (f x)) (this (sum_ℚ f xs))) (add (this (g x)) (this (sum_ℚ g xs))))
    (omega arith)

-- a sum of terms of which each is at most the other
pub sum_ℚ-least : {X : Type 0} → (f g : X → ℚ) (xs : List X) → ((x : X) → f x ≤ℚ g x) → sum_ℚ f xs ≤ℚ sum_ℚ g xs
unfolding sum_ℚ
sum_ℚ-least f g [] h = le_refl (whole (pos 0))
sum_ℚ-least f g (x ∷ xs) h = add_le_add (f x) (g x) (sum_ℚ f xs) (sum_ℚ g xs) (h x) (sum_ℚ-least f g xs h)

-- the exchange of two sums
pub sum_ℚ-exchange : {X Y : Type 0} → (f : X → Y → ℚ) (xs : List X) (ys : List Y)
    → sum_ℚ (λ x. sum_ℚ (f x) ys) xs ≡ sum_ℚ (λ y. sum_ℚ (λ x. f x y) xs) ys
unfolding sum_ℚ
sum_ℚ-exchange {X} {Y} f [] ys = sym (sum_ℚ-zero {X = Y} ys)
sum_ℚ-exchange f (x ∷ xs) ys =
    ap (λ q. sum_ℚ (f x) ys +ℚ q) (sum_ℚ-exchange f xs ys) ∙ sym (sum_ℚ-plus (f x) (λ y. sum_ℚ (λ x. f x y) xs) ys)
