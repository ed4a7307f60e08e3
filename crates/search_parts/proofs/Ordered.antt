-- Layouts in ascending order of start.
use Rattle.std.proofs.Common.{◌≡◌, ◌≢◌, ℕ, suc, ◌<◌, ◌≤◌, ◌⊎◌, inl, inr, List, [], ◌∷◌, slice_get, Some, None, Option, refl, sym, ◌∙◌, ap, arith}
use Rattle.std.proofs.lemmas.Bool.{cases_eq, eq-eqb, ne_eqb}
use Rattle.cable_definitions.specs.declared.cable.Cable.{Cable}
use Rattle.cable_definitions.specs.Walk.{cable_out}
use Rattle.layout_laws.specs.Alike.{SameOuts}
use Rattle.layout_laws.proofs.Alike.{cable_out-from, cable_out-place}
use Rattle.proof_laws.proofs.Lists.{pairs_at}
use Rattle.search_parts.specs.Start.{AreInOrder}

-- ---- the rest of a layout
-- it is in order too
in_order-rest : (x : Cable) (xs : List Cable) → AreInOrder (x ∷ xs) → AreInOrder xs
in_order-rest x xs up i j d l within = up (suc i) (suc j) d (omega (arith, l)) (omega (arith, within))

-- each of its cables starts later than the first
in_order-later : (x : Cable) (xs : List Cable) → AreInOrder (x ∷ xs) → (i : ℕ) (c : Cable) → slice_get xs i ≡ Some c → x.from < c.from
in_order-later x xs up i c e = pairs_at (λ (c d : Cable). c.from < d.from) (x ∷ xs) up 0 (suc i) x c (omega arith) refl e

-- the first cable out of its start is the first one
out-first : (x : Cable) (xs : List Cable) → cable_out (x ∷ xs) x.from ≡ Some x
out-first x xs = (let e = eq-eqb x.from x.from refl in rw e refl)

-- no other starts there
out-later : (x : Cable) (xs : List Cable) → AreInOrder (x ∷ xs) → (p : ℕ) → p ≤ x.from → (c : Cable) → cable_out xs p ≡ Some c → ⊥
out-later x xs up p l c e =
    let at = cable_out-place xs p c e in
    let later = in_order-later x xs up at.0 c at.1 in
    let from = cable_out-from xs p c e in
    omega (arith, later, from, l)

-- the first cable out of another point is one of the rest
out-rest : (x : Cable) (xs : List Cable) (p : ℕ) → x.from ≢ p → cable_out (x ∷ xs) p ≡ cable_out xs p
out-rest x xs p other = (let e = ne_eqb x.from p other in rw e refl)

-- ---- two layouts with the same cables
-- what starts before the first cable isn't there
none_before : (x : Cable) (xs : List Cable) (c : Cable) → AreInOrder (x ∷ xs) → c.from < x.from → cable_out (x ∷ xs) c.from ≡ Some c → ⊥
none_before x xs c up l e = out-later x xs up c.from (omega (arith, l)) c (sym (out-rest x xs c.from (λ f. omega (arith, l, f))) ∙ e)

-- where the first cables out of each point are the same, the layouts are
pub same-ordered : (xs ys : List Cable) → AreInOrder xs → AreInOrder ys → SameOuts xs ys → xs ≡ ys
same-ordered [] [] up vp same = refl
same-ordered [] (y ∷ ys) up vp same = absurd (let e : None ≡ Some y = same y.from ∙ out-first y ys in cc)
same-ordered (x ∷ xs) [] up vp same = absurd (let e : None ≡ Some x = sym (same x.from) ∙ out-first x xs in cc)
same-ordered (x ∷ xs) (y ∷ ys) up vp same = elim (order x.from y.from) [
  | inl l ↦ absurd (none_before y ys x vp l (sym (same x.from) ∙ out-first x xs))
  | inr (inl l) ↦ absurd (none_before x xs y up l (same y.from ∙ out-first y ys))
  | inr (inr e) ↦
      let f : Some x ≡ Some y = sym (out-first x xs) ∙ same x.from ∙ ap (cable_out (y ∷ ys)) e ∙ out-first y ys in
      let head : x ≡ y = cc in
      let tail : xs ≡ ys = same-ordered xs ys (in_order-rest x xs up) (in_order-rest y ys vp) (rest e) in
      cc
]
  where
    order : (a b : ℕ) → (a < b) ⊎ ((b < a) ⊎ (a ≡ b))
    order a b = grind arith

    none_of : (o : Option Cable) (p : ℕ) → cable_out xs p ≡ o → x.from ≡ p → cable_out xs p ≡ None
    none_of None p g f = g
    none_of (Some c) p g f = absurd (out-later x xs up p (omega (arith, f)) c g)

    none_too : (o : Option Cable) (p : ℕ) → cable_out ys p ≡ o → y.from ≡ p → cable_out ys p ≡ None
    none_too None p g f = g
    none_too (Some c) p g f = absurd (out-later y ys vp p (omega (arith, f)) c g)

    rest : x.from ≡ y.from → (p : ℕ) → cable_out xs p ≡ cable_out ys p
    rest e p = elim (cases_eq x.from p) [
      | inl f ↦ none_of (cable_out xs p) p refl f ∙ sym (none_too (cable_out ys p) p refl (sym e ∙ f))
      | inr f ↦ sym (out-rest x xs p f) ∙ same p ∙ out-rest y ys p (λ g. f (e ∙ g))
    ]

-- ---- equality can be told
-- of two cables
cable-told : (c d : Cable) → (c ≡ d) ⊎ (c ≢ d)
cable-told c d = elim (cases_eq c.from d.from) [
  | inr f ↦ inr (λ e. f (ap (λ (k : Cable). k.from) e))
  | inl f ↦ elim (cases_eq c.to d.to) [
    | inr g ↦ inr (λ e. g (ap (λ (k : Cable). k.to) e))
    | inl g ↦ elim (cases_eq c.grade d.grade) [
      | inr h ↦ inr (λ e. h (ap (λ (k : Cable). k.grade) e))
      | inl h ↦ inl (λ i. record { from = f i; to = g i; grade = h i })
    ]
  ]
]

-- of two layouts
cables-told : (xs ys : List Cable) → (xs ≡ ys) ⊎ (xs ≢ ys)
cables-told [] [] = inl refl
cables-told [] (y ∷ ys) = inr (λ e. cc)
cables-told (x ∷ xs) [] = inr (λ e. cc)
cables-told (x ∷ xs) (y ∷ ys) = elim (cable-told x y) [
  | inr f ↦ inr (λ e. f (cc))
  | inl f ↦ elim (cables-told xs ys) [
    | inr g ↦ inr (λ e. g (cc))
    | inl g ↦ inl (cc)
  ]
]

-- so layouts that can't differ are the same
pub same-stable : (xs ys : List Cable) → ¬ (¬ (xs ≡ ys)) → xs ≡ ys
same-stable xs ys h = elim (cables-told xs ys) [ inl e ↦ e | inr f ↦ absurd (h f) ]
