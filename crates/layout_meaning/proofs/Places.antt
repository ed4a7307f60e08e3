-- The cable at a place of a list, and the first one that starts in a point.
use Rattle.std.proofs.Common.{◌≡◌, ◌≢◌, ℕ, zero, suc, ◌<◌, ◌≤◌, List, [], ◌∷◌, length, get_or, Bool, true, false, cond, Some, None, inl, inr, arith, refl, sym, ap, ◌∙◌}
use Rattle.std.specs.Prelude.{slice_get, ◌==◌}
use Rattle.std.proofs.lemmas.Bool.{eqb-true, eqb-false, cases_lt}
use Rattle.std.proofs.lemmas.Option.{slice_get-get_or}
use Rattle.cable_definitions.specs.declared.cable.Cable.{Cable}
use Rattle.cable_definitions.specs.declared.site.Point.{Point}
use Rattle.cable_definitions.specs.Site.{Site}
use Rattle.cable_definitions.specs.Arcs.{IsPoint}
use Rattle.cable_definitions.specs.Walk.{cable_out}
use Rattle.cable_definitions.specs.Layout.{IsCable}

-- the cable at some place of the list that starts in p
pub record IsOut (cables : List Cable) (p : ℕ) (c : Cable) : Type 0 where
  pub place : ℕ
  pub is_cable : IsCable cables place c
  pub start : c.from ≡ p

-- the first cable out of p stands in the list
pub out_place : (cables : List Cable) (p : ℕ) (c : Cable) → cable_out cables p ≡ Some c → IsOut cables p c
out_place [] p c e = absurd (cc)
out_place (x ∷ xs) p c e = by_test x xs p c (x.from == p) refl e (out_place xs p c)
  where
    by_test : (x : Cable) (xs : List Cable) (p : ℕ) (c : Cable) (b : Bool) → (x.from == p) ≡ b → cond (x.from == p) (Some x) (cable_out xs p) ≡ Some c
        → (cable_out xs p ≡ Some c → IsOut xs p c) → IsOut (x ∷ xs) p c
    by_test x xs p c true t e further =
        let same = rw t at e in
        record { place = 0; is_cable = cc; start = cc (eqb-true x.from p t) }
    by_test x xs p c false t e further =
        let r = further (rw t at e) in
        record { place = suc r.place; is_cable = r.is_cable; start = r.start }

-- no cable of the list starts in p
pub out_none : (cables : List Cable) (p i : ℕ) (c : Cable) → cable_out cables p ≡ None → IsCable cables i c → c.from ≢ p
out_none [] p i c e h = absurd (cc)
out_none (x ∷ xs) p i c e h = by_test x xs p i c (x.from == p) refl e h (λ j. out_none xs p j c)
  where
    by_test : (x : Cable) (xs : List Cable) (p i : ℕ) (c : Cable) (b : Bool) → (x.from == p) ≡ b → cond (x.from == p) (Some x) (cable_out xs p) ≡ None
        → slice_get (x ∷ xs) i ≡ Some c → ((j : ℕ) → cable_out xs p ≡ None → slice_get xs j ≡ Some c → c.from ≢ p) → c.from ≢ p
    by_test x xs p i c true t e h further = absurd (let f = rw t at e in cc)
    by_test x xs p zero c false t e h further = λ s. eqb-false x.from p t (cc)
    by_test x xs p (suc i) c false t e h further = further i (rw t at e) h

-- what is kept below n and from n on is kept at each place
pub at_each_place : (P : ℕ → Type 0) (n : ℕ) → ((i : ℕ) → i < n → P i) → ((i : ℕ) → n ≤ i → P i) → (i : ℕ) → P i
at_each_place P n below past i = elim (cases_lt i n) [ inl h ↦ below i h | inr h ↦ past i h ]

-- the cable out of a point is the one out of its start
pub out_start : (cables : List Cable) (p : ℕ) (c : Cable) → cable_out cables p ≡ Some c → cable_out cables c.from ≡ Some c
out_start cables p c e = ap (cable_out cables) (out_place cables p c e).start ∙ e

-- the point that is read at an index
pub point_at : (s : Site) (points : List Point) (i : ℕ) (d : Point) → points ≡ s.points → i < length s.points → IsPoint s i (get_or points i d)
point_at s points i d e h = ap (λ (xs : List Point). slice_get xs i) (sym e) ∙ slice_get-get_or points i d (omega (arith, ap (length {A = Point}) e))
