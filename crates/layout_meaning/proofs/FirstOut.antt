-- The first cables out of all points, cable by cable.
use Rattle.std.proofs.Common.{◌≡◌, ◌≢◌, ℕ, ◌+◌, ◌<◌, ◌≤◌, List, [], ◌∷◌, length, take, set, get_or, get_or-set_same, get_or-set_other, length-set, replicate, Bool, cond, Option, Some, None, ◌⊎◌, inl, inr, arith, refl, sym, ap, ◌∙◌}
use Rattle.std.specs.Prelude.{◌==◌}
use Rattle.std.specs.Option.{option_or}
use Rattle.std.proofs.lemmas.Bool.{ne_eqb, eq-eqb, cases_eq}
use Rattle.std.proofs.lemmas.List.{take_more, length-replicate, get_or-replicate}
use Rattle.std.proofs.lemmas.List.Folds.{find-append}
use Rattle.cable_definitions.specs.declared.cable.Cable.{Cable}
use Rattle.cable_definitions.specs.Walk.{cable_out}
use Rattle.layout_meaning.specs.Outgoing.{AreFirst}

-- one cable more
out_more : (cables : List Cable) (i p : ℕ) (d : Cable) → i < length cables
    → cable_out (take (i + 1) cables) p ≡ option_or (cable_out (take i cables) p) (cond ((get_or cables i d).from == p) (Some (get_or cables i d)) None)
out_more cables i p d h = ap (λ (xs : List Cable). cable_out xs p) (take_more cables i d h) ∙ find-append (λ (c : Cable). c.from == p) (take i cables) (get_or cables i d ∷ [])

-- an option, or none, is the option
or_none : (o : Option Cable) → option_or o None ≡ o
or_none None = refl
or_none (Some c) = refl

-- a cable out of another point changes nothing
out_other : (cables : List Cable) (i p : ℕ) (d : Cable) → i < length cables → (get_or cables i d).from ≢ p → cable_out (take (i + 1) cables) p ≡ cable_out (take i cables) p
out_other cables i p d h n =
    out_more cables i p d h
    ∙ ap (λ (b : Bool). option_or (cable_out (take i cables) p) (cond b (Some (get_or cables i d)) None)) (ne_eqb (get_or cables i d).from p n)
    ∙ or_none (cable_out (take i cables) p)

-- the cable, if it is the first one, stands at its start
pub first_more : (cables : List Cable) (first : List (Option Cable)) (i : ℕ) (d : Cable) → AreFirst (take i cables) first → i < length cables → (get_or cables i d).from < 256
    → AreFirst (take (i + 1) cables) (set first (get_or cables i d).from (option_or (get_or first (get_or cables i d).from None) (Some (get_or cables i d))))
first_more cables first i d are h below = record {
  room = length-set first (get_or cables i d).from (option_or (get_or first (get_or cables i d).from None) (Some (get_or cables i d))) ∙ are.room;
  at = λ p k. by_place p k (cases_eq (get_or cables i d).from p);
}
  where
    by_place : (p : ℕ) → p < 256 → ((get_or cables i d).from ≡ p) ⊎ ((get_or cables i d).from ≡ p → ⊥)
        → get_or (set first (get_or cables i d).from (option_or (get_or first (get_or cables i d).from None) (Some (get_or cables i d)))) p None ≡ cable_out (take (i + 1) cables) p
    by_place p k (inl same) =
        ap (λ (n : ℕ). get_or (set first (get_or cables i d).from (option_or (get_or first (get_or cables i d).from None) (Some (get_or cables i d)))) n None) (sym same)
        ∙ get_or-set_same first (get_or cables i d).from (option_or (get_or first (get_or cables i d).from None) (Some (get_or cables i d))) None (omega (arith, are.room))
        ∙ ap (λ (o : Option Cable). option_or o (Some (get_or cables i d))) (are.at (get_or cables i d).from below)
        ∙ ap (λ (n : ℕ). option_or (cable_out (take i cables) n) (Some (get_or cables i d))) same
        ∙ ap (λ (b : Bool). option_or (cable_out (take i cables) p) (cond b (Some (get_or cables i d)) None)) (sym (eq-eqb (get_or cables i d).from p same))
        ∙ sym (out_more cables i p d h)
    by_place p k (inr other) =
        get_or-set_other first (get_or cables i d).from p (option_or (get_or first (get_or cables i d).from None) (Some (get_or cables i d))) None (λ e. other (sym e))
        ∙ are.at p k ∙ sym (out_other cables i p d h other)

-- a cable out of a number above has no place
pub first_without : (cables : List Cable) (first : List (Option Cable)) (i : ℕ) (d : Cable) → AreFirst (take i cables) first → i < length cables
    → 256 ≤ (get_or cables i d).from → AreFirst (take (i + 1) cables) first
first_without cables first i d are h past = record { room = are.room; at = λ p k. are.at p k ∙ sym (out_other cables i p d h (λ e. absurd (omega (arith, e)))) }

-- before the first cable
pub first_none : AreFirst [] (replicate 256 None)
first_none = record { room = length-replicate {A = Option Cable} 256 None; at = λ p h. get_or-replicate {A = Option Cable} 256 p None None h }
