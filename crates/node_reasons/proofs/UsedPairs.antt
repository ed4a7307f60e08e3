-- Used arcs that are incompatible.
use Rattle.std.proofs.Common.{◌≡◌, ◌≢◌, ℕ, ◌<◌, ◌≤◌, List, length, slice_get, Some, None, Bool, inl, inr, arith, sym, ap, ◌∙◌, subst}
use Rattle.std.specs.Prelude.{IsTrue, ◌↔◌}
use Rattle.std.proofs.lemmas.Bool.{cases_lt}
use Rattle.std.proofs.lemmas.Option.{slice_get_within}
use Rattle.cable_definitions.specs.declared.cable.Arc.{Arc}
use Rattle.cable_definitions.specs.declared.row.Mark.{Mark}
use Rattle.cable_definitions.specs.Site.{Site}
use Rattle.cable_definitions.specs.Arcs.{AreArcs, ArcBefore}
use Rattle.cable_definitions.specs.Row.{AreIncompatible}
use Rattle.cable_definitions.specs.Tree.{IsUsedPair}
use Rattle.proof_laws.proofs.Compatible.{incompatible-swapped}
use Rattle.proof_laws.proofs.Lists.{pairs_at}
use Rattle.node_reasons.specs.Reasons.{AreIncompatibleAt}
use Rattle.node_reasons.specs.Used.{UsedList, IsUsed, StartAlike, AreUsed}

-- arcs at known places
pub incompatible_at : (s : Site) (arcs : List Arc) (a b : ℕ) (x y : Arc) (r : Bool) → slice_get arcs a ≡ Some x → slice_get arcs b ≡ Some y → (IsTrue r ↔ AreIncompatible s x y) → (IsTrue r ↔ AreIncompatibleAt s arcs a b)
incompatible_at s arcs a b x y r e f h = (
  λ t. record { first = x; second = y; first_is = e; second_is = f; incompatible = h.0 t },
  λ k.
      let p : k.first ≡ x = cc in
      let q : k.second ≡ y = cc in
      h.1 (subst (λ (z : Arc). AreIncompatible s x z) q (subst (λ (z : Arc). AreIncompatible s z k.second) p k.incompatible)),
)

-- two used arcs that start alike
pub same_start_pair : (s : Site) (arcs : List Arc) (marks : List Mark) (a b : ℕ) → AreArcs s arcs → StartAlike arcs marks a b → (a ≢ b) × IsUsedPair s arcs marks a b
same_start_pair s arcs marks a b are t = (
  (λ e. let l = t.before in omega arith),
  record {
    first = t.first;
    second = t.second;
    first_is = t.first_is.is_arc;
    second_is = t.second_is.is_arc;
    first_used = t.first_is.is_used;
    second_used = t.second_is.is_used;
    incompatible = record { different = λ e. apart (pairs_at ArcBefore arcs are.in_order a b t.first t.second t.before t.first_is.is_arc t.second_is.is_arc) e.0 e.1; apart = inl (inl t.alike) };
  },
)
  where
    apart : ArcBefore t.first t.second → t.first.from ≡ t.second.from → t.first.to ≡ t.second.to → ⊥
    apart (inl less) e f = omega arith
    apart (inr (same, less)) e f = omega arith

-- two used arcs that are incompatible
pub used_pair : (s : Site) (arcs : List Arc) (marks : List Mark) (a b : ℕ) (x y : Arc) → IsUsed arcs marks a x → IsUsed arcs marks b y → AreIncompatibleAt s arcs a b → (a ≢ b) × IsUsedPair s arcs marks a b
used_pair s arcs marks a b x y u v k = (
  λ e.
      let same : k.first ≡ k.second = (let g : Some k.first ≡ Some k.second = sym k.first_is ∙ ap (slice_get arcs) e ∙ k.second_is in cc) in
      k.incompatible.different (ap (λ (z : Arc). z.from) same, ap (λ (z : Arc). z.to) same),
  record { first = k.first; second = k.second; first_is = k.first_is; second_is = k.second_is; first_used = u.is_used; second_used = v.is_used; incompatible = k.incompatible },
)

-- where all used arcs are gathered and none is incompatible with an earlier one, no two are
pub no_pair : (s : Site) (arcs : List Arc) (marks : List Mark) (used : UsedList) (numbers : List ℕ) (count : ℕ) → AreUsed arcs marks used → used.same_start ≡ None → numbers ≡ used.numbers → length numbers ≤ count
    → ((i a j b : ℕ) → i < count → slice_get numbers i ≡ Some a → j < i → slice_get numbers j ≡ Some b → ¬ (AreIncompatibleAt s arcs b a))
    → (a b : ℕ) → a ≢ b → ¬ (IsUsedPair s arcs marks a b)
no_pair s arcs marks used numbers count u none same l h a b apart p =
    elim (cases_lt i.0 j.0) [
      | inl less ↦ h j.0 b i.0 a (let r = slice_get_within numbers j.0 b j_is in omega arith) j_is less i_is at
      | inr more ↦ elim (cases_lt j.0 i.0) [
        | inl less ↦ h i.0 a j.0 b (let r = slice_get_within numbers i.0 a i_is in omega arith) i_is less j_is back
        | inr other ↦ apart (let e : i.0 ≡ j.0 = omega arith in let g : Some a ≡ Some b = sym i_is ∙ ap (slice_get numbers) e ∙ j_is in cc)
      ]
    ]
  where
    i : (k : ℕ) × (slice_get used.numbers k ≡ Some a)
    i = u.all none a p.first (slice_get_within arcs a p.first p.first_is) (record { is_arc = p.first_is; is_used = p.first_used })

    j : (k : ℕ) × (slice_get used.numbers k ≡ Some b)
    j = u.all none b p.second (slice_get_within arcs b p.second p.second_is) (record { is_arc = p.second_is; is_used = p.second_used })

    i_is : slice_get numbers i.0 ≡ Some a
    i_is = ap (λ (xs : List ℕ). slice_get xs i.0) same ∙ i.1

    j_is : slice_get numbers j.0 ≡ Some b
    j_is = ap (λ (xs : List ℕ). slice_get xs j.0) same ∙ j.1

    at : AreIncompatibleAt s arcs a b
    at = record { first = p.first; second = p.second; first_is = p.first_is; second_is = p.second_is; incompatible = p.incompatible }

    back : AreIncompatibleAt s arcs b a
    back = record { first = p.second; second = p.first; first_is = p.second_is; second_is = p.first_is; incompatible = incompatible-swapped s p.first p.second p.incompatible }

-- the number of a gathered arc is that of an arc
pub number_within : (arcs : List Arc) (marks : List Mark) (used : UsedList) (numbers : List ℕ) → AreUsed arcs marks used → numbers ≡ used.numbers → (j k : ℕ) → slice_get numbers j ≡ Some k → k < length arcs
number_within arcs marks used numbers u same j k e =
    let r = u.numbered j k (ap (λ (xs : List ℕ). slice_get xs j) (sym same) ∙ e) in
    slice_get_within arcs k r.0 r.1.is_arc
