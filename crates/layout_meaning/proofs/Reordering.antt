-- Cables in another order.
use Rattle.std.proofs.Common.{◌≡◌, ℕ, zero, suc, List, [], ◌∷◌, get_or, Bool, false, Option, Some, None, arith, refl, sym, ap, ◌∙◌}
use Rattle.std.specs.Prelude.{◌==◌, IsPermutation, Contains}
use Rattle.std.specs.List.{IsDistinct}
use Rattle.std.proofs.lemmas.Bool.{ne_eqb, eqb-false}
use Rattle.std.proofs.lemmas.Bool.Decides.{nat_tests}
use Rattle.std.proofs.lemmas.List.Elements.{All-from_recursion, recursion_from_All}
use Rattle.std.proofs.lemmas.List.Sorted.{IsPermutation-sym, Contains-permutation}
use Rattle.std.proofs.lemmas.Map.Keys.{IsDistinct-IsPermutation}
use Rattle.cable_definitions.specs.declared.cable.Cable.{Cable}
use Rattle.cable_definitions.specs.Walk.{cable_out}
use Rattle.cable_definitions.specs.Layout.{IsCable}
use Rattle.layout_laws.specs.Alike.{StartsDiffer, SameOuts}
use Rattle.std.proofs.lemmas.Option.{slice_get-get_or, slice_get_within}
use Rattle.layout_meaning.proofs.Places.{out_place, out_none}
use Rattle.layout_meaning.proofs.Starting.{is_out}

-- whether two cables start alike
abbrev pub starts_alike : Cable → Cable → Bool
starts_alike c d = c.from == d.from

-- cables whose starts differ are distinct by them
pub distinct_from : (cables : List Cable) → StartsDiffer cables → IsDistinct starts_alike cables
unfolding IsDistinct
distinct_from [] differ = tt
distinct_from (x ∷ xs) differ = (
  recursion_from_All (λ (y : Cable). starts_alike x y ≡ false) xs
      (λ k d h. ne_eqb x.from (get_or xs k d).from (differ (suc k) 0 (get_or xs k d) x (slice_get-get_or xs k d h) refl (omega arith))),
  distinct_from xs (λ i j c d h k less. differ (suc i) (suc j) c d h k (omega arith)),
)

-- and back
pub differ_from : (cables : List Cable) → IsDistinct starts_alike cables → StartsDiffer cables
unfolding IsDistinct
differ_from [] distinct i j c d h k less = absurd (cc)
differ_from (x ∷ xs) distinct zero j c d h k less = absurd (omega arith)
differ_from (x ∷ xs) distinct (suc i) zero c d h k less =
    let all = All-from_recursion (λ (y : Cable). starts_alike x y ≡ false) xs distinct.0 in
    let below = slice_get_within xs i c h in
    let same : get_or xs i c ≡ c = cc (slice_get-get_or xs i c below) in
    let first : x ≡ d = cc in
    λ e. eqb-false x.from (get_or xs i c).from (all i c below) (cc)
differ_from (x ∷ xs) distinct (suc i) (suc j) c d h k less = differ_from xs distinct.1 i j c d h k (omega arith)

-- starts that differ still do in another order
pub differ_again : (xs ys : List Cable) → IsPermutation xs ys → StartsDiffer xs → StartsDiffer ys
differ_again xs ys order differ = differ_from ys (IsDistinct-IsPermutation starts_alike (λ (c d : Cable). grind (arith, nat_tests)) xs ys order (distinct_from xs differ))

-- a cable at a place is in the list
contains_at : (cables : List Cable) (i : ℕ) (c : Cable) → IsCable cables i c → Contains cables c
contains_at cables i c h = let below = slice_get_within cables i c h in (i, below, cc (slice_get-get_or cables i c below))

-- a cable of one list stands at some place of the other
pub record IsAlsoIn (cables : List Cable) (c : Cable) : Type 0 where
  pub place : ℕ
  pub is_cable : IsCable cables place c

-- that place
also_in : (xs ys : List Cable) (i : ℕ) (c : Cable) → IsPermutation xs ys → IsCable xs i c → IsAlsoIn ys c
also_in xs ys i c order h =
    let k = Contains-permutation xs ys c order (contains_at xs i c h) in
    record { place = k.0; is_cable = slice_get-get_or ys k.0 c k.1 ∙ ap (λ (x : Cable). Some x) k.2 }

-- where starts differ, the first cable out of each point is the same in another order
pub outs_again : (xs ys : List Cable) → IsPermutation xs ys → StartsDiffer xs → SameOuts xs ys
outs_again xs ys order differ p = by_cable (cable_out xs p) refl (cable_out ys p) refl
  where
    by_cable : (o : Option Cable) → cable_out xs p ≡ o → (q : Option Cable) → cable_out ys p ≡ q → cable_out xs p ≡ cable_out ys p
    by_cable None e None f = e ∙ sym f
    by_cable None e (Some d) f =
        let r = out_place ys p d f in
        let k = also_in ys xs r.place d (IsPermutation-sym xs ys order) r.is_cable in
        absurd (out_none xs p k.place d e k.is_cable r.start)
    by_cable (Some c) e None f =
        let r = out_place xs p c e in
        let k = also_in xs ys r.place c order r.is_cable in
        absurd (out_none ys p k.place c f k.is_cable r.start)
    by_cable (Some c) e (Some d) f =
        let r = out_place ys p d f in
        let k = also_in ys xs r.place d (IsPermutation-sym xs ys order) r.is_cable in
        let same = is_out xs p k.place c d differ e k.is_cable r.start in
        e ∙ ap (λ (x : Cable). Some x) (sym same) ∙ sym f
