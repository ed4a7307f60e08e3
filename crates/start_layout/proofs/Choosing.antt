-- Cables with one ended elsewhere, and with their cheapest types.
use Rattle.std.proofs.Common.{◌≡◌, ℕ, ◌+◌, ◌<◌, List, [], ◌∷◌, ◌++◌, length, take, get_or, slice_get, Some, inl, inr, arith, refl, sym, ap, ◌∙◌, subst}
use Rattle.std.specs.Prelude.{Result, Ok, Err, IsErr, OnOk, ◌==◌, Bool, true, false, cond}
use Rattle.std.proofs.lemmas.List.{take_more}
use Rattle.std.proofs.lemmas.Option.{slice_get_within, slice_get-get_or}
use Rattle.cable_definitions.specs.declared.cable.Cable.{Cable}
use Rattle.cable_definitions.specs.Site.{Site, IsValid}
use Rattle.cable_definitions.specs.Walk.{load}
use Rattle.cable_definitions.specs.Layout.{KeepsRange}
use Rattle.cable_definitions.specs.Part.{AreCheapTyped}
use Rattle.number_laws.proofs.Keys.{slice_get-map_source}
use Rattle.layout_laws.proofs.Alike.{load-same}
use Rattle.layout_laws.proofs.Arcs.{SameEnds-from_arcs}
use Rattle.layout_laws.proofs.Typing.{all-at, matched}
use Rattle.layout_laws.specs.Cheapest.{IsCheapestOrZero}
use Rattle.layout_meaning.specs.Typed.{JoinPoints}
use Rattle.start_layout.specs.Moves.{re_ended, with_end}

-- an element more
pub take_one_more : (cables : List Cable) (i : ℕ) (c : Cable) → slice_get cables i ≡ Some c → take (i + 1) cables ≡ take i cables ++ c ∷ []
take_one_more cables i c e =
    let l = slice_get_within cables i c e in
    let same : get_or cables i c ≡ c = (let g : Some (get_or cables i c) ≡ Some c = sym (slice_get-get_or cables i c l) ∙ e in cc) in
    take_more cables i c l ∙ ap (λ (x : Cable). take i cables ++ x ∷ []) same

-- the ends of a cable with the new end are points of the site
pub ended_within : (s : Site) (cables : List Cable) (p q i : ℕ) (c : Cable) → ((i : ℕ) → KeepsRange s cables i) → q < length s.points → slice_get cables i ≡ Some c
    → ((re_ended p q c).from < length s.points) × ((re_ended p q c).to < length s.points)
ended_within s cables p q i c range within e = ((range i).from c e, by (c.from == p))
  where
    by : (b : Bool) → cond b q c.to < length s.points
    by true = within
    by false = (range i).to c e

-- what a layout with room holds after a push
pub pushed_on : {A E : Type 0} (r : Result A E) (old new : List Cable) (c : Cable) → (IsErr r → length old ≡ 256) → OnOk r (new ≡ old ++ c ∷ []) → length old < 256 → new ≡ old ++ c ∷ []
pushed_on (Ok x) old new c full ok h = ok
pushed_on (Err e) old new c full ok h = absurd (let n = full refl in omega arith)

-- the cables with the new end join points of the site
pub ended_joins : (s : Site) (cables : List Cable) (p q : ℕ) → ((i : ℕ) → KeepsRange s cables i) → q < length s.points → JoinPoints s (with_end cables p q)
ended_joins s cables p q range within i c h =
    let source = slice_get-map_source (re_ended p q) cables i c h in
    let w = ended_within s cables p q i source.0 range within source.1 in (
      subst (λ (x : Cable). x.from < length s.points) source.2 w.0,
      subst (λ (x : Cable). x.to < length s.points) source.2 w.1,
    )

-- where cables join points of the site, the numbers of the same ones with their cheapest types are of the site
pub typed_range : (s : Site) (cables typed : List Cable) → IsValid s → JoinPoints s cables → AreCheapTyped s cables typed → (i : ℕ) → KeepsRange s typed i
typed_range s cables typed valid points t i = record {
  from = λ c h. let like = matched typed cables t.arcs i c h in subst (λ (n : ℕ). n < length s.points) (sym like.from) ((points i like.cable like.is_cable).0);
  to = λ c h. let like = matched typed cables t.arcs i c h in subst (λ (n : ℕ). n < length s.points) (sym like.to) ((points i like.cable like.is_cable).1);
  grade = λ c h. listed c.from c.to (load s typed c.from) c.grade (all-at (λ c. IsCheapestOrZero s c.from c.to (load s typed c.from) c.grade) typed i c t.types h);
}
  where
    listed : (from to carried grade : ℕ) → IsCheapestOrZero s from to carried grade → grade < length s.types
    listed from to carried grade (inl best) = best.bears.listed
    listed from to carried grade (inr none) = let zero_is : grade ≡ 0 = none.1 in omega (arith, valid.some_types)

-- the loads are the same with the cheapest types
pub typed_load : (s : Site) (cables typed : List Cable) (p : ℕ) → AreCheapTyped s cables typed → load s cables p ≡ load s typed p
typed_load s cables typed p t = load-same s cables typed (λ r. sym (SameEnds-from_arcs typed cables t.arcs r)) p
