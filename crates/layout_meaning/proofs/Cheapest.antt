-- Cables with the cheapest types, one after another, for callers.
use Rattle.std.proofs.Common.{◌≡◌, ℕ, ◌+◌, ◌≤◌, List, [], ◌∷◌, ◌++◌, length, map, take, get_or, slice_get, Some, inl, inr, sym, ap, ◌∙◌, subst}
use Rattle.std.proofs.lemmas.List.{take_all, take_more, map_push}
use Rattle.cable_definitions.specs.declared.cable.Cable.{Cable}
use Rattle.cable_definitions.specs.Site.{Site}
use Rattle.cable_definitions.specs.Walk.{load}
use Rattle.cable_definitions.specs.Layout.{IsCable}
use Rattle.cable_definitions.specs.Part.{AreCheapTyped, SameArcs}
use Rattle.number_laws.proofs.Keys.{slice_get-append_one}
use Rattle.layout_laws.proofs.Alike.{load-same}
use Rattle.layout_laws.proofs.Arcs.{SameEnds-from_arcs}
use Rattle.layout_laws.specs.Cheapest.{IsCheapestOrZero}
use Rattle.std.proofs.lemmas.Option.{slice_get_within, slice_get-get_or}
use Rattle.number_laws.proofs.Places.{same_item}

-- the same cables, each of the cheapest type that bears the load that a whole list gives it, or of type 0 where none does
pub record AreTyped (s : Site) (whole cables typed : List Cable) : Type 0 where
  pub arcs : SameArcs typed cables
  pub types : (i : ℕ) (c : Cable) → IsCable typed i c → IsCheapestOrZero s c.from c.to (load s whole c.from) c.grade

-- one cable more
pub typed_more : (s : Site) (whole cables typed : List Cable) (i : ℕ) (c : Cable) (grade : ℕ) → slice_get cables i ≡ Some c → AreTyped s whole (take i cables) typed → IsCheapestOrZero s c.from c.to (load s whole c.from) grade
    → AreTyped s whole (take (i + 1) cables) (typed ++ record { from = c.from; to = c.to; grade = grade } ∷ [])
typed_more s whole cables typed i c grade e t best = record {
  arcs = record {
    starts = map_push (λ (x : Cable). x.from) typed one ∙ ap (λ xs. xs ++ c.from ∷ []) t.arcs.starts ∙ sym (map_push (λ (x : Cable). x.from) (take i cables) c) ∙ ap (map (λ (x : Cable). x.from)) (sym more);
    ends = map_push (λ (x : Cable). x.to) typed one ∙ ap (λ xs. xs ++ c.to ∷ []) t.arcs.ends ∙ sym (map_push (λ (x : Cable). x.to) (take i cables) c) ∙ ap (map (λ (x : Cable). x.to)) (sym more);
  };
  types = λ j d f. elim (slice_get-append_one typed one j d f) [
    | inl h ↦ t.types j d h
    | inr r ↦ subst (λ (x : Cable). IsCheapestOrZero s x.from x.to (load s whole x.from) x.grade) r.1 best
  ];
}
  where
    one : Cable
    one = record { from = c.from; to = c.to; grade = grade }

    more : take (i + 1) cables ≡ take i cables ++ c ∷ []
    more =
        let l = slice_get_within cables i c e in
        take_more cables i c l ∙ ap (λ (x : Cable). take i cables ++ x ∷ []) (same_item cables i (get_or cables i c) c (slice_get-get_or cables i c l) e)

-- all cables
pub cheap_typed : (s : Site) (cables typed : List Cable) (i : ℕ) → length cables ≤ i → AreTyped s cables (take i cables) typed → AreCheapTyped s cables typed
cheap_typed s cables typed i h part =
    let t = subst (λ (xs : List Cable). AreTyped s cables xs typed) (take_all i cables h) part in
    record {
      arcs = t.arcs;
      types = λ j d l.
          let c : Cable = get_or typed j d in
          subst (λ (n : ℕ). IsCheapestOrZero s c.from c.to n c.grade) (sym (load-same s typed cables (SameEnds-from_arcs typed cables t.arcs) c.from)) (t.types j c (slice_get-get_or typed j d l));
    }
