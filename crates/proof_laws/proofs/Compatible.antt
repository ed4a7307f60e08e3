-- No two cables of a legal layout lie on incompatible arcs.
use Rattle.std.proofs.Common.{◌≡◌, ℕ, suc, ◌<◌, ◌⊎◌, inl, inr, List, Some, None, slice_get, refl, ap, sym, ◌∙◌, subst, arith}
use Rattle.cable_definitions.specs.declared.place.Place.{Place}
use Rattle.cable_definitions.specs.declared.cable.Cable.{Cable}
use Rattle.cable_definitions.specs.declared.cable.Arc.{Arc}
use Rattle.cable_definitions.specs.Plane.{Clash, IsEnd}
use Rattle.cable_definitions.specs.Site.{Site}
use Rattle.cable_definitions.specs.Walk.{cable_out, walk_end, most_steps}
use Rattle.cable_definitions.specs.Layout.{IsCable, IsLegal, PairsClash}
use Rattle.cable_definitions.specs.Row.{AreIncompatible}
use Rattle.layout_laws.proofs.Alike.{cable_out-of}
use Rattle.layout_laws.proofs.Walking.{none-from_Starts, walk_end-step, no_return}
use Rattle.layout_laws.proofs.Ending.{WalksEnd-legal}
use Rattle.proof_laws.proofs.Cables.{place-by_start, CableOn}

-- a clash is one from either side
pub Clash-swapped : (a b c d : Place) → Clash a b c d → Clash c d a b
Clash-swapped a b c d k = record {
  parts = k.parts;
  s = k.t;
  t = k.s;
  common = record {
    some_parts = k.common.some_parts;
    on_first = k.common.on_second;
    on_second = k.common.on_first;
    same_x = sym k.common.same_x;
    same_y = sym k.common.same_y;
  };
  no_end_of_both = λ h. k.no_end_of_both (
    elim h.1 [ inl e ↦ inl (turned a e) | inr e ↦ inr (turned b e) ],
    elim h.0 [ inl e ↦ inl (turned c e) | inr e ↦ inr (turned d e) ],
  );
}
  where
    turned : (e : Place) → IsEnd c d e k.parts k.t → IsEnd a b e k.parts k.s
    turned e h = record { x = k.common.same_x ∙ h.x; y = k.common.same_y ∙ h.y }

-- two pairs that clash do so in either order
pub PairsClash-swapped : (s : Site) (a b c d : ℕ) → PairsClash s a b c d → PairsClash s c d a b
PairsClash-swapped s a b c d k = record {
  different = λ h. k.different (elim h [ inl e ↦ inl (sym e.0, sym e.1) | inr e ↦ inr (sym e.1, sym e.0) ]);
  from = k.other_from;
  to = k.other_to;
  other_from = k.from;
  other_to = k.to;
  from_is = k.other_from_is;
  to_is = k.other_to_is;
  other_from_is = k.from_is;
  other_to_is = k.to_is;
  clash = Clash-swapped k.from.at k.to.at k.other_from.at k.other_to.at k.clash;
}

-- two arcs are incompatible in either order
pub incompatible-swapped : (s : Site) (x y : Arc) → AreIncompatible s x y → AreIncompatible s y x
incompatible-swapped s x y h = record {
  different = λ e. h.different (sym e.0, sym e.1);
  apart = elim h.apart [
    | inl near ↦ inl (elim near [
      | inl same ↦ inl (sym same)
      | inr back ↦ inr (sym back.1, sym back.0)
    ])
    | inr clash ↦ inr (PairsClash-swapped s x.from x.to y.from y.to clash)
  ];
}

-- What keeps two arcs apart, of the starts and ends alone.
pub record AreApart (s : Site) (a b c d : ℕ) : Type 0 where
  pub different : ¬ ((a ≡ c) × (b ≡ d))
  pub apart : ((a ≡ c) ⊎ ((a ≡ d) × (b ≡ c))) ⊎ PairsClash s a b c d

-- no cable of a legal layout returns over another
no_reverse : (s : Site) (cables : List Cable) → IsLegal s cables → (i j : ℕ) (c d : Cable) → IsCable cables i c → IsCable cables j d → c.from ≡ d.to → c.to ≡ d.from → ⊥
no_reverse s cables g i j c d e f u v =
    let out : cable_out cables c.from ≡ Some c = cable_out-of cables g.start i c e in
    let on : cable_out cables c.to ≡ Some d = ap (cable_out cables) v ∙ cable_out-of cables g.start j d f in
    let back : walk_end (suc 1) cables c.from ≡ c.from = walk_end-step cables c.from 1 c out ∙ walk_end-step cables c.to 0 d on ∙ sym u in
    let ended = none-from_Starts cables (walk_end most_steps cables c.from) (WalksEnd-legal s cables g c.from) in
    let none : cable_out cables c.from ≡ None = no_return cables c.from most_steps 1 ended back in
    let q : Some c ≡ None = sym out ∙ none in
    cc

-- no two cables of a legal layout are incompatible
pub none_apart : (s : Site) (cables : List Cable) → IsLegal s cables → (i j : ℕ) (c d : Cable) → IsCable cables i c → IsCable cables j d → ¬ (AreApart s c.from c.to d.from d.to)
none_apart s cables g i j c d e f k = elim k.apart [
  | inl near ↦ elim near [ inl same ↦ one_start same | inr back ↦ no_reverse s cables g i j c d e f back.0 back.1 ]
  | inr clash ↦ by_order c.from d.from
      one_start
      (λ l. g.clear c.from d.from i j c d e f refl refl l clash)
      (λ l. g.clear d.from c.from j i d c f e refl refl l (PairsClash-swapped s c.from c.to d.from d.to clash))
]
  where
    one_start : c.from ≡ d.from → ⊥
    one_start same =
        let place : i ≡ j = place-by_start cables g.start i j c d e f same in
        let q : Some c ≡ Some d = sym e ∙ ap (slice_get cables) place ∙ f in
        let r : c ≡ d = cc in
        k.different (same, ap (λ (x : Cable). x.to) r)

    by_order : (m n : ℕ) → (m ≡ n → ⊥) → (m < n → ⊥) → (n < m → ⊥) → ⊥
    by_order m n a b c = grind arith

-- no legal layout has two incompatible arcs
pub none_incompatible : (s : Site) (cables : List Cable) → IsLegal s cables → (a b : Arc) → CableOn cables a → CableOn cables b → ¬ (AreIncompatible s a b)
none_incompatible s cables g a b on other k =
    let r : AreApart s a.from a.to b.from b.to = record { different = k.different; apart = k.apart } in
    let moved : AreApart s on.cable.from on.cable.to other.cable.from other.cable.to =
    subst (λ (x : ℕ). AreApart s x on.cable.to other.cable.from other.cable.to) (sym on.from)
    (subst (λ (x : ℕ). AreApart s a.from x other.cable.from other.cable.to) (sym on.to)
    (subst (λ (x : ℕ). AreApart s a.from a.to x other.cable.to) (sym other.from)
    (subst (λ (x : ℕ). AreApart s a.from a.to b.from x) (sym other.to) r))) in
    none_apart s cables g on.place other.place on.cable other.cable on.is_cable other.is_cable moved
