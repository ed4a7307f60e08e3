-- Capacities and clashes, start by start, where no two cables start alike.
use Rattle.std.proofs.Common.{◌≡◌, ℕ, ◌<◌, ◌≤◌, List, length, Option, Some, None, inl, inr, arith, refl, sym, ◌∙◌, subst}
use Rattle.std.proofs.lemmas.Bool.{cases_order}
use Rattle.cable_definitions.specs.declared.cable.Cable.{Cable}
use Rattle.cable_definitions.specs.declared.site.Point.{Point}
use Rattle.cable_definitions.specs.Plane.{Clash}
use Rattle.cable_definitions.specs.Site.{Site}
use Rattle.cable_definitions.specs.Arcs.{IsPoint, capacity_of}
use Rattle.cable_definitions.specs.Walk.{cable_out, load}
use Rattle.cable_definitions.specs.Layout.{IsCable, KeepsRange, KeepsStart, KeepsCapacity, KeepsClear, SamePair, PairsClash, IsBefore}
use Rattle.layout_meaning.specs.First.{IsFirst, IsFirstStart, IsFirstPair}
use Rattle.layout_meaning.specs.Numbers.{AreNumbers}
use Rattle.number_laws.proofs.Places.{same_item}
use Rattle.layout_meaning.proofs.Places.{out_place, out_none}
use Rattle.layout_meaning.proofs.Numbering.{numbers_here}

-- an option that is no `Some` is `None`
pub none_since : (o : Option Cable) → ((c : Cable) → o ≡ Some c → ⊥) → o ≡ None
none_since None n = refl
none_since (Some c) n = absurd (n c refl)

-- the first cable out of a point has numbers of the site
pub numbers_out : (s : Site) (cables : List Cable) (p : ℕ) (c : Cable) → ((i : ℕ) → KeepsRange s cables i) → cable_out cables p ≡ Some c → AreNumbers s c
numbers_out s cables p c range e =
    let r = out_place cables p c e in
    numbers_here s cables r.place c r.is_cable (range r.place)

-- no cable starts past the points
pub out_past : (s : Site) (cables : List Cable) (p : ℕ) → ((i : ℕ) → KeepsRange s cables i) → length s.points ≤ p → cable_out cables p ≡ None
out_past s cables p range h = none_since (cable_out cables p)
    (λ c e. let n = numbers_out s cables p c range e in let r = out_place cables p c e in absurd (omega (arith, n.from, r.start)))

-- two cables with one start are one
pub only_cable : (cables : List Cable) (i j : ℕ) (c d : Cable) → ((i : ℕ) → KeepsStart cables i) → IsCable cables i c → IsCable cables j d → c.from ≡ d.from → c ≡ d
only_cable cables i j c d starts h k e = elim (cases_order i j) [
  | inl same ↦ same_item cables i c d h (subst (λ (n : ℕ). IsCable cables n d) (sym same) k)
  | inr (inl less) ↦ absurd (starts j i d c k h less e)
  | inr (inr more) ↦ absurd (starts i j c d h k more (sym e))
]

-- any cable that starts in a point is the first one out of it
pub is_out : (cables : List Cable) (p i : ℕ) (c d : Cable) → ((i : ℕ) → KeepsStart cables i) → cable_out cables p ≡ Some c → IsCable cables i d → d.from ≡ p → d ≡ c
is_out cables p i c d starts e h f =
    let r = out_place cables p c e in
    only_cable cables i r.place d c starts h r.is_cable (f ∙ sym r.start)

-- the cable out of a point bears its load
pub capacity_here : (s : Site) (cables : List Cable) (p : ℕ) (c : Cable) → ((i : ℕ) → KeepsStart cables i) → cable_out cables p ≡ Some c → load s cables p ≤ capacity_of s c.grade → KeepsCapacity s cables p
capacity_here s cables p c starts e h i d k f = subst (λ (x : Cable). load s cables p ≤ capacity_of s x.grade) (sym (is_out cables p i c d starts e k f)) h

-- the cable out of a point doesn't bear its load
pub capacity_broken : (s : Site) (cables : List Cable) (p : ℕ) (c : Cable) → cable_out cables p ≡ Some c → ¬ (load s cables p ≤ capacity_of s c.grade) → ¬ (KeepsCapacity s cables p)
capacity_broken s cables p c e n kept = let r = out_place cables p c e in n (kept r.place c r.is_cable r.start)

-- no cable starts in the point
pub capacity_none : (s : Site) (cables : List Cable) (p : ℕ) → cable_out cables p ≡ None → KeepsCapacity s cables p
capacity_none s cables p e i c h f = absurd (out_none cables p i c e h f)

-- the first overloaded cable
pub first_start : (s : Site) (cables : List Cable) (p : ℕ) (c : Cable) → cable_out cables p ≡ Some c → IsFirst (KeepsCapacity s cables) p → IsFirstStart (KeepsCapacity s cables) cables c
first_start s cables p c e f =
    let r = out_place cables p c e in
    record { place = r.place; cable = r.is_cable; first = subst (IsFirst (KeepsCapacity s cables)) (sym r.start) f }

-- the cables out of two points don't clash
pub clear_here : (s : Site) (cables : List Cable) (a b : ℕ) (c d : Cable) → ((i : ℕ) → KeepsStart cables i) → cable_out cables a ≡ Some c → cable_out cables b ≡ Some d → ¬ (PairsClash s c.from c.to d.from d.to) → KeepsClear s cables a b
clear_here s cables a b c d starts e f n i j c' d' h k g l less =
    let same = is_out cables a i c c' starts e h g in
    let same' = is_out cables b j d d' starts f k l in
    rw (same, same') n

-- the cables out of two points clash
pub clear_broken : (s : Site) (cables : List Cable) (a b : ℕ) (c d : Cable) → cable_out cables a ≡ Some c → cable_out cables b ≡ Some d → a < b → PairsClash s c.from c.to d.from d.to → ¬ (KeepsClear s cables a b)
clear_broken s cables a b c d e f less clash kept =
    let r = out_place cables a c e in
    let q = out_place cables b d f in
    kept r.place q.place c d r.is_cable q.is_cable r.start q.start less clash

-- no cable starts in the first point
pub clear_none : (s : Site) (cables : List Cable) (a b : ℕ) → cable_out cables a ≡ None → KeepsClear s cables a b
clear_none s cables a b e i j c d h k f g less clash = absurd (out_none cables a i c e h f)

-- no cable starts in the second point
pub clear_second_none : (s : Site) (cables : List Cable) (a b : ℕ) → cable_out cables b ≡ None → KeepsClear s cables a b
clear_second_none s cables a b e i j c d h k f g less clash = absurd (out_none cables b j d e k g)

-- the pairs are different, and their points' segments clash
pub pairs_clash_from : (s : Site) (a b c d : ℕ) (p q r t : Point) → IsPoint s a p → IsPoint s b q → IsPoint s c r → IsPoint s d t → ¬ (SamePair a b c d) → Clash p.at q.at r.at t.at → PairsClash s a b c d
pairs_clash_from s a b c d p q r t e f g h n clash = record { different = n; from = p; to = q; other_from = r; other_to = t; from_is = e; to_is = f; other_from_is = g; other_to_is = h; clash = clash }

-- the segments of pairs that clash
pub pairs_clash_segments : (s : Site) (a b c d : ℕ) (p q r t : Point) → IsPoint s a p → IsPoint s b q → IsPoint s c r → IsPoint s d t → PairsClash s a b c d → Clash p.at q.at r.at t.at
pairs_clash_segments s a b c d p q r t e f g h k =
    let same = same_item s.points a p k.from e k.from_is in
    let same_to = same_item s.points b q k.to f k.to_is in
    let same_from' = same_item s.points c r k.other_from g k.other_from_is in
    let same_to' = same_item s.points d t k.other_to h k.other_to_is in
    rw (same, same_to, same_from', same_to') k.clash

-- the cable out of a point clashes with no cable out of a greater one
pub clear_all_here : (s : Site) (cables : List Cable) (a : ℕ) (c : Cable) → cable_out cables a ≡ Some c → ((b : ℕ) → KeepsClear s cables c.from b) → (b : ℕ) → KeepsClear s cables a b
clear_all_here s cables a c e kept = subst (λ (n : ℕ). (b : ℕ) → KeepsClear s cables n b) (out_place cables a c e).start kept

-- the first pair of starts that clash
pub first_pair : (s : Site) (cables : List Cable) (a b : ℕ) (c : Cable) → cable_out cables a ≡ Some c → ((k l : ℕ) → k < a → KeepsClear s cables k l) → IsFirst (KeepsClear s cables c.from) b → IsFirstPair (KeepsClear s cables) a b
first_pair s cables a b c e earlier first =
    let here = subst (λ (n : ℕ). IsFirst (KeepsClear s cables n) b) (out_place cables a c e).start first in
    record { broken = here.broken; earlier = λ k l before. by_order here k l before }
  where
    by_order : IsFirst (KeepsClear s cables a) b → (k l : ℕ) → IsBefore k l a b → KeepsClear s cables k l
    by_order here k l (inl less) = earlier k l less
    by_order here k l (inr (same, less)) = subst (λ (n : ℕ). KeepsClear s cables n l) (sym same) (here.earlier l less)
