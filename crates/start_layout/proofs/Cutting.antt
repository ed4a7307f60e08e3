-- What a layout costs at least where the cable out of one point ends elsewhere.
use Rattle.std.proofs.Common.{◌≡◌, ◌≢◌, ℕ, zero, suc, ◌+◌, ◌≤◌, Bool, true, false, cond, List, [], ◌∷◌, length, take, slice_get, Option, Some, None, option_map, IsTrue, sum_by, inl, inr, arith, refl, sym, ap, ◌∙◌, subst}
use Rattle.std.specs.Prelude.{◌==◌, ◌||◌, slice_index}
use Rattle.std.specs.List.{list_any, enumerate_from}
use Rattle.std.proofs.lemmas.Bool.Decides.{eqb_tells}
use Rattle.std.proofs.lemmas.Option.{slice_get-map}
use Rattle.std.proofs.lemmas.List.Sums.{sum_by-append, sum_by-cons, sum_by-take-le, sum_by-le-sum_by}
use Rattle.cable_definitions.specs.declared.cable.Arc.{Arc}
use Rattle.cable_definitions.specs.declared.cable.Cable.{Cable}
use Rattle.cable_definitions.specs.declared.site.Point.{Point}
use Rattle.cable_definitions.specs.Site.{Site}
use Rattle.cable_definitions.specs.Arcs.{Bears, power_of_kind, cost_of}
use Rattle.cable_definitions.specs.Walk.{cable_out, walk_from, end_of_cable, walk, most_steps, passes, load}
use Rattle.cable_definitions.specs.Layout.{IsLegal, cost}
use Rattle.cable_definitions.specs.Part.{end_of, AreCheapTyped}
use Rattle.layout_laws.specs.Alike.{SameEnds}
use Rattle.layout_laws.proofs.Alike.{cable_out-from, cable_out-place}
use Rattle.layout_laws.proofs.Arcs.{SameEnds-from_arcs}
use Rattle.layout_laws.proofs.Typed.{bears-own}
use Rattle.layout_laws.proofs.Typing.{matched, SameArcs-turned}
use Rattle.start_layout.specs.Moves.{re_ended, with_end, MakesNoneBelow}
use Rattle.start_layout.specs.Floors.{without, IsLeastCost, other_cost, AreLeasts, AreOthersAbove}
use Rattle.start_layout.proofs.Moving.{end_elsewhere, end_moved}
use Rattle.start_layout.proofs.Choosing.{take_one_more}

-- ---- the cables but those out of p
-- where the first cable out of a point is looked for behind one that starts elsewhere
out_behind : (d : Cable) (cables : List Cable) (r : ℕ) (c : Cable) → d.from ≢ r → cable_out cables r ≡ Some c → cable_out (d ∷ cables) r ≡ Some c
out_behind d cables r c n e = elim (eqb_tells d.from r) [
  | inl t ↦ absurd (n t.1)
  | inr t ↦ rw t.0 e
]

-- the first cable out of a point is the one that it was, and the point isn't p
pub out_left : (cables : List Cable) (p r : ℕ) (c : Cable) → cable_out (without p cables) r ≡ Some c → (r ≢ p) × (cable_out cables r ≡ Some c)
out_left [] p r c e = absurd (cc)
out_left (d ∷ cables) p r c e = elim (eqb_tells d.from p) [
  | inl t ↦ (
      let f : cable_out (without p cables) r ≡ Some c = rw t.0 at e in
      let rest = out_left cables p r c f in
      (rest.0, out_behind d cables r c (λ g. rest.0 (sym g ∙ t.1)) rest.1))
  | inr t ↦ (
      let f : cable_out (d ∷ without p cables) r ≡ Some c = rw t.0 at e in
      elim (eqb_tells d.from r) [
        | inl u ↦ (
            let g : Some d ≡ Some c = rw u.0 at f in
            let same : cable_out (d ∷ cables) r ≡ Some d = rw u.0 refl in
            (λ h. t.1 (u.1 ∙ h), same ∙ g))
        | inr u ↦ (
            let g : cable_out (without p cables) r ≡ Some c = rw u.0 at f in
            let rest = out_left cables p r c g in
            (rest.0, out_behind d cables r c u.1 rest.1))
      ])
]

-- and ends where it does where p's cable ends elsewhere
pub end_left : (s : Site) (cables typed : List Cable) (p q : ℕ) → AreCheapTyped s (with_end cables p q) typed → (r : ℕ) (c : Cable) → cable_out (without p cables) r ≡ Some c → end_of typed r ≡ Some c.to
end_left s cables typed p q t r c e =
    let left = out_left cables p r c e in
    let same : SameEnds typed (with_end cables p q) = SameEnds-from_arcs typed (with_end cables p q) t.arcs in
    same r ∙ end_elsewhere cables p q r left.0 ∙ ap (option_map (λ (c : Cable). c.to)) left.1

-- ---- walks over fewer cables
-- a test that one of two things passes is passed by more
or_more : (a b c : Bool) → (IsTrue b → IsTrue c) → IsTrue (a || b) → IsTrue (a || c)
or_more true b c h t = refl
or_more false b c h t = h t

-- what is first passes
or_first : (a c : Bool) → IsTrue (a || false) → IsTrue (a || c)
or_first true c t = refl
or_first false c t = absurd (cc)

-- a walk goes on where it did
walk_on : (f : ℕ → Bool) (further longer : ℕ → List ℕ) (o q : Option Cable) (p : ℕ) → ((c : Cable) → o ≡ Some c → option_map (λ (c : Cable). c.to) q ≡ Some c.to)
    → ((r : ℕ) → IsTrue (list_any f (further r)) → IsTrue (list_any f (longer r)))
    → IsTrue (list_any f (walk_from o p (further (end_of_cable o p)))) → IsTrue (list_any f (walk_from q p (longer (end_of_cable q p))))
walk_on f further longer None None p same more t = t
walk_on f further longer None (Some d) p same more t = or_first (f p) (list_any f (longer d.to)) t
walk_on f further longer (Some c) None p same more t = absurd (let e = same c refl in cc)
walk_on f further longer (Some c) (Some d) p same more t =
    let e : c.to ≡ d.to = (let k = same c refl in cc) in
    or_more (f p) (list_any f (further c.to)) (list_any f (longer d.to)) (λ u. more d.to (subst (λ (x : ℕ). IsTrue (list_any f (further x))) e u)) t

-- what a walk passes it passes where further cables start as well
pub walk_in : (xs ys : List Cable) → ((r : ℕ) (c : Cable) → cable_out xs r ≡ Some c → end_of ys r ≡ Some c.to) → (f : ℕ → Bool) (steps p : ℕ)
    → IsTrue (list_any f (walk steps xs p)) → IsTrue (list_any f (walk steps ys p))
walk_in xs ys same f zero p t = t
walk_in xs ys same f (suc steps) p t =
    walk_on f (walk steps xs) (walk steps ys) (cable_out xs p) (cable_out ys p) p (same p) (λ r. walk_in xs ys same f steps r) t

-- more where more is passed
cond_more : (a b : Bool) (n : ℕ) → (IsTrue a → IsTrue b) → cond a n 0 ≤ cond b n 0
cond_more true true n h = omega arith
cond_more true false n h = absurd (let e = h refl in cc)
cond_more false true n h = omega arith
cond_more false false n h = omega arith

-- so no load is greater over fewer cables
load_in : (s : Site) (xs ys : List Cable) → ((r : ℕ) (c : Cable) → cable_out xs r ≡ Some c → end_of ys r ≡ Some c.to) → (p : ℕ) → load s xs p ≤ load s ys p
load_in s xs ys same p =
    sum_by-le-sum_by
    (λ (x : ℕ × Point). cond (passes xs p x.0) (power_of_kind x.1.kind) 0)
    (λ (x : ℕ × Point). cond (passes ys p x.0) (power_of_kind x.1.kind) 0)
    (enumerate_from 0 s.points)
    (λ x. cond_more (passes xs p x.0) (passes ys p x.0) (power_of_kind x.1.kind) (walk_in xs ys same (λ q. q == p) most_steps x.0))

-- each load without p's cable is at most that where it ends elsewhere
pub load_left : (s : Site) (cables typed : List Cable) (p q : ℕ) → AreCheapTyped s (with_end cables p q) typed → (r : ℕ) → load s (without p cables) r ≤ load s typed r
load_left s cables typed p q t r = load_in s (without p cables) typed (end_left s cables typed p q t) r

-- ---- sums over the other cables
-- one cable more
sum_next : (f : Cable → ℕ) (xs : List Cable) (i : ℕ) (d : Cable) → slice_get xs i ≡ Some d → sum_by f (take (i + 1) xs) ≡ sum_by f (take i xs) + f d
sum_next f xs i d e =
    let one : sum_by f (d ∷ []) ≡ f d = omega (arith, sum_by-cons f d []) in
    ap (sum_by f) (take_one_more xs i d e) ∙ sum_by-append f (take i xs) (d ∷ []) ∙ ap (λ n. sum_by f (take i xs) + n) one

-- the cable at a place with p's new end
ended_at : (cables : List Cable) (p q i : ℕ) (c : Cable) → slice_get cables i ≡ Some c → slice_get (with_end cables p q) i ≡ Some (re_ended p q c)
ended_at cables p q i c e = slice_get-map (re_ended p q) cables i ∙ ap (option_map (re_ended p q)) e

-- what a cable elsewhere costs among the others
other_elsewhere : (s : Site) (typed : List Cable) (p : ℕ) (d : Cable) → d.from ≢ p → other_cost s typed p d ≡ cost_of s d.from d.to d.grade (load s typed d.from)
other_elsewhere s typed p d n = elim (eqb_tells d.from p) [
  | inl t ↦ absurd (n t.1)
  | inr t ↦ rw t.0 refl
]

-- what costs at least as much as a least cost
pub least_there : (s : Site) (low least : ℕ) (from to : ℕ) (typed : List Cable) (d : Cable) → IsLeastCost s from to low least → from ≡ d.from → to ≡ d.to → low ≤ load s typed from
    → Bears s d.grade (load s typed d.from) → least ≤ cost_of s d.from d.to d.grade (load s typed d.from)
least_there s low least from to typed d less e f l bears =
    let here = less d.grade (load s typed from) l (subst (λ (x : ℕ). Bears s d.grade (load s typed x)) (sym e) bears) in
    let same : cost_of s from to d.grade (load s typed from) ≡ cost_of s d.from d.to d.grade (load s typed d.from) = λ j. cost_of s (e j) (f j) d.grade (load s typed (e j)) in
    subst (λ (n : ℕ). least ≤ n) same here

-- a further cable takes nothing away
pub others_kept : (s : Site) (cables : List Cable) (p q i base : ℕ) (c : Cable) → slice_get cables i ≡ Some c → AreOthersAbove s cables p q i base → AreOthersAbove s cables p q (i + 1) base
others_kept s cables p q i base c e above typed t l =
    let m = matched (with_end cables p q) typed (SameArcs-turned typed (with_end cables p q) t.arcs) i (re_ended p q c) (ended_at cables p q i c e) in
    omega (arith, above typed t l, sum_next (other_cost s typed p) typed i m.cable m.is_cable)

-- one that starts elsewhere adds what it costs at least
pub others_added : (s : Site) (cables : List Cable) (p q i base total : ℕ) (leasts : List ℕ) (c : Cable) → slice_get cables i ≡ Some c → AreOthersAbove s cables p q i base → c.from ≢ p
    → AreLeasts s cables p q leasts → total ≤ base + slice_index leasts c.from → AreOthersAbove s cables p q (i + 1) total
others_added s cables p q i base total leasts c e above n below within typed t l =
    let m = matched (with_end cables p q) typed (SameArcs-turned typed (with_end cables p q) t.arcs) i (re_ended p q c) (ended_at cables p q i c e) in
    let d : Cable = m.cable in
    let from : c.from ≡ d.from = m.from in
    let elsewhere : d.from ≢ p = λ g. n (from ∙ g) in
    let paid = below typed t l i d m.is_cable elsewhere in
    let same : slice_index leasts c.from ≡ slice_index leasts d.from = ap (slice_index leasts) from in
    let more = other_elsewhere s typed p d elsewhere in
    omega (arith, above typed t l, sum_next (other_cost s typed p) typed i d m.is_cable, paid, same, more, within)

-- the others and a cable out of p are within the whole
others_and_one : (s : Site) (whole : List Cable) (p : ℕ) (xs : List Cable) (i : ℕ) (d : Cable) → slice_get xs i ≡ Some d → d.from ≡ p
    → sum_by (other_cost s whole p) xs + cost_of s d.from d.to d.grade (load s whole d.from) ≤ sum_by (λ (c : Cable). cost_of s c.from c.to c.grade (load s whole c.from)) xs
others_and_one s whole p [] i d e f = absurd (cc)
others_and_one s whole p (x ∷ xs) zero d e f =
    let same : x ≡ d = cc in
    let none : other_cost s whole p x ≡ 0 = elim (eqb_tells x.from p) [
      | inl t ↦ rw t.0 refl
      | inr t ↦ absurd (t.1 (ap (λ (c : Cable). c.from) same ∙ f))
    ] in
    let rest = sum_by-le-sum_by (other_cost s whole p) (λ (c : Cable). cost_of s c.from c.to c.grade (load s whole c.from)) xs (part s whole p) in
    let own : cost_of s x.from x.to x.grade (load s whole x.from) ≡ cost_of s d.from d.to d.grade (load s whole d.from) = ap (λ (c : Cable). cost_of s c.from c.to c.grade (load s whole c.from)) same in
    omega (arith, none, rest, own, sum_by-cons (other_cost s whole p) x xs, sum_by-cons (λ (c : Cable). cost_of s c.from c.to c.grade (load s whole c.from)) x xs)
  where
    part : (s : Site) (whole : List Cable) (p : ℕ) (c : Cable) → other_cost s whole p c ≤ cost_of s c.from c.to c.grade (load s whole c.from)
    part s whole p c = elim (eqb_tells c.from p) [
      | inl t ↦ rw t.0 (omega arith)
      | inr t ↦ rw t.0 (omega arith)
    ]
others_and_one s whole p (x ∷ xs) (suc i) d e f =
    let rest = others_and_one s whole p xs i d e f in
    let one : other_cost s whole p x ≤ cost_of s x.from x.to x.grade (load s whole x.from) = elim (eqb_tells x.from p) [
      | inl t ↦ rw t.0 (omega arith)
      | inr t ↦ rw t.0 (omega arith)
    ] in
    omega (arith, rest, one, sum_by-cons (other_cost s whole p) x xs, sum_by-cons (λ (c : Cable). cost_of s c.from c.to c.grade (load s whole c.from)) x xs)

-- ---- an arc that makes nothing below a bound
-- the others and the least cost of the arc's cable are within the cost of what it makes
made_above : (s : Site) (cables typed : List Cable) (p q others price low bound : ℕ) → AreOthersAbove s cables p q (length cables) others → low ≤ load s typed p
    → IsLeastCost s p q low price → bound ≤ others + price → AreCheapTyped s (with_end cables p q) typed → IsLegal s typed → end_of typed p ≡ Some q
    → (o : Option Cable) → cable_out typed p ≡ o → bound ≤ cost s typed
made_above s cables typed p q others price low bound above l less within t legal ends None e =
    absurd (let f : None ≡ Some q = sym (ap (option_map (λ (c : Cable). c.to)) e) ∙ ends in cc)
made_above s cables typed p q others price low bound above l less within t legal ends (Some d) e =
    let from : p ≡ d.from = sym (cable_out-from typed p d e) in
    let f : Some d.to ≡ Some q = sym (ap (option_map (λ (c : Cable). c.to)) e) ∙ ends in
    let to : q ≡ d.to = cc in
    let place = cable_out-place typed p d e in
    let bears = bears-own s typed legal.range legal.capacity place.0 d place.1 in
    let paid = least_there s low price p q typed d less from to l bears in
    omega (arith, above typed t legal, paid, within, sum_by-take-le (other_cost s typed p) typed (length cables), others_and_one s typed p typed place.0 d place.1 (sym from))

-- an arc makes nothing below a bound that what the others cost at least and its own least cost reach
pub none_where_dear_others : (s : Site) (cables : List Cable) (arc : Arc) (others price low bound : ℕ) → AreOthersAbove s cables arc.from arc.to (length cables) others
    → low ≤ load s (without arc.from cables) arc.from → IsLeastCost s arc.from arc.to low price → bound ≤ others + price → MakesNoneBelow s cables bound arc
none_where_dear_others s cables arc others price low bound above within less reached start typed t legal =
    let p = arc.from in
    let q = arc.to in
    let same : SameEnds typed (with_end cables p q) = SameEnds-from_arcs typed (with_end cables p q) t.arcs in
    let bears : low ≤ load s typed p = omega (arith, within, load_left s cables typed p q t p) in
    made_above s cables typed p q others price low bound above bears less reached t legal (same p ∙ end_moved cables p q start) (cable_out typed p) refl
