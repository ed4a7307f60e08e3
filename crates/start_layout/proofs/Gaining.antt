-- What cables bear and cost besides on the walk from the new end of one of them.
use Rattle.std.proofs.Common.{◌≡◌, ◌≢◌, ℕ, zero, suc, ◌+◌, ◌-◌, ◌<◌, ◌≤◌, Bool, true, false, cond, List, length, set, replicate, get_or-set_same, get_or-set_other, Some, None, option_map, inl, inr, arith, refl, sym, ap, ◌∙◌, subst}
use Rattle.std.specs.Prelude.{◌==◌, slice_index}
use Rattle.std.specs.List.{enumerate_from}
use Rattle.std.proofs.lemmas.Bool.{cases_lt}
use Rattle.std.proofs.lemmas.Bool.Decides.{eqb_tells}
use Rattle.std.proofs.lemmas.List.{length-replicate, get_or-replicate, get_or_past}
use Rattle.std.proofs.lemmas.List.Sums.{sum_by-le-sum_by}
use Rattle.number_laws.proofs.NatSums.{sum_by-plus}
use Rattle.cable_definitions.specs.declared.cable.Cable.{Cable}
use Rattle.cable_definitions.specs.declared.site.Point.{Point}
use Rattle.cable_definitions.specs.Site.{Site}
use Rattle.cable_definitions.specs.Arcs.{power_of_kind, cost_of}
use Rattle.cable_definitions.specs.Walk.{cable_out, walk_end, most_steps, passes, load}
use Rattle.cable_definitions.specs.Layout.{IsCable, KeepsRange, Starts, IsLegal}
use Rattle.cable_definitions.specs.Part.{end_of, AreCheapTyped}
use Rattle.layout_laws.specs.Alike.{SameEnds}
use Rattle.layout_laws.specs.Visits.{WalksEnd}
use Rattle.layout_laws.proofs.Alike.{cable_out-from, cable_out-place, cable_out-of}
use Rattle.layout_laws.proofs.Arcs.{SameEnds-from_arcs}
use Rattle.layout_laws.proofs.Typed.{bears-own}
use Rattle.layout_laws.proofs.Ending.{WalksEnd-legal}
use Rattle.layout_laws.proofs.Walking.{out_cases, none-from_Starts, walk_end-further, walk_end-ended, no_return, comes_to-from_end, end-from_comes_to, passes-start, passes-next}
use Rattle.start_layout.specs.Moves.{with_end}
use Rattle.start_layout.specs.Floors.{without, IsLeastCost, AreLeasts}
use Rattle.start_layout.proofs.Moving.{end_elsewhere, end_moved}
use Rattle.start_layout.proofs.Cutting.{out_left, end_left, walk_in, load_left, least_there}

-- ---- the way
-- in each legal layout where the cable out of p ends in q, what passes p passes this point
abbrev pub IsOnWay : Site → List Cable → ℕ → ℕ → ℕ → Type 0
IsOnWay s cables p q at = (typed : List Cable) → AreCheapTyped s (with_end cables p q) typed → IsLegal s typed → (t : ℕ) → passes typed p t ≡ true → passes typed at t ≡ true

-- what passes a point passes the one where its cable ends
goes_on : (cables : List Cable) → WalksEnd cables → (at to : ℕ) → end_of cables at ≡ Some to → (t : ℕ) → passes cables at t ≡ true → passes cables to t ≡ true
goes_on cables ends at to e t h = elim (out_cases cables at) [
  | inl n ↦ absurd (let f : None ≡ Some to = sym (ap (option_map (λ (c : Cable). c.to)) n) ∙ e in cc)
  | inr w ↦ (
      let from : w.0.from ≡ at = cable_out-from cables at w.0 w.1 in
      let f : Some w.0.to ≡ Some to = sym (ap (option_map (λ (c : Cable). c.to)) w.1) ∙ e in
      let same : w.0.to ≡ to = cc in
      subst (λ (x : ℕ). passes cables x t ≡ true) same
      (passes-next cables ends t w.0 (ap (cable_out cables) from ∙ w.1) (subst (λ (x : ℕ). passes cables x t ≡ true) (sym from) h)))
]

-- the way begins where the cable ends
pub way_begins : (s : Site) (cables : List Cable) (p q : ℕ) → Starts cables p → IsOnWay s cables p q q
way_begins s cables p q start typed t l =
    let same : SameEnds typed (with_end cables p q) = SameEnds-from_arcs typed (with_end cables p q) t.arcs in
    goes_on typed (WalksEnd-legal s typed l) p q (same p ∙ end_moved cables p q start)

-- and goes on along the cables
pub way_goes_on : (s : Site) (cables : List Cable) (p q at : ℕ) (c : Cable) → cable_out cables at ≡ Some c → at ≢ p → IsOnWay s cables p q at → IsOnWay s cables p q c.to
way_goes_on s cables p q at c e n way typed t l r h =
    let same : SameEnds typed (with_end cables p q) = SameEnds-from_arcs typed (with_end cables p q) t.arcs in
    let ends : end_of typed at ≡ Some c.to = same at ∙ end_elsewhere cables p q at n ∙ ap (option_map (λ (c : Cable). c.to)) e in
    goes_on typed (WalksEnd-legal s typed l) at c.to ends r (way typed t l r h)

-- ---- loads on the way
-- without the cables out of p none starts there
none_left : (cables : List Cable) (p : ℕ) → cable_out (without p cables) p ≡ None
none_left cables p = elim (out_cases (without p cables) p) [
  | inl n ↦ n
  | inr w ↦ absurd ((out_left cables p p w.0 w.1).0 refl)
]

-- a walk that comes from p to v and from v to p goes round
goes_round : (s : Site) (typed : List Cable) (p v i j : ℕ) → IsLegal s typed → v ≢ p → walk_end i typed p ≡ v → walk_end j typed v ≡ p → cable_out typed p ≡ None
goes_round s typed p v zero j l n there back = absurd (n (sym there))
goes_round s typed p v (suc i) j l n there back =
    let ended = none-from_Starts typed (walk_end most_steps typed p) (WalksEnd-legal s typed l p) in
    let further : suc (i + j) ≡ suc i + j = omega arith in
    no_return typed p most_steps (i + j) ended
    (ap (λ (k : ℕ). walk_end k typed p) further ∙ walk_end-further typed p (suc i) j ∙ ap (walk_end j typed) there ∙ back)

-- where the walk of p comes to another point, no walk passes both without p's cable
apart : (s : Site) (cables typed : List Cable) (p q v t : ℕ) → AreCheapTyped s (with_end cables p q) typed → IsLegal s typed → Starts cables p → v ≢ p → passes typed v p ≡ true
    → passes (without p cables) v t ≡ true → passes (without p cables) p t ≡ true → ⊥
apart s cables typed p q v t cheap l start n on hv hp = elim (cases_lt a.0 b.0) [
  | inl less ↦ (
      let m = b.0 - a.0 in
      let sum : a.0 + m ≡ b.0 = omega arith in
      let most : m ≤ m = omega arith in
      let here : walk_end m few v ≡ p = ap (walk_end m few) (sym a.2) ∙ sym (walk_end-further few t a.0 m) ∙ ap (λ (k : ℕ). walk_end k few t) sum ∙ b.2 in
      let back = end-from_comes_to typed p m v (walk_in few typed (end_left s cables typed p q cheap) (λ r. r == p) m v (comes_to-from_end few p m v m most here)) in
      let there = end-from_comes_to typed v most_steps p on in
      let none : cable_out typed p ≡ None = goes_round s typed p v there.0 back.0 l n there.2 back.2 in
      let same : SameEnds typed (with_end cables p q) = SameEnds-from_arcs typed (with_end cables p q) cheap.arcs in
      let f : None ≡ Some q = sym (ap (option_map (λ (c : Cable). c.to)) none) ∙ same p ∙ end_moved cables p q start in
      cc)
  | inr more ↦ n (sym a.2 ∙ walk_end-ended few t b.0 a.0 more (ap (cable_out few) b.2 ∙ none_left cables p) ∙ b.2)
]
  where
    few : List Cable
    few = without p cables

    a : (k : ℕ) × (k ≤ most_steps) × (walk_end k few t ≡ v)
    a = end-from_comes_to few v most_steps t hv

    b : (k : ℕ) × (k ≤ most_steps) × (walk_end k few t ≡ p)
    b = end-from_comes_to few p most_steps t hp

-- two that exclude each other
one_of_two : (a b c : Bool) (n : ℕ) → (a ≡ true → c ≡ true) → (b ≡ true → c ≡ true) → (a ≡ true → b ≡ true → ⊥) → cond a n 0 + cond b n 0 ≤ cond c n 0
one_of_two true true c n f g h = absurd (h refl refl)
one_of_two true false true n f g h = omega arith
one_of_two true false false n f g h = absurd (let e = f refl in cc)
one_of_two false true true n f g h = omega arith
one_of_two false true false n f g h = absurd (let e = g refl in cc)
one_of_two false false c n f g h = omega arith

-- on the way each cable bears what it did without p's cable, and p's load besides
pub load_on_way : (s : Site) (cables typed : List Cable) (p q v : ℕ) → AreCheapTyped s (with_end cables p q) typed → IsLegal s typed → Starts cables p → v ≢ p → IsOnWay s cables p q v
    → load s (without p cables) v + load s (without p cables) p ≤ load s typed v
load_on_way s cables typed p q v t l start n way =
    let few = without p cables in
    let own = λ (x : ℕ × Point). cond (passes few v x.0) (power_of_kind x.1.kind) 0 in
    let more = λ (x : ℕ × Point). cond (passes few p x.0) (power_of_kind x.1.kind) 0 in
    let all = λ (x : ℕ × Point). cond (passes typed v x.0) (power_of_kind x.1.kind) 0 in
    omega (
      arith,
      sum_by-plus own more (enumerate_from 0 s.points),
      sum_by-le-sum_by (λ x. own x + more x) all (enumerate_from 0 s.points) (λ x. one_of_two (passes few v x.0) (passes few p x.0) (passes typed v x.0) (power_of_kind x.1.kind)
          (walk_in few typed (end_left s cables typed p q t) (λ r. r == v) most_steps x.0)
          (λ h. way typed t l x.0 (walk_in few typed (end_left s cables typed p q t) (λ r. r == p) most_steps x.0 h))
          (apart s cables typed p q v x.0 t l start n (way typed t l p (passes-start typed p)))),
    )

-- ---- what single cables cost at least
-- a cable of another start ends where it did
ends_as_before : (s : Site) (cables typed : List Cable) (p q i : ℕ) (c d : Cable) → AreCheapTyped s (with_end cables p q) typed → IsLegal s typed → cable_out cables d.from ≡ Some c → d.from ≢ p → IsCable typed i d
    → c.to ≡ d.to
ends_as_before s cables typed p q i c d t l e n h =
    let same : SameEnds typed (with_end cables p q) = SameEnds-from_arcs typed (with_end cables p q) t.arcs in
    let out : end_of typed d.from ≡ Some d.to = ap (option_map (λ (c : Cable). c.to)) (cable_out-of typed l.start i d h) in
    let f : Some c.to ≡ Some d.to = sym (same d.from ∙ end_elsewhere cables p q d.from n ∙ ap (option_map (λ (c : Cable). c.to)) e) ∙ out in
    cc

-- what is known at a further start
leasts_set : (s : Site) (cables : List Cable) (p q r least : ℕ) (leasts : List ℕ) → r < length leasts → AreLeasts s cables p q leasts
    → ((typed : List Cable) → AreCheapTyped s (with_end cables p q) typed → IsLegal s typed → (i : ℕ) (d : Cable) → IsCable typed i d → d.from ≡ r → least ≤ cost_of s d.from d.to d.grade (load s typed d.from))
    → AreLeasts s cables p q (set leasts r least)
leasts_set s cables p q r least leasts room below here typed t l i d h n = elim (eqb_tells d.from r) [
  | inl same ↦ (
      let at : slice_index (set leasts r least) d.from ≡ least = ap (slice_index (set leasts r least)) same.1 ∙ get_or-set_same leasts r least 0 room in
      omega (arith, at, here typed t l i d h same.1))
  | inr other ↦ (
      let at : slice_index (set leasts r least) d.from ≡ slice_index leasts d.from = get_or-set_other leasts r d.from least 0 other.1 in
      omega (arith, at, below typed t l i d h n))
]

-- what is known of the cable out of a point at a load that it bears at least
least_set : (s : Site) (cables : List Cable) (p q r low least : ℕ) (c : Cable) (leasts : List ℕ) → r < length leasts → AreLeasts s cables p q leasts → cable_out cables r ≡ Some c → r ≢ p
    → IsLeastCost s r c.to low least → ((typed : List Cable) → AreCheapTyped s (with_end cables p q) typed → IsLegal s typed → low ≤ load s typed r)
    → AreLeasts s cables p q (set leasts r least)
least_set s cables p q r low least c leasts room below e n less bears =
    leasts_set s cables p q r least leasts room below (λ typed t l i d h from.
    let out : cable_out cables d.from ≡ Some c = ap (cable_out cables) from ∙ e in
    let to = ends_as_before s cables typed p q i c d t l out (λ g. n (sym from ∙ g)) h in
    least_there s low least r c.to typed d less (sym from) to (bears typed t l) (bears-own s typed l.range l.capacity i d h))

-- from its load without p's cable
pub least_set_without : (s : Site) (cables : List Cable) (p q r low least : ℕ) (c : Cable) (leasts : List ℕ) → r < length leasts → AreLeasts s cables p q leasts → cable_out cables r ≡ Some c → r ≢ p
    → IsLeastCost s r c.to low least → low ≤ load s (without p cables) r → AreLeasts s cables p q (set leasts r least)
least_set_without s cables p q r low least c leasts room below e n less within =
    least_set s cables p q r low least c leasts room below e n less (λ typed t l. omega (arith, within, load_left s cables typed p q t r))

-- on the way from that load and the load of p's cable
pub least_set_on_way : (s : Site) (cables : List Cable) (p q r low own more least : ℕ) (c : Cable) (leasts : List ℕ) → r < length leasts → AreLeasts s cables p q leasts → cable_out cables r ≡ Some c → r ≢ p
    → IsLeastCost s r c.to low least → Starts cables p → IsOnWay s cables p q r → low ≤ own + more → own ≤ load s (without p cables) r → more ≤ load s (without p cables) p
    → AreLeasts s cables p q (set leasts r least)
least_set_on_way s cables p q r low own more least c leasts room below e n less start way sum own_within more_within =
    least_set s cables p q r low least c leasts room below e n less
    (λ typed t l. omega (arith, sum, own_within, more_within, load_on_way s cables typed p q r t l start n way))

-- ---- cables that are read
-- the cable out of a point ends in a point of the site
pub end_read : (s : Site) (cables : List Cable) (p : ℕ) (c : Cable) → ((i : ℕ) → KeepsRange s cables i) → cable_out cables p ≡ Some c → c.to < length s.points
end_read s cables p c range e = let place = cable_out-place cables p c e in (range place.0).to c place.1

-- a zero stands at each place
pub zero_at : (r : ℕ) → slice_index (replicate 256 0) r ≡ 0
zero_at r = elim (cases_lt r 256) [
  | inl less ↦ get_or-replicate {A = ℕ} 256 r 0 0 less
  | inr more ↦ get_or_past (replicate {A = ℕ} 256 0) r 0 (omega (arith, length-replicate {A = ℕ} 256 0))
]

-- zeros are below everything
pub leasts_zero : (s : Site) (cables : List Cable) (p q : ℕ) → AreLeasts s cables p q (replicate 256 0)
leasts_zero s cables p q typed t l i d h n = omega (arith, zero_at d.from)
