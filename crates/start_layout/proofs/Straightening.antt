-- Straight cables, substation by substation, and the straight layout, turbine by turbine.
use Rattle.std.proofs.Common.{◌≡◌, ℕ, zero, suc, ◌+◌, ◌<◌, ◌≤◌, ◌⊎◌, inl, inr, List, [], ◌∷◌, ◌++◌, length, get_or, slice_get, Option, Some, None, IsTrue, refl, ap, sym, ◌∙◌, subst, arith}
use Rattle.std.proofs.lemmas.Bool.{cases_lt}
use Rattle.std.proofs.lemmas.List.{length_push}
use Rattle.std.proofs.lemmas.Option.{slice_get_within, slice_get-get_or}
use Rattle.cable_definitions.specs.declared.cable.Arc.{Arc}
use Rattle.cable_definitions.specs.declared.cable.Cable.{Cable}
use Rattle.cable_definitions.specs.declared.site.Point.{Point}
use Rattle.cable_definitions.specs.Site.{Site}
use Rattle.cable_definitions.specs.Arcs.{IsCandidate, kind_of, kind_from, is_turbine, is_substation, power_of, cost_of, IsCheapest, AreArcs}
use Rattle.cable_definitions.specs.Layout.{IsCable, Starts}
use Rattle.cable_definitions.specs.Part.{IsStraightCable, IsStraight}
use Rattle.candidate_cables.specs.Tables.{IsNumberOf}
use Rattle.number_laws.proofs.Keys.{slice_get-append_one}
use Rattle.layout_laws.proofs.Alike.{cable_out-of}
use Rattle.layout_laws.proofs.Walking.{Starts-from_out}
use Rattle.layout_laws.proofs.Typing.{all-at}
use Rattle.layout_laws.proofs.Nearest.{out-from_Starts}
use Rattle.layout_laws.proofs.Straightest.{StartsDiffer-ascending, straight-at}
use Rattle.start_layout.specs.Straight.{IsWayIn, Beats, IsLeastTo, IsBestTo, IsLeastWayBelow, IsBestWayBelow}

-- straight cables out of the turbines below n, in order of start
pub record AreStraightBelow (s : Site) (n : ℕ) (cables : List Cable) : Type 0 where
  pub count : length cables ≤ n
  pub ascending : (i j : ℕ) (c d : Cable) → IsCable cables i c → IsCable cables j d → i < j → c.from < d.from
  pub below : (i : ℕ) (c : Cable) → IsCable cables i c → c.from < n
  pub turbine : (i : ℕ) (c : Cable) → IsCable cables i c → IsTrue (is_turbine (kind_of s c.from))
  pub straight : (i : ℕ) (c : Cable) → IsCable cables i c → IsStraightCable s c
  pub joined : (p : ℕ) → p < n → IsTrue (is_turbine (kind_of s p)) → (i : ℕ) × (c : Cable) × (IsCable cables i c) × (c.from ≡ p)

-- a listed arc is a candidate
pub candidate_listed : (s : Site) (arcs : List Arc) (p q n : ℕ) → AreArcs s arcs → IsNumberOf arcs p q n → IsCandidate s p q
candidate_listed s arcs p q n are l =
    let c = all-at (λ (a : Arc). IsCandidate s a.from a.to) arcs n l.arc are.candidates l.arc_is in
    subst (λ (x : ℕ). IsCandidate s x q) l.start (subst (λ (y : ℕ). IsCandidate s l.arc.from y) l.end c)

-- each candidate is listed
pub none_listed : (s : Site) (arcs : List Arc) (p q : ℕ) → AreArcs s arcs → ((n : ℕ) → ¬ (IsNumberOf arcs p q n)) → ¬ (IsCandidate s p q)
none_listed s arcs p q are none c =
    let found = are.all_candidates p q c in
    let place : slice_get arcs found.0 ≡ Some found.1 = slice_get-get_or arcs found.0 found.1 found.2 ∙ ap Some found.3 in
    none found.0 (record { arc = found.1; arc_is = place; start = found.4.0; end = found.4.1 })

-- the cheapest type of one end
same_end : (a b c q g h : ℕ) → a ≡ b → (b < c) ⊎ ((b ≡ c) × (g ≤ h)) → (a < c) ⊎ ((a ≡ c) × ((q < q) ⊎ ((q ≡ q) × (g ≤ h))))
same_end a b c q g h e (inl l) = inl (omega arith)
same_end a b c q g h e (inr r) = inr (e ∙ r.0, inr (refl, r.1))

pub least_to : (s : Site) (p q grade price : ℕ) → IsCandidate s p q → IsTrue (is_substation (kind_of s q)) → IsCheapest s p q (power_of s p) grade
    → price ≡ cost_of s p q grade (power_of s p) → IsLeastTo s p q (record { from = p; to = q; grade = grade }) price
least_to s p q grade price c h best e = record {
  priced = record { from = refl; way = record { candidate = c; to_substation = h; bears = best.bears }; price_is = e };
  to = refl;
  least = λ other w. same_end price (cost_of s p q grade (power_of s p)) (cost_of s p q other (power_of s p)) q grade other e (best.least other w.bears);
}

-- ---- one point more
-- the first way
first_none : (s : Site) (p n : ℕ) → ((q grade : ℕ) → q < n → ¬ (IsWayIn s p q grade)) → ((grade : ℕ) → ¬ (IsWayIn s p n grade)) → (q grade : ℕ) → q < n + 1 → ¬ (IsWayIn s p q grade)
first_none s p n none there q grade l w = elim (cases_lt q n) [
  | inl k ↦ none q grade k w
  | inr k ↦ (let e : q ≡ n = omega arith in there grade (subst (λ (x : ℕ). IsWayIn s p x grade) e w))
]

first_some : (s : Site) (p n : ℕ) (c : Cable) (price : ℕ) → ((q grade : ℕ) → q < n → ¬ (IsWayIn s p q grade)) → IsLeastTo s p n c price → IsLeastWayBelow s p (n + 1) c price
first_some s p n c price none t = record {
  priced = t.priced;
  below = (let e : c.to ≡ n = t.to in omega arith);
  least = λ q grade l w. elim (cases_lt q n) [
    | inl k ↦ absurd (none q grade k w)
    | inr k ↦ (let e : q ≡ n = omega arith in
        subst (λ (x : ℕ). Beats s p c price x grade) (sym e) (t.least grade (subst (λ (x : ℕ). IsWayIn s p x grade) e w)))
  ];
}

pub best_first : (s : Site) (p n : ℕ) (other : Option (Cable × ℕ)) → ((q grade : ℕ) → q < n → ¬ (IsWayIn s p q grade)) → IsBestTo s p n other → IsBestWayBelow s p (n + 1) other
best_first s p n None none t = first_none s p n none t
best_first s p n (Some (c, price)) none t = first_some s p n c price none t

-- no way there
pub best_kept : (s : Site) (p n : ℕ) (c : Cable) (price : ℕ) → IsLeastWayBelow s p n c price → ((grade : ℕ) → ¬ (IsWayIn s p n grade)) → IsLeastWayBelow s p (n + 1) c price
best_kept s p n c price b none = record {
  priced = b.priced;
  below = (let l : c.to < n = b.below in omega arith);
  least = λ q grade l w. elim (cases_lt q n) [
    | inl k ↦ b.least q grade k w
    | inr k ↦ (let e : q ≡ n = omega arith in absurd (none grade (subst (λ (x : ℕ). IsWayIn s p x grade) e w)))
  ];
}

-- a way that is no cheaper
no_cheaper : (a b x t n g h : ℕ) {X : Type 0} → a ≤ b → t < n → (b < x) ⊎ ((b ≡ x) × X) → (a < x) ⊎ ((a ≡ x) × ((t < n) ⊎ ((t ≡ n) × (g ≤ h))))
no_cheaper a b x t n g h l k (inl m) = inl (omega arith)
no_cheaper a b x t n g h l k (inr m) = elim (cases_lt a x) [
  | inl y ↦ inl y
  | inr y ↦ (let f : b ≡ x = m.0 in inr (omega arith, inl k))
]

pub best_before : (s : Site) (p n : ℕ) (c d : Cable) (price cost : ℕ) → IsLeastWayBelow s p n c price → IsLeastTo s p n d cost → price ≤ cost → IsLeastWayBelow s p (n + 1) c price
best_before s p n c d price cost b t le = record {
  priced = b.priced;
  below = (let l : c.to < n = b.below in omega arith);
  least = λ q grade l w. elim (cases_lt q n) [
    | inl k ↦ b.least q grade k w
    | inr k ↦ (let e : q ≡ n = omega arith in
        subst (λ (x : ℕ). Beats s p c price x grade) (sym e)
        (no_cheaper price cost (cost_of s p n grade (power_of s p)) c.to n c.grade grade le b.below (t.least grade (subst (λ (x : ℕ). IsWayIn s p x grade) e w))))
  ];
}

-- a cheaper way
cheaper : (a b x : ℕ) {X Y : Type 0} → b < a → (a < x) ⊎ ((a ≡ x) × X) → (b < x) ⊎ ((b ≡ x) × Y)
cheaper a b x l (inl m) = inl (omega arith)
cheaper a b x l (inr m) = let e : a ≡ x = m.0 in inl (omega arith)

pub best_after : (s : Site) (p n : ℕ) (c d : Cable) (price cost : ℕ) → IsLeastWayBelow s p n c price → IsLeastTo s p n d cost → cost < price → IsLeastWayBelow s p (n + 1) d cost
best_after s p n c d price cost b t less = record {
  priced = t.priced;
  below = (let e : d.to ≡ n = t.to in omega arith);
  least = λ q grade l w. elim (cases_lt q n) [
    | inl k ↦ cheaper price cost (cost_of s p q grade (power_of s p)) less (b.least q grade k w)
    | inr k ↦ (let e : q ≡ n = omega arith in
        subst (λ (x : ℕ). Beats s p d cost x grade) (sym e) (t.least grade (subst (λ (x : ℕ). IsWayIn s p x grade) e w)))
  ];
}

-- ---- the straight layout
-- the cheapest of all is the straight cable
pub straight_best : (s : Site) (p : ℕ) (c : Cable) (price : ℕ) → IsLeastWayBelow s p (length s.points) c price → IsStraightCable s c
straight_best s p c price b = by (subst (λ (x : ℕ). IsLeastWayBelow s x (length s.points) c price) (sym b.priced.from) b)
  where
    by : IsLeastWayBelow s c.from (length s.points) c price → IsStraightCable s c
    by b = record {
      candidate = b.priced.way.candidate;
      to_substation = b.priced.way.to_substation;
      bears = b.priced.way.bears;
      least = λ q grade a h w.
          subst (λ (x : ℕ). (x < cost_of s c.from q grade (power_of s c.from)) ⊎ ((x ≡ cost_of s c.from q grade (power_of s c.from)) × ((c.to < q) ⊎ ((c.to ≡ q) × (c.grade ≤ grade)))))
          b.priced.price_is
          (b.least q grade (slice_get_within s.points q a.to a.to_is) (record { candidate = a; to_substation = h; bears = w }));
    }

-- where a turbine has none, there is no straight layout
pub none_straight : (s : Site) (p : ℕ) → IsTrue (is_turbine (kind_of s p)) → ((q grade : ℕ) → q < length s.points → ¬ (IsWayIn s p q grade)) → (cables : List Cable) → ¬ (IsStraight s cables)
none_straight s p turbine none cables h =
    let o = out-from_Starts cables p ((h.turbines p).0 turbine) in
    let x = straight-at s cables h o.place o.cable o.is_cable in
    none o.cable.to o.cable.grade (slice_get_within s.points o.cable.to x.candidate.to x.candidate.to_is)
    (subst (λ (q : ℕ). IsWayIn s q o.cable.to o.cable.grade) o.from (record { candidate = x.candidate; to_substation = x.to_substation; bears = x.bears }))

-- no turbine, no cable
pub straight_none : (s : Site) → AreStraightBelow s 0 []
straight_none s = record {
  count = omega arith;
  ascending = λ i j c d e f l. none e;
  below = λ i c e. none e;
  turbine = λ i c e. none e;
  straight = λ i c e. none e;
  joined = λ p l h. absurd (omega arith);
}
  where
    none : {X : Type 0} {c : Cable} → None ≡ Some c → X
    none e = absurd (cc)

-- another point starts no cable
pub straight_pass : (s : Site) (n : ℕ) (cables : List Cable) → ¬ (IsTrue (is_turbine (kind_of s n))) → AreStraightBelow s n cables → AreStraightBelow s (n + 1) cables
straight_pass s n cables other h = record {
  count = (let l : length cables ≤ n = h.count in omega arith);
  ascending = h.ascending;
  below = λ i c e. (let l : c.from < n = h.below i c e in omega arith);
  turbine = h.turbine;
  straight = h.straight;
  joined = λ p l t. elim (cases_lt p n) [
    | inl k ↦ h.joined p k t
    | inr k ↦ (let e : p ≡ n = omega arith in absurd (other (subst (λ (q : ℕ). IsTrue (is_turbine (kind_of s q))) e t)))
  ];
}

-- a turbine more
pub straight_more : (s : Site) (n : ℕ) (cables : List Cable) (new : Cable) → IsTrue (is_turbine (kind_of s n)) → new.from ≡ n → IsStraightCable s new → AreStraightBelow s n cables
    → AreStraightBelow s (n + 1) (cables ++ new ∷ [])
straight_more s n cables new turbine from straight h = record {
  count = (let l : length cables ≤ n = h.count in omega (arith, length_push cables new));
  ascending = λ i j c d e f l. elim (slice_get-append_one cables new j d f) [
    | inl y ↦ elim (slice_get-append_one cables new i c e) [
      | inl x ↦ h.ascending i j c d x y l
      | inr x ↦ (let u : i ≡ length cables = x.0 in let v = slice_get_within cables j d y in absurd (omega arith))
    ]
    | inr y ↦ elim (slice_get-append_one cables new i c e) [
      | inl x ↦ (let b : c.from < n = h.below i c x in let g : new.from ≡ d.from = ap (λ (a : Cable). a.from) y.1 in omega arith)
      | inr x ↦ (let u : i ≡ length cables = x.0 in let v : j ≡ length cables = y.0 in absurd (omega arith))
    ]
  ];
  below = λ i c e. elim (slice_get-append_one cables new i c e) [
    | inl x ↦ (let l : c.from < n = h.below i c x in omega arith)
    | inr x ↦ (let g : new.from ≡ c.from = ap (λ (a : Cable). a.from) x.1 in omega arith)
  ];
  turbine = λ i c e. elim (slice_get-append_one cables new i c e) [
    | inl x ↦ h.turbine i c x
    | inr x ↦ subst (λ (a : Cable). IsTrue (is_turbine (kind_of s a.from))) x.1 (subst (λ (q : ℕ). IsTrue (is_turbine (kind_of s q))) (sym from) turbine)
  ];
  straight = λ i c e. elim (slice_get-append_one cables new i c e) [
    | inl x ↦ h.straight i c x
    | inr x ↦ subst (IsStraightCable s) x.1 straight
  ];
  joined = λ p l t. elim (cases_lt p n) [
    | inl k ↦ (let x = h.joined p k t in (x.0, x.1, kept cables new x.0 x.1 x.2, x.3))
    | inr k ↦ (let e : p ≡ n = omega arith in (length cables, new, last cables new, from ∙ sym e))
  ];
}
  where
    kept : (cables : List Cable) (new : Cable) (i : ℕ) (c : Cable) → IsCable cables i c → IsCable (cables ++ new ∷ []) i c
    kept [] new i c e = absurd (cc)
    kept (x ∷ cables) new zero c e = e
    kept (x ∷ cables) new (suc i) c e = kept cables new i c e

    last : (cables : List Cable) (new : Cable) → IsCable (cables ++ new ∷ []) (length cables) new
    last [] new = refl
    last (x ∷ cables) new = last cables new

-- a turbine is a point of the site
pub turbine_within : (s : Site) (p : ℕ) → IsTrue (is_turbine (kind_of s p)) → p < length s.points
turbine_within s p h = by_point (slice_get s.points p) refl h
  where
    by_point : (o : Option Point) → slice_get s.points p ≡ o → IsTrue (is_turbine (kind_from o)) → p < length s.points
    by_point None e h = absurd (cc)
    by_point (Some point) e h = slice_get_within s.points p point e

-- all turbines
pub straight_all : (s : Site) (n : ℕ) (cables : List Cable) → length s.points ≤ n → AreStraightBelow s n cables → IsStraight s cables
straight_all s n cables most r = record {
  in_order = λ i j d l m.
      r.ascending i j (get_or cables i d) (get_or cables j d) (slice_get-get_or cables i d (omega arith)) (slice_get-get_or cables j d m) l;
  turbines = λ p. (
    λ h.
        let x = r.joined p (let w = turbine_within s p h in omega arith) h in
        subst (λ (q : ℕ). Starts cables q) x.3 (Starts-from_out cables x.1.from x.1 (cable_out-of cables (StartsDiffer-ascending cables r.ascending) x.0 x.1 x.2)),
    λ h.
        let o = out-from_Starts cables p h in
        subst (λ (q : ℕ). IsTrue (is_turbine (kind_of s q))) o.from (r.turbine o.place o.cable o.is_cable),
  );
  straight = λ k d l. r.straight k (get_or cables k d) (slice_get-get_or cables k d l);
}
