-- The straight layout: that there is one, that it is the only one, and what its cables carry.
use Rattle.std.proofs.Common.{◌≡◌, ℕ, zero, suc, ◌+◌, ◌<◌, ◌≤◌, ◌⊎◌, inl, inr, Bool, true, false, cond, List, [], ◌∷◌, length, get_or, slice_get, Option, Some, None, IsTrue, IsSome, refl, ap, sym, ◌∙◌, subst, arith, ne_eqb}
use Rattle.std.specs.Prelude.{◌==◌}
use Rattle.std.proofs.lemmas.Bool.{cases_lt}
use Rattle.std.proofs.lemmas.Bool.Decides.{eqb_tells}
use Rattle.std.proofs.lemmas.Option.{slice_get_within, get_or_from_slice_get, slice_get-get_or}
use Rattle.cable_definitions.specs.declared.cable.Arc.{Arc}
use Rattle.cable_definitions.specs.declared.cable.Cable.{Cable}
use Rattle.cable_definitions.specs.declared.site.Point.{Point}
use Rattle.cable_definitions.specs.Site.{Site}
use Rattle.cable_definitions.specs.Arcs.{IsCandidate, kind_of, kind_from, is_turbine, is_substation, power_of, power_of_kind, largest_capacity, cost_of, Bears, IsCheapest, AreArcs}
use Rattle.cable_definitions.specs.Walk.{cable_out, walk_end, most_steps, load, load_into}
use Rattle.cable_definitions.specs.Layout.{IsCable, Starts, KeepsCandidate, KeepsEnd}
use Rattle.cable_definitions.specs.Part.{IsStraightCable, IsStraight}
use Rattle.number_laws.proofs.NatSums.{sum_by-same_on, sum_by-zeros}
use Rattle.number_laws.proofs.Keys.{first_at-none}
use Rattle.layout_laws.specs.Alike.{StartsDiffer, SameOuts}
use Rattle.layout_laws.specs.Visits.{WalksEnd}
use Rattle.layout_laws.proofs.Alike.{cable_out-from, cable_out-place, cable_out-of}
use Rattle.layout_laws.proofs.Walking.{out_cases, Starts-from_out, walk_end-stays, walk_end-step, most_steps_is, none-from_Starts}
use Rattle.layout_laws.proofs.Flow.{load-flow}
use Rattle.layout_laws.proofs.Ending.{Starts-substation, WalksEnd-from_rules}
use Rattle.layout_laws.proofs.Typing.{Beats, least_below, cheap_or_none, cheapest_of, some_bears, all-at}
use Rattle.layout_laws.proofs.Nearest.{out-from_Starts}

-- a listed arc from p to q
pub record IsListed (arcs : List Arc) (p q : ℕ) : Type 0 where
  pub place : ℕ
  pub arc : Arc
  pub is_arc : slice_get arcs place ≡ Some arc
  pub from : arc.from ≡ p
  pub to : arc.to ≡ q

-- there is one or there is none
listed_or_not : (arcs : List Arc) (p q : ℕ) → IsListed arcs p q ⊎ (¬ (IsListed arcs p q))
listed_or_not [] p q = inr (λ l. by l.is_arc)
  where
    by : {a : Arc} → None ≡ Some a → ⊥
    by e = absurd (cc)
listed_or_not (a ∷ arcs) p q = elim (eqb_tells a.from p) [
  | inl t ↦ elim (eqb_tells a.to q) [
    | inl u ↦ inl (record { place = 0; arc = a; is_arc = refl; from = t.1; to = u.1 })
    | inr u ↦ further (λ x e f. u.1 (ap (λ (b : Arc). b.to) e ∙ f)) (listed_or_not arcs p q)
  ]
  | inr t ↦ further_from (λ x e f. t.1 (ap (λ (b : Arc). b.from) e ∙ f)) (listed_or_not arcs p q)
]
  where
    first_or_rest : ((x : Arc) → a ≡ x → x.from ≡ p → x.to ≡ q → ⊥) → ¬ (IsListed arcs p q) → (i : ℕ) (x : Arc) → slice_get (a ∷ arcs) i ≡ Some x → x.from ≡ p → x.to ≡ q → ⊥
    first_or_rest n m zero x e f g = n x (let h : Some a ≡ Some x = e in cc) f g
    first_or_rest n m (suc i) x e f g = m (record { place = i; arc = x; is_arc = e; from = f; to = g })

    further : ((x : Arc) → a ≡ x → x.to ≡ q → ⊥) → IsListed arcs p q ⊎ (¬ (IsListed arcs p q)) → IsListed (a ∷ arcs) p q ⊎ (¬ (IsListed (a ∷ arcs) p q))
    further n (inl l) = inl (record { place = suc l.place; arc = l.arc; is_arc = l.is_arc; from = l.from; to = l.to })
    further n (inr m) = inr (λ l. first_or_rest (λ x e f g. n x e g) m l.place l.arc l.is_arc l.from l.to)

    further_from : ((x : Arc) → a ≡ x → x.from ≡ p → ⊥) → IsListed arcs p q ⊎ (¬ (IsListed arcs p q)) → IsListed (a ∷ arcs) p q ⊎ (¬ (IsListed (a ∷ arcs) p q))
    further_from n (inl l) = inl (record { place = suc l.place; arc = l.arc; is_arc = l.is_arc; from = l.from; to = l.to })
    further_from n (inr m) = inr (λ l. first_or_rest (λ x e f g. n x e f) m l.place l.arc l.is_arc l.from l.to)

-- whether an arc is a candidate, where the candidate arcs are listed
pub candidate_or_not : (s : Site) (arcs : List Arc) → AreArcs s arcs → (p q : ℕ) → IsCandidate s p q ⊎ (¬ (IsCandidate s p q))
candidate_or_not s arcs are p q = elim (listed_or_not arcs p q) [
  | inl l ↦
      let c = all-at (λ (a : Arc). IsCandidate s a.from a.to) arcs l.place l.arc are.candidates l.is_arc in
      inl (subst (λ (x : ℕ). IsCandidate s x q) l.from (subst (λ (y : ℕ). IsCandidate s l.arc.from y) l.to c))
  | inr n ↦ inr (λ c.
      let found = are.all_candidates p q c in
      let place : slice_get arcs found.0 ≡ Some found.1 = slice_get-get_or arcs found.0 found.1 found.2 ∙ ap Some found.3 in
      n (record { place = found.0; arc = found.1; is_arc = place; from = found.4.0; to = found.4.1 }))
]

-- a candidate arc to a substation
abbrev pub IsWayIn : Site → ℕ → ℕ → Type 0
IsWayIn s p q = IsCandidate s p q × IsTrue (is_substation (kind_of s q))

-- whether an arc is one
way_in_or_not : (s : Site) (arcs : List Arc) → AreArcs s arcs → (p q : ℕ) → IsWayIn s p q ⊎ (¬ (IsWayIn s p q))
way_in_or_not s arcs are p q = by (candidate_or_not s arcs are p q) (true_or_not (is_substation (kind_of s q)))
  where
    true_or_not : (b : Bool) → IsTrue b ⊎ (¬ (IsTrue b))
    true_or_not true = inl refl
    true_or_not false = inr (λ e. absurd (cc))

    by : IsCandidate s p q ⊎ (¬ (IsCandidate s p q)) → IsTrue (is_substation (kind_of s q)) ⊎ (¬ (IsTrue (is_substation (kind_of s q)))) → IsWayIn s p q ⊎ (¬ (IsWayIn s p q))
    by (inl c) (inl h) = inl (c, h)
    by (inl c) (inr n) = inr (λ w. n w.1)
    by (inr n) h = inr (λ w. n w.0)

-- some type bears the power of a point with a candidate arc
pub arc-borne : (s : Site) (p q : ℕ) → 1 ≤ length s.types → IsCandidate s p q → (g : ℕ) × Bears s g (power_of s p)
arc-borne s p q some c =
    some_bears s (power_of s p) some (subst (λ (k : ℕ). k ≤ largest_capacity s) (sym (ap (λ (o : Option Point). power_of_kind (kind_from o)) c.from_is)) c.bearable)

-- the cheapest type that bears the power of p on a cable from p to q, where some type does
abbrev pub own_grade : Site → ℕ → ℕ → ℕ
own_grade s p q = (cheap_or_none s p q (power_of s p)).0

-- what a cable of this type costs with that power
abbrev pub own_cost : Site → ℕ → ℕ → ℕ
own_cost s p q = cost_of s p q (own_grade s p q) (power_of s p)

-- this type is the cheapest where some type bears the power
pub own_cheapest : (s : Site) (p q other : ℕ) → Bears s other (power_of s p) → IsCheapest s p q (power_of s p) (own_grade s p q)
own_cheapest s p q other b = cheapest_of s p q (power_of s p) (own_grade s p q) other (cheap_or_none s p q (power_of s p)).1 b

-- the least of all ends, and then of all types
join_ends : (a b c q r g h other : ℕ) → (q ≡ r → g ≡ h) → (a < b) ⊎ ((a ≡ b) × (q ≤ r)) → (b < c) ⊎ ((b ≡ c) × (h ≤ other))
    → (a < c) ⊎ ((a ≡ c) × ((q < r) ⊎ ((q ≡ r) × (g ≤ other))))
join_ends a b c q r g h other f (inl x) (inl y) = inl (omega arith)
join_ends a b c q r g h other f (inl x) (inr y) = let e : b ≡ c = y.0 in inl (omega arith)
join_ends a b c q r g h other f (inr x) (inl y) = let e : a ≡ b = x.0 in inl (omega arith)
join_ends a b c q r g h other f (inr x) (inr y) =
    let l : q ≤ r = x.1 in
    let m : h ≤ other = y.1 in
    elim (cases_lt q r) [
      | inl k ↦ inr (x.0 ∙ y.0, inl k)
      | inr k ↦
          let same : q ≡ r = omega arith in
          let grades : g ≡ h = f same in
          inr (x.0 ∙ y.0, inr (same, omega arith))
    ]

-- a straight cable out of p
pub record IsStraightOut (s : Site) (p : ℕ) : Type 0 where
  pub cable : Cable
  pub from : cable.from ≡ p
  pub straight : IsStraightCable s cable

-- there is one out of a point with a candidate arc to a substation
pub some_straight_cable : (s : Site) (arcs : List Arc) → 1 ≤ length s.types → AreArcs s arcs → (p q : ℕ) → IsWayIn s p q → IsStraightOut s p
some_straight_cable s arcs some are p q way =
    by (least_below (own_cost s p) (IsWayIn s p) (way_in_or_not s arcs are p) (length s.points))
  where
    by : ((r : ℕ) → r < length s.points → ¬ (IsWayIn s p r))
        ⊎ ((r : ℕ) × (r < length s.points) × (IsWayIn s p r) × ((other : ℕ) → other < length s.points → IsWayIn s p other → Beats (own_cost s p) r other)) → IsStraightOut s p
    by (inl none) = absurd (none q (slice_get_within s.points q way.0.to way.0.to_is) way)
    by (inr (r, l, w, least)) = record {
      cable = record { from = p; to = r; grade = own_grade s p r };
      from = refl;
      straight = record {
        candidate = w.0;
        to_substation = w.1;
        bears = let b = arc-borne s p r some w.0 in (own_cheapest s p r b.0 b.1).bears;
        least = λ t other c h b.
            join_ends (own_cost s p r) (own_cost s p t) (cost_of s p t other (power_of s p)) r t (own_grade s p r) (own_grade s p t) other (ap (own_grade s p))
            (least t (slice_get_within s.points t c.to c.to_is) (c, h)) ((own_cheapest s p t other b).least other b);
      };
    }

-- straight cables out of the turbines among the points from p on, below n, in order of start
pub record AreStraightFrom (s : Site) (p n : ℕ) (cables : List Cable) : Type 0 where
  pub ascending : (i j : ℕ) (c d : Cable) → IsCable cables i c → IsCable cables j d → i < j → c.from < d.from
  pub from : (i : ℕ) (c : Cable) → IsCable cables i c → p ≤ c.from
  pub turbine : (i : ℕ) (c : Cable) → IsCable cables i c → IsTrue (is_turbine (kind_of s c.from))
  pub straight : (i : ℕ) (c : Cable) → IsCable cables i c → IsStraightCable s c
  pub joined : (t : ℕ) → p ≤ t → t < p + n → IsTrue (is_turbine (kind_of s t)) → (i : ℕ) × (c : Cable) × (IsCable cables i c) × (c.from ≡ t)

-- there are such cables
some_straight_from : (s : Site) → ((p : ℕ) → IsTrue (is_turbine (kind_of s p)) → IsStraightOut s p) → (n p : ℕ) → (cables : List Cable) × AreStraightFrom s p n cables
some_straight_from s out zero p = (
  [],
  record {
    ascending = λ i j c d e f l. none e;
    from = λ i c e. none e;
    turbine = λ i c e. none e;
    straight = λ i c e. none e;
    joined = λ t l m h. absurd (omega arith);
  },
)
  where
    none : {X : Type 0} {c : Cable} → None ≡ Some c → X
    none e = absurd (cc)
some_straight_from s out (suc n) p = by (is_turbine (kind_of s p)) refl (some_straight_from s out n (suc p))
  where
    ahead : (o : IsStraightOut s p) (cables : List Cable) → AreStraightFrom s (suc p) n cables → IsTrue (is_turbine (kind_of s p)) → AreStraightFrom s p (suc n) (o.cable ∷ cables)
    ahead o cables r h = record {
      ascending = ascending;
      from = from;
      turbine = turbine;
      straight = straight;
      joined = λ t l m k. elim (cases_lt p t) [
        | inl below ↦ let x = r.joined t (omega arith) (omega arith) k in (suc x.0, x.1, x.2, x.3)
        | inr not_below ↦ (0, o.cable, refl, o.from ∙ (let e : p ≡ t = omega arith in e))
      ];
    }
      where
        same : {c : Cable} → Some o.cable ≡ Some c → o.cable ≡ c
        same e = cc

        starts : {c : Cable} → Some o.cable ≡ Some c → c.from ≡ p
        starts e = ap (λ (d : Cable). d.from) (sym (same e)) ∙ o.from

        ascending : (i j : ℕ) (c d : Cable) → IsCable (o.cable ∷ cables) i c → IsCable (o.cable ∷ cables) j d → i < j → c.from < d.from
        ascending zero zero c d e f l = absurd (omega arith)
        ascending zero (suc j) c d e f l = let a : c.from ≡ p = starts e in let b : suc p ≤ d.from = r.from j d f in omega arith
        ascending (suc i) zero c d e f l = absurd (omega arith)
        ascending (suc i) (suc j) c d e f l = r.ascending i j c d e f (omega arith)

        from : (i : ℕ) (c : Cable) → IsCable (o.cable ∷ cables) i c → p ≤ c.from
        from zero c e = let a : c.from ≡ p = starts e in omega arith
        from (suc i) c e = let b : suc p ≤ c.from = r.from i c e in omega arith

        turbine : (i : ℕ) (c : Cable) → IsCable (o.cable ∷ cables) i c → IsTrue (is_turbine (kind_of s c.from))
        turbine zero c e = subst (λ (q : ℕ). IsTrue (is_turbine (kind_of s q))) (sym (starts e)) h
        turbine (suc i) c e = r.turbine i c e

        straight : (i : ℕ) (c : Cable) → IsCable (o.cable ∷ cables) i c → IsStraightCable s c
        straight zero c e = subst (IsStraightCable s) (same e) o.straight
        straight (suc i) c e = r.straight i c e

    by : (b : Bool) → is_turbine (kind_of s p) ≡ b → (cables : List Cable) × AreStraightFrom s (suc p) n cables → (cables : List Cable) × AreStraightFrom s p (suc n) cables
    by true e (cables, r) = let o = out p e in (o.cable ∷ cables, ahead o cables r e)
    by false e (cables, r) = (
      cables,
      record {
        ascending = r.ascending;
        from = λ i c h. let b : suc p ≤ c.from = r.from i c h in omega arith;
        turbine = r.turbine;
        straight = r.straight;
        joined = λ t l m k. elim (cases_lt p t) [
          | inl below ↦ r.joined t (omega arith) (omega arith) k
          | inr not_below ↦
              let same : p ≡ t = omega arith in
              absurd (let f : false ≡ true = sym e ∙ subst (λ (q : ℕ). IsTrue (is_turbine (kind_of s q))) (sym same) k in cc)
        ];
      },
    )

-- ascending starts differ
pub StartsDiffer-ascending : (cables : List Cable) → ((i j : ℕ) (c d : Cable) → IsCable cables i c → IsCable cables j d → i < j → c.from < d.from) → StartsDiffer cables
StartsDiffer-ascending cables a i j c d e f l same = let m = a j i d c f e l in absurd (omega arith)

-- a turbine is a point of the site
turbine_within : (s : Site) (p : ℕ) → IsTrue (is_turbine (kind_of s p)) → p < length s.points
turbine_within s p h = by_point (slice_get s.points p) refl h
  where
    by_point : (o : Option Point) → slice_get s.points p ≡ o → IsTrue (is_turbine (kind_from o)) → p < length s.points
    by_point None e h = absurd (cc)
    by_point (Some point) e h = slice_get_within s.points p point e

-- where each turbine has a candidate arc to a substation, there is a straight layout
pub some_straight : (s : Site) (arcs : List Arc) → 1 ≤ length s.types → AreArcs s arcs
    → ((p : ℕ) → IsTrue (is_turbine (kind_of s p)) → (q : ℕ) × (IsCandidate s p q) × (IsTrue (is_substation (kind_of s q)))) → (cables : List Cable) × IsStraight s cables
some_straight s arcs some are ways =
    by (some_straight_from s (λ p h. let w = ways p h in some_straight_cable s arcs some are p w.0 (w.1, w.2)) (length s.points) 0)
  where
    by : (cables : List Cable) × AreStraightFrom s 0 (length s.points) cables → (cables : List Cable) × IsStraight s cables
    by (cables, r) = (
      cables,
      record {
        in_order = λ i j d l m.
            r.ascending i j (get_or cables i d) (get_or cables j d) (slice_get-get_or cables i d (omega arith)) (slice_get-get_or cables j d m) l;
        turbines = λ p. (
          λ h.
              let w : p < length s.points = turbine_within s p h in
              let x = r.joined p (omega arith) (omega arith) h in
              subst (λ (q : ℕ). Starts cables q) x.3 (Starts-from_out cables x.1.from x.1 (cable_out-of cables (StartsDiffer-ascending cables r.ascending) x.0 x.1 x.2)),
          λ h.
              let o = out-from_Starts cables p h in
              subst (λ (q : ℕ). IsTrue (is_turbine (kind_of s q))) o.from (r.turbine o.place o.cable o.is_cable),
        );
        straight = λ k d l. r.straight k (get_or cables k d) (slice_get-get_or cables k d l);
      },
    )

-- two straight cables out of one point end alike and have one type
same_end_and_type : (s : Site) (p a g b h : ℕ) → IsStraightCable s (record { from = p; to = a; grade = g }) → IsStraightCable s (record { from = p; to = b; grade = h }) → (a ≡ b) × (g ≡ h)
same_end_and_type s p a g b h x y =
    by (cost_of s p a g (power_of s p)) (cost_of s p b h (power_of s p))
    (x.least b h y.candidate y.to_substation y.bears) (y.least a g x.candidate x.to_substation x.bears)
  where
    ends : (a < b) ⊎ ((a ≡ b) × (g ≤ h)) → (b < a) ⊎ ((b ≡ a) × (h ≤ g)) → (a ≡ b) × (g ≡ h)
    ends (inl k) (inl l) = absurd (omega arith)
    ends (inl k) (inr l) = let e : b ≡ a = l.0 in absurd (omega arith)
    ends (inr k) (inl l) = let e : a ≡ b = k.0 in absurd (omega arith)
    ends (inr k) (inr l) = let m : g ≤ h = k.1 in let n : h ≤ g = l.1 in (k.0, omega arith)

    by : (c d : ℕ) → (c < d) ⊎ ((c ≡ d) × ((a < b) ⊎ ((a ≡ b) × (g ≤ h)))) → (d < c) ⊎ ((d ≡ c) × ((b < a) ⊎ ((b ≡ a) × (h ≤ g)))) → (a ≡ b) × (g ≡ h)
    by c d (inl k) (inl l) = absurd (omega arith)
    by c d (inl k) (inr l) = let e : d ≡ c = l.0 in absurd (omega arith)
    by c d (inr k) (inl l) = let e : c ≡ d = k.0 in absurd (omega arith)
    by c d (inr k) (inr l) = ends k.1 l.1

-- two straight cables out of one point are one
pub one_straight_cable : (s : Site) (c d : Cable) → c.from ≡ d.from → IsStraightCable s c → IsStraightCable s d → c ≡ d
one_straight_cable s c d e x y =
    let moved : IsStraightCable s (record { from = c.from; to = d.to; grade = d.grade }) =
    subst (λ (p : ℕ). IsStraightCable s (record { from = p; to = d.to; grade = d.grade })) (sym e) y in
    let r = same_end_and_type s c.from c.to c.grade d.to d.grade x moved in
    λ i. record { from = e i; to = r.0 i; grade = r.1 i }

-- lists in ascending order of start with the same first cables are one
same_ascending : (xs ys : List Cable)
    → ((i j : ℕ) (c d : Cable) → IsCable xs i c → IsCable xs j d → i < j → c.from < d.from)
    → ((i j : ℕ) (c d : Cable) → IsCable ys i c → IsCable ys j d → i < j → c.from < d.from)
    → SameOuts xs ys → xs ≡ ys
same_ascending [] [] a b e = refl
same_ascending [] (y ∷ ys) a b e = absurd (let h : None ≡ Some y = e y.from ∙ cable_out-of (y ∷ ys) (StartsDiffer-ascending (y ∷ ys) b) 0 y refl in cc)
same_ascending (x ∷ xs) [] a b e = absurd (let h : None ≡ Some x = sym (e x.from) ∙ cable_out-of (x ∷ xs) (StartsDiffer-ascending (x ∷ xs) a) 0 x refl in cc)
same_ascending (x ∷ xs) (y ∷ ys) a b e =
    let rest : xs ≡ ys = same_ascending xs ys
    (λ i j c d f g l. a (suc i) (suc j) c d f g (omega arith))
    (λ i j c d f g l. b (suc i) (suc j) c d f g (omega arith))
    tails in
    λ i. heads i ∷ rest i
  where
    differ_xs : StartsDiffer (x ∷ xs)
    differ_xs = StartsDiffer-ascending (x ∷ xs) a

    differ_ys : StartsDiffer (y ∷ ys)
    differ_ys = StartsDiffer-ascending (y ∷ ys) b

    out_x : cable_out (x ∷ xs) x.from ≡ Some x
    out_x = cable_out-of (x ∷ xs) differ_xs 0 x refl

    out_y : cable_out (y ∷ ys) y.from ≡ Some y
    out_y = cable_out-of (y ∷ ys) differ_ys 0 y refl

    least_of : (z : Cable) (zs : List Cable) → ((i j : ℕ) (c d : Cable) → IsCable (z ∷ zs) i c → IsCable (z ∷ zs) j d → i < j → c.from < d.from)
        → (i : ℕ) (c : Cable) → IsCable (z ∷ zs) i c → z.from ≤ c.from
    least_of z zs a zero c h = let same : Some z ≡ Some c = h in let one : z ≡ c = cc in let f : z.from ≡ c.from = ap (λ (d : Cable). d.from) one in omega arith
    least_of z zs a (suc i) c h = let l = a 0 (suc i) z c refl h (omega arith) in omega arith

    same_start : x.from ≡ y.from
    same_start =
        let u = cable_out-place (y ∷ ys) x.from x (sym (e x.from) ∙ out_x) in
        let v = cable_out-place (x ∷ xs) y.from y (e y.from ∙ out_y) in
        let l : y.from ≤ x.from = least_of y ys b u.0 x u.1 in
        let m : x.from ≤ y.from = least_of x xs a v.0 y v.1 in
        omega arith

    heads : x ≡ y
    heads = let h : Some x ≡ Some y = sym out_x ∙ e x.from ∙ ap (cable_out (y ∷ ys)) same_start ∙ out_y in cc

    tails : SameOuts xs ys
    tails k = elim (eqb_tells x.from k) [
      | inl t ↦
          let n : cable_out xs k ≡ None = ap (cable_out xs) (sym t.1) ∙ first_at-none (λ (c : Cable). c.from) x xs differ_xs in
          let m : cable_out ys k ≡ None = ap (cable_out ys) (sym t.1 ∙ same_start) ∙ first_at-none (λ (c : Cable). c.from) y ys differ_ys in
          n ∙ sym m
      | inr t ↦
          let n : cable_out (x ∷ xs) k ≡ cable_out xs k = rw t.0 refl in
          let other = ne_eqb y.from k (λ f. t.1 (same_start ∙ f)) in
          let m : cable_out (y ∷ ys) k ≡ cable_out ys k = rw other refl in
          sym n ∙ e k ∙ m
    ]

-- the cables of a straight layout ascend
pub straight-ascending : (s : Site) (cables : List Cable) → IsStraight s cables → (i j : ℕ) (c d : Cable) → IsCable cables i c → IsCable cables j d → i < j → c.from < d.from
straight-ascending s cables h i j c d e f l =
    let order = h.in_order i j d l (slice_get_within cables j d f) in
    let x = get_or_from_slice_get cables i c d e in
    let y = get_or_from_slice_get cables j d d f in
    subst (λ (z : Cable). z.from < d.from) x (subst (λ (z : Cable). (get_or cables i d).from < z.from) y order)

-- each of them is a straight cable
pub straight-at : (s : Site) (cables : List Cable) → IsStraight s cables → (i : ℕ) (c : Cable) → IsCable cables i c → IsStraightCable s c
straight-at s cables h i c e = all-at (IsStraightCable s) cables i c h.straight e

-- there is one straight layout
pub one_straight : (s : Site) (xs ys : List Cable) → IsStraight s xs → IsStraight s ys → xs ≡ ys
one_straight s xs ys h k = same_ascending xs ys (straight-ascending s xs h) (straight-ascending s ys k) outs
  where
    outs : SameOuts xs ys
    outs p = elim (out_cases xs p) [
      | inl n ↦ elim (out_cases ys p) [
        | inl m ↦ n ∙ sym m
        | inr w ↦
            let starts = (h.turbines p).0 ((k.turbines p).1 (Starts-from_out ys p w.0 w.1)) in
            absurd (let g : IsSome {T = Cable} None = subst (λ (o : Option Cable). IsSome o) n starts in cc)
      ]
      | inr v ↦
          let o = out-from_Starts ys p ((k.turbines p).0 ((h.turbines p).1 (Starts-from_out xs p v.0 v.1))) in
          let place = cable_out-place xs p v.0 v.1 in
          let same = one_straight_cable s v.0 o.cable (cable_out-from xs p v.0 v.1 ∙ sym o.from) (straight-at s xs h place.0 v.0 place.1) (straight-at s ys k o.place o.cable o.is_cable) in
          v.1 ∙ ap Some same ∙ sym o.first
    ]

-- each turbine of a straight layout starts a straight cable
pub straight-out : (s : Site) (cables : List Cable) → IsStraight s cables → (p : ℕ) → IsTrue (is_turbine (kind_of s p))
    → (c : Cable) × (cable_out cables p ≡ Some c) × (IsCandidate s p c.to) × (IsTrue (is_substation (kind_of s c.to)))
straight-out s cables h p turbine =
    let o = out-from_Starts cables p ((h.turbines p).0 turbine) in
    let x = straight-at s cables h o.place o.cable o.is_cable in
    (o.cable, o.first, subst (λ (q : ℕ). IsCandidate s q o.cable.to) o.from x.candidate, x.to_substation)

-- a walk over one cable
walk_end-one : (cables : List Cable) (p steps : ℕ) (c : Cable) → 1 ≤ steps → cable_out cables p ≡ Some c → cable_out cables c.to ≡ None → walk_end steps cables p ≡ c.to
walk_end-one cables p zero c l e n = absurd (omega arith)
walk_end-one cables p (suc steps) c l e n = walk_end-step cables p steps c e ∙ walk_end-stays cables c.to steps n

-- the cables of a straight layout are candidate arcs
straight-candidates : (s : Site) (cables : List Cable) → IsStraight s cables → (i : ℕ) → KeepsCandidate s cables i
straight-candidates s cables h i c e = (straight-at s cables h i c e).candidate

-- the walks of a straight layout end in substations
pub straight-ends : (s : Site) (cables : List Cable) → IsStraight s cables → (p : ℕ) → KeepsEnd s cables p
straight-ends s cables h p starts =
    let o = out-from_Starts cables p starts in
    let substation : IsTrue (is_substation (kind_of s o.cable.to)) = (straight-at s cables h o.place o.cable o.is_cable).to_substation in
    let none = none-from_Starts cables o.cable.to (Starts-substation s cables (straight-candidates s cables h) o.cable.to substation) in
    let end = walk_end-one cables p most_steps o.cable (omega (arith, most_steps_is)) o.first none in
    subst (λ (q : ℕ). IsTrue (is_substation (kind_of s q))) (sym end) substation

-- nothing comes to a point of a straight layout that is no substation
straight-load_into : (s : Site) (cables : List Cable) → IsStraight s cables → (p : ℕ) → ¬ (IsTrue (is_substation (kind_of s p))) → load_into s cables p ≡ 0
straight-load_into s cables h p n =
    sum_by-same_on (λ (c : Cable). cond (c.to == p) (load s cables c.from) 0) (λ (c : Cable). 0) cables (λ i c e.
    let other = ne_eqb c.to p (λ f. n (subst (λ (q : ℕ). IsTrue (is_substation (kind_of s q))) f (straight-at s cables h i c e).to_substation)) in
    ap (λ (b : Bool). cond b (load s cables c.from) 0) other)
    ∙ sum_by-zeros cables

-- so what leaves it is its own power
pub straight-load : (s : Site) (cables : List Cable) → IsStraight s cables → (p : ℕ) → ¬ (IsTrue (is_substation (kind_of s p))) → load s cables p ≡ power_of s p
straight-load s cables h p n =
    let differ = StartsDiffer-ascending cables (straight-ascending s cables h) in
    let ends : WalksEnd cables = WalksEnd-from_rules s cables (straight-candidates s cables h) (straight-ends s cables h) in
    let a = load-flow s cables differ ends p in
    let b = straight-load_into s cables h p n in
    omega (arith, a, b)

-- each cable of a straight layout carries its start's own power
pub straight-cable_load : (s : Site) (cables : List Cable) → IsStraight s cables → (i : ℕ) (c : Cable) → IsCable cables i c → load s cables c.from ≡ power_of s c.from
straight-cable_load s cables h i c e =
    let a = (straight-at s cables h i c e).candidate in
    straight-load s cables h c.from (λ sub. a.no_substation (subst (λ (o : Option Point). IsTrue (is_substation (kind_from o))) a.from_is sub))
