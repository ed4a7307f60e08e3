-- What lists of cables share that differ in their order or in their types alone.
use Rattle.std.proofs.Common.{◌≡◌, ◌≢◌, ℕ, zero, suc, ◌<◌, cond, List, sum_by, Option, Some, None, option_map, IsSome, IsTrue, length, refl, ap, sym, ◌∙◌, subst, arith}
use Rattle.std.specs.Prelude.{◌==◌}
use Rattle.std.specs.List.{list_any, enumerate_from}
use Rattle.cable_definitions.specs.declared.cable.Cable.{Cable}
use Rattle.cable_definitions.specs.declared.cable.Rule.{Rule}
use Rattle.cable_definitions.specs.declared.cable.Rule.TheVariants.{Range, Candidate, Start, Unjoined, Bend, Lost, Overload, Feeders, Power, Branch, Clash}
use Rattle.cable_definitions.specs.declared.site.Point.{Point}
use Rattle.cable_definitions.specs.Site.{Site}
use Rattle.cable_definitions.specs.Arcs.{IsCandidate, power_of_kind, kind_of, is_substation, cost_of}
use Rattle.cable_definitions.specs.Walk.{cable_out, walk_from, end_of_cable, walk, walk_end, most_steps, passes, load, starts_in, ends_in, load_into}
use Rattle.cable_definitions.specs.Layout.{IsCable, Starts, Keeps, KeepsRange, KeepsCapacity, PairsClash, IsLegal, cost}
use Rattle.cable_definitions.specs.Part.{IsGrown}
use Rattle.number_laws.proofs.NatSums.{sum_by-same}
use Rattle.number_laws.proofs.Keys.{first_at-key, first_at-place, place-first_at, value_at, sum_by-same_keys}
use Rattle.layout_laws.specs.Alike.{StartsDiffer, SameOuts, SameEnds}

-- the first cable out of p starts in p
pub cable_out-from : (cables : List Cable) (p : ℕ) (c : Cable) → cable_out cables p ≡ Some c → c.from ≡ p
cable_out-from cables p c e = first_at-key (λ (c : Cable). c.from) cables p c e

-- the first cable out of p is in the list
pub cable_out-place : (cables : List Cable) (p : ℕ) (c : Cable) → cable_out cables p ≡ Some c → (i : ℕ) × (IsCable cables i c)
cable_out-place cables p c e = first_at-place (λ (c : Cable). c.from) cables p c e

-- where starts differ, a cable of the list is the first out of its start
pub cable_out-of : (cables : List Cable) → StartsDiffer cables → (i : ℕ) (c : Cable) → IsCable cables i c → cable_out cables c.from ≡ Some c
cable_out-of cables d i c e = place-first_at (λ (c : Cable). c.from) cables d i c e

-- the same first cables end alike
pub SameEnds-from_outs : (xs ys : List Cable) → SameOuts xs ys → SameEnds xs ys
SameEnds-from_outs xs ys e p = ap (option_map (λ (c : Cable). c.to)) (e p)

-- a cable goes on from where the first cable ends
pub end_of_cable-same : (o q : Option Cable) (p : ℕ) → option_map (λ (c : Cable). c.to) o ≡ option_map (λ (c : Cable). c.to) q → end_of_cable o p ≡ end_of_cable q p
end_of_cable-same None None p e = refl
end_of_cable-same None (Some d) p e = absurd (cc)
end_of_cable-same (Some c) None p e = absurd (cc)
end_of_cable-same (Some c) (Some d) p e = cc

-- a walk goes on where a cable starts
pub walk_from-same : (o q : Option Cable) (p : ℕ) (further : List ℕ) → option_map (λ (c : Cable). c.to) o ≡ option_map (λ (c : Cable). c.to) q → walk_from o p further ≡ walk_from q p further
walk_from-same None None p further e = refl
walk_from-same None (Some d) p further e = absurd (cc)
walk_from-same (Some c) None p further e = absurd (cc)
walk_from-same (Some c) (Some d) p further e = refl

-- the same walks
pub walk-same : (xs ys : List Cable) → SameEnds xs ys → (steps p : ℕ) → walk steps xs p ≡ walk steps ys p
walk-same xs ys e zero p = refl
walk-same xs ys e (suc steps) p =
    let o = cable_out xs p in
    let q = cable_out ys p in
    walk_from-same o q p (walk steps xs (end_of_cable o p)) (e p)
    ∙ ap (λ w. walk_from q p w) (ap (walk steps xs) (end_of_cable-same o q p (e p)) ∙ walk-same xs ys e steps (end_of_cable q p))

-- the same ends of walks
pub walk_end-same : (xs ys : List Cable) → SameEnds xs ys → (steps p : ℕ) → walk_end steps xs p ≡ walk_end steps ys p
walk_end-same xs ys e zero p = refl
walk_end-same xs ys e (suc steps) p =
    ap (walk_end steps xs) (end_of_cable-same (cable_out xs p) (cable_out ys p) p (e p)) ∙ walk_end-same xs ys e steps (end_of_cable (cable_out ys p) p)

-- the same points passed
pub passes-same : (xs ys : List Cable) → SameEnds xs ys → (p t : ℕ) → passes xs p t ≡ passes ys p t
passes-same xs ys e p t = ap (list_any (λ q. q == p)) (walk-same xs ys e most_steps t)

-- the same loads
pub load-same : (s : Site) (xs ys : List Cable) → SameEnds xs ys → (p : ℕ) → load s xs p ≡ load s ys p
load-same s xs ys e p =
    sum_by-same
    (λ (x : ℕ × Point). cond (passes xs p x.0) (power_of_kind x.1.kind) 0)
    (λ (x : ℕ × Point). cond (passes ys p x.0) (power_of_kind x.1.kind) 0)
    (enumerate_from 0 s.points)
    (λ x. ap (λ b. cond b (power_of_kind x.1.kind) 0) (passes-same xs ys e p x.0))

-- the same starts
pub Starts-same : (xs ys : List Cable) → SameEnds xs ys → (p : ℕ) → Starts xs p → Starts ys p
Starts-same xs ys e p s = by_cases (cable_out xs p) (cable_out ys p) (e p) s
  where
    by_cases : (o q : Option Cable) → option_map (λ (c : Cable). c.to) o ≡ option_map (λ (c : Cable). c.to) q → IsSome o → IsSome q
    by_cases None q e s = absurd (cc)
    by_cases (Some c) None e s = absurd (cc)
    by_cases (Some c) (Some d) e s = refl

-- a sum over the cables, of terms that depend on starts and ends alone
pub sum_by-same_ends : (f g : Cable → ℕ) (xs ys : List Cable) → StartsDiffer xs → StartsDiffer ys → SameEnds xs ys
    → ((c d : Cable) → c.from ≡ d.from → c.to ≡ d.to → f c ≡ g d) → sum_by f xs ≡ sum_by g ys
sum_by-same_ends f g xs ys d b e same =
    sum_by-same_keys (λ (c : Cable). c.from) f g xs ys d b (λ p. by_cases p (cable_out xs p) (cable_out ys p) refl refl (e p))
  where
    by_cases : (p : ℕ) (o q : Option Cable) → cable_out xs p ≡ o → cable_out ys p ≡ q
        → option_map (λ (c : Cable). c.to) o ≡ option_map (λ (c : Cable). c.to) q → value_at f o ≡ value_at g q
    by_cases p None None u v w = refl
    by_cases p None (Some d) u v w = absurd (cc)
    by_cases p (Some c) None u v w = absurd (cc)
    by_cases p (Some c) (Some d) u v w = same c d (cable_out-from xs p c u ∙ sym (cable_out-from ys p d v)) (cc)

-- as many cables start in p
pub starts_in-same : (xs ys : List Cable) → StartsDiffer xs → StartsDiffer ys → SameEnds xs ys → (p : ℕ) → starts_in xs p ≡ starts_in ys p
starts_in-same xs ys d b e p =
    sum_by-same_ends (λ c. cond (c.from == p) 1 0) (λ c. cond (c.from == p) 1 0) xs ys d b e (λ c d u v. ap (λ (k : ℕ). cond (k == p) 1 0) u)

-- as many cables end in p
pub ends_in-same : (xs ys : List Cable) → StartsDiffer xs → StartsDiffer ys → SameEnds xs ys → (p : ℕ) → ends_in xs p ≡ ends_in ys p
ends_in-same xs ys d b e p =
    sum_by-same_ends (λ c. cond (c.to == p) 1 0) (λ c. cond (c.to == p) 1 0) xs ys d b e (λ c d u v. ap (λ (k : ℕ). cond (k == p) 1 0) v)

-- the same loads into p
pub load_into-same : (s : Site) (xs ys : List Cable) → StartsDiffer xs → StartsDiffer ys → SameEnds xs ys → (p : ℕ) → load_into s xs p ≡ load_into s ys p
load_into-same s xs ys d b e p =
    sum_by-same_ends (λ c. cond (c.to == p) (load s xs c.from) 0) (λ c. cond (c.to == p) (load s ys c.from) 0) xs ys d b e
    (λ c d u v. ap (λ (k : ℕ). cond (k == p) (load s xs c.from) 0) v ∙ ap (λ (n : ℕ). cond (d.to == p) n 0) (ap (load s xs) u ∙ load-same s xs ys e d.from))

-- a cable of the list with the same start and the same end
pub record HasArc (cables : List Cable) (arc : Cable) : Type 0 where
  pub place : ℕ
  pub cable : Cable
  pub is_cable : IsCable cables place cable
  pub from : cable.from ≡ arc.from
  pub to : cable.to ≡ arc.to

-- each cable of one list has such a one in the other
pub HasArc-same : (xs ys : List Cable) → StartsDiffer ys → SameEnds xs ys → (i : ℕ) (d : Cable) → IsCable ys i d → HasArc xs d
HasArc-same xs ys b e i d h = by_cases (cable_out xs d.from) refl (e d.from ∙ ap (option_map (λ (c : Cable). c.to)) (cable_out-of ys b i d h))
  where
    by_cases : (o : Option Cable) → cable_out xs d.from ≡ o → option_map (λ (c : Cable). c.to) (cable_out xs d.from) ≡ Some d.to → HasArc xs d
    by_cases None u v = absurd (let w : None ≡ Some d.to = ap (option_map (λ (c : Cable). c.to)) (sym u) ∙ v in cc)
    by_cases (Some c) u v =
        let r = cable_out-place xs d.from c u in
        let w : Some c.to ≡ Some d.to = ap (option_map (λ (c : Cable). c.to)) (sym u) ∙ v in
        record { place = r.0; cable = c; is_cable = r.1; from = cable_out-from xs d.from c u; to = cc }

-- all rules but those on types carry over
pub Keeps-same : (s : Site) (xs ys : List Cable) → StartsDiffer xs → StartsDiffer ys → SameEnds xs ys → (rule : Rule) → rule ≢ Range → rule ≢ Overload
    → ((i j : ℕ) → Keeps s xs rule i j) → (i j : ℕ) → Keeps s ys rule i j
Keeps-same s xs ys d b e Range n m k i j = absurd (n refl)
Keeps-same s xs ys d b e Candidate n m k i j = λ c h.
    let a = HasArc-same xs ys b e i c h in
    subst (λ (p : ℕ). IsCandidate s p c.to) a.from (subst (λ (q : ℕ). IsCandidate s a.cable.from q) a.to (k a.place 0 a.cable a.is_cable))
Keeps-same s xs ys d b e Start n m k i j = b i
Keeps-same s xs ys d b e Unjoined n m k p j = λ h. Starts-same xs ys e p (k p 0 h)
Keeps-same s xs ys d b e Bend n m k p j =
    let r = starts_in-same xs ys d b e p in
    let q = ends_in-same xs ys d b e p in
    record {
      as_many = λ point h g. sym r ∙ (k p 0).as_many point h g ∙ q;
      at_most_one = λ point h g. let l = (k p 0).at_most_one point h g in omega (arith, r, l);
    }
Keeps-same s xs ys d b e Lost n m k p j = λ h.
    subst (λ (q : ℕ). IsTrue (is_substation (kind_of s q))) (walk_end-same xs ys e most_steps p) (k p 0 (Starts-same ys xs (λ q. sym (e q)) p h))
Keeps-same s xs ys d b e Overload n m k p j = absurd (m refl)
Keeps-same s xs ys d b e Feeders n m k p j = λ feeders power h. let l = k p 0 feeders power h in omega (arith, l, ends_in-same xs ys d b e p)
Keeps-same s xs ys d b e Power n m k p j = λ feeders power h. let l = k p 0 feeders power h in omega (arith, l, load_into-same s xs ys d b e p)
Keeps-same s xs ys d b e Branch n m k p j = λ mode h. let l = k p 0 mode h in omega (arith, l, ends_in-same xs ys d b e p)
Keeps-same s xs ys d b e Clash n m k p q = λ i j c f h g u v l.
    let a = HasArc-same xs ys b e i c h in
    let z = HasArc-same xs ys b e j f g in
    let clear : ¬ (PairsClash s a.cable.from a.cable.to z.cable.from z.cable.to) =
    k p q a.place z.place a.cable z.cable a.is_cable z.is_cable (a.from ∙ u) (z.from ∙ v) l in
    subst (λ (x : ℕ). ¬ (PairsClash s x c.to f.from f.to)) a.from
    (subst (λ (x : ℕ). ¬ (PairsClash s a.cable.from x f.from f.to)) a.to
    (subst (λ (x : ℕ). ¬ (PairsClash s a.cable.from a.cable.to x f.to)) z.from
    (subst (λ (x : ℕ). ¬ (PairsClash s a.cable.from a.cable.to z.cable.from x)) z.to clear)))

-- the starts and ends of all cables are of the site, where they are in the other list
pub ends_in_range-same : (s : Site) (xs ys : List Cable) → StartsDiffer ys → SameEnds xs ys → ((i : ℕ) → KeepsRange s xs i) → (i : ℕ) (c : Cable) → IsCable ys i c
    → (c.from < length s.points) × (c.to < length s.points)
ends_in_range-same s xs ys b e k i c h =
    let a = HasArc-same xs ys b e i c h in
    let u = (k a.place).from a.cable a.is_cable in
    let v = (k a.place).to a.cable a.is_cable in
    let f = a.from in
    let t = a.to in
    (omega (arith, u, f), omega (arith, v, t))

-- each cable of one list is in the other
pub cable-same : (xs ys : List Cable) → StartsDiffer ys → SameOuts xs ys → (i : ℕ) (c : Cable) → IsCable ys i c → (j : ℕ) × (IsCable xs j c)
cable-same xs ys b e i c h = cable_out-place xs c.from c (e c.from ∙ cable_out-of ys b i c h)

-- all rules carry over to another order
pub Keeps-ordered : (s : Site) (xs ys : List Cable) → StartsDiffer xs → StartsDiffer ys → SameOuts xs ys → (rule : Rule)
    → ((i j : ℕ) → Keeps s xs rule i j) → (i j : ℕ) → Keeps s ys rule i j
Keeps-ordered s xs ys d b e Range k i j =
    record {
      from = λ c h. let r = cable-same xs ys b e i c h in (k r.0 0).from c r.1;
      to = λ c h. let r = cable-same xs ys b e i c h in (k r.0 0).to c r.1;
      grade = λ c h. let r = cable-same xs ys b e i c h in (k r.0 0).grade c r.1;
    }
Keeps-ordered s xs ys d b e Candidate k i j = Keeps-same s xs ys d b (SameEnds-from_outs xs ys e) Candidate (λ x. absurd (cc)) (λ x. absurd (cc)) k i j
Keeps-ordered s xs ys d b e Start k i j = b i
Keeps-ordered s xs ys d b e Unjoined k i j = Keeps-same s xs ys d b (SameEnds-from_outs xs ys e) Unjoined (λ x. absurd (cc)) (λ x. absurd (cc)) k i j
Keeps-ordered s xs ys d b e Bend k i j = Keeps-same s xs ys d b (SameEnds-from_outs xs ys e) Bend (λ x. absurd (cc)) (λ x. absurd (cc)) k i j
Keeps-ordered s xs ys d b e Lost k i j = Keeps-same s xs ys d b (SameEnds-from_outs xs ys e) Lost (λ x. absurd (cc)) (λ x. absurd (cc)) k i j
Keeps-ordered s xs ys d b e Overload k p j = λ i c h u.
    let r = cable-same xs ys b e i c h in
    let l = k p 0 r.0 c r.1 u in
    omega (arith, l, load-same s xs ys (SameEnds-from_outs xs ys e) p)
Keeps-ordered s xs ys d b e Feeders k i j = Keeps-same s xs ys d b (SameEnds-from_outs xs ys e) Feeders (λ x. absurd (cc)) (λ x. absurd (cc)) k i j
Keeps-ordered s xs ys d b e Power k i j = Keeps-same s xs ys d b (SameEnds-from_outs xs ys e) Power (λ x. absurd (cc)) (λ x. absurd (cc)) k i j
Keeps-ordered s xs ys d b e Branch k i j = Keeps-same s xs ys d b (SameEnds-from_outs xs ys e) Branch (λ x. absurd (cc)) (λ x. absurd (cc)) k i j
Keeps-ordered s xs ys d b e Clash k i j = Keeps-same s xs ys d b (SameEnds-from_outs xs ys e) Clash (λ x. absurd (cc)) (λ x. absurd (cc)) k i j

-- a legal layout in another order
pub IsLegal-ordered : (s : Site) (xs ys : List Cable) → StartsDiffer ys → SameOuts xs ys → IsLegal s xs → IsLegal s ys
IsLegal-ordered s xs ys b e g =
    let d : StartsDiffer xs = g.start in
    record {
      range = λ i. Keeps-ordered s xs ys d b e Range (λ i j. g.range i) i 0;
      candidate = λ i. Keeps-ordered s xs ys d b e Candidate (λ i j. g.candidate i) i 0;
      start = b;
      joined = λ i. Keeps-ordered s xs ys d b e Unjoined (λ i j. g.joined i) i 0;
      bend = λ i. Keeps-ordered s xs ys d b e Bend (λ i j. g.bend i) i 0;
      ends = λ i. Keeps-ordered s xs ys d b e Lost (λ i j. g.ends i) i 0;
      capacity = λ i. Keeps-ordered s xs ys d b e Overload (λ i j. g.capacity i) i 0;
      feeders = λ i. Keeps-ordered s xs ys d b e Feeders (λ i j. g.feeders i) i 0;
      power = λ i. Keeps-ordered s xs ys d b e Power (λ i j. g.power i) i 0;
      string = λ i. Keeps-ordered s xs ys d b e Branch (λ i j. g.string i) i 0;
      clear = λ i j. Keeps-ordered s xs ys d b e Clash g.clear i j;
    }

-- the same cost
pub cost-ordered : (s : Site) (xs ys : List Cable) → StartsDiffer xs → StartsDiffer ys → SameOuts xs ys → cost s xs ≡ cost s ys
cost-ordered s xs ys d b e =
    let f = λ (c : Cable). cost_of s c.from c.to c.grade (load s xs c.from) in
    let g = λ (c : Cable). cost_of s c.from c.to c.grade (load s ys c.from) in
    let h : (c : Cable) → f c ≡ g c = λ c. ap (cost_of s c.from c.to c.grade) (load-same s xs ys (SameEnds-from_outs xs ys e) c.from) in
    sum_by-same f g xs h ∙ sum_by-same_keys (λ (c : Cable). c.from) g g xs ys d b (λ p. ap (value_at g) (e p))

-- a grown part in another order
pub IsGrown-ordered : (s : Site) (xs ys : List Cable) → StartsDiffer ys → SameOuts xs ys → IsGrown s xs → IsGrown s ys
IsGrown-ordered s xs ys b e g rule i j n =
    Keeps-ordered s xs ys (λ i. g Start i 0 (λ x. absurd (cc))) b e rule (λ i j. g rule i j n) i j

-- a legal layout with other types, where they are of the site and bear the loads
pub IsLegal-typed : (s : Site) (xs ys : List Cable) → StartsDiffer ys → SameEnds xs ys → IsLegal s xs
    → ((i : ℕ) → KeepsRange s ys i) → ((p : ℕ) → KeepsCapacity s ys p) → IsLegal s ys
IsLegal-typed s xs ys b e g r c =
    let d : StartsDiffer xs = g.start in
    record {
      range = r;
      candidate = λ i. Keeps-same s xs ys d b e Candidate (λ x. absurd (cc)) (λ x. absurd (cc)) (λ i j. g.candidate i) i 0;
      start = b;
      joined = λ i. Keeps-same s xs ys d b e Unjoined (λ x. absurd (cc)) (λ x. absurd (cc)) (λ i j. g.joined i) i 0;
      bend = λ i. Keeps-same s xs ys d b e Bend (λ x. absurd (cc)) (λ x. absurd (cc)) (λ i j. g.bend i) i 0;
      ends = λ i. Keeps-same s xs ys d b e Lost (λ x. absurd (cc)) (λ x. absurd (cc)) (λ i j. g.ends i) i 0;
      capacity = c;
      feeders = λ i. Keeps-same s xs ys d b e Feeders (λ x. absurd (cc)) (λ x. absurd (cc)) (λ i j. g.feeders i) i 0;
      power = λ i. Keeps-same s xs ys d b e Power (λ x. absurd (cc)) (λ x. absurd (cc)) (λ i j. g.power i) i 0;
      string = λ i. Keeps-same s xs ys d b e Branch (λ x. absurd (cc)) (λ x. absurd (cc)) (λ i j. g.string i) i 0;
      clear = λ i j. Keeps-same s xs ys d b e Clash (λ x. absurd (cc)) (λ x. absurd (cc)) g.clear i j;
    }
