-- What the turbines of a set feed in leaves the set over its cables, and what all turbines feed in comes to the substations.
use Rattle.std.proofs.Common.{◌≡◌, ℕ, ◌<◌, ◌≤◌, ◌⊎◌, inl, inr, Bool, true, false, not, ◌&&◌, cond, eqb, List, length, sum_by, Option, Some, None, slice_get, IsTrue, refl, ap, sym, ◌∙◌, subst, arith, eq-eqb, eqb-true, get_or, All, AllPairs}
use Rattle.std.specs.Prelude.{◌==◌}
use Rattle.std.specs.List.{enumerate_from, range_with_len}
use Rattle.std.proofs.lemmas.Bool.Decides.{eqb_tells}
use Rattle.std.proofs.lemmas.Option.{slice_get_within, get_or_from_slice_get}
use Rattle.std.proofs.lemmas.List.Folds.{list_any_at}
use Rattle.std.proofs.lemmas.List.Sums.{get_or-le-sum_by, sum_by-le-sum_by}
use Rattle.cable_definitions.specs.declared.cable.Cable.{Cable}
use Rattle.cable_definitions.specs.declared.site.Kind.{Kind}
use Rattle.cable_definitions.specs.declared.site.Kind.TheVariants.{Turbine, Substation, Bend}
use Rattle.cable_definitions.specs.declared.site.Point.{Point}
use Rattle.cable_definitions.specs.Site.{Site}
use Rattle.cable_definitions.specs.Arcs.{kind_of, kind_from, is_turbine, is_substation, power_of_kind, power_of}
use Rattle.cable_definitions.specs.Walk.{cable_out, walk_end, most_steps, passes, load, load_into}
use Rattle.cable_definitions.specs.Layout.{KeepsCandidate, IsLegal}
use Rattle.cable_definitions.specs.Row.{is_member}
use Rattle.number_laws.proofs.NatSums.{sum_by-same, sum_by-same_on, sum_by-le_on, sum_by-exchange, sum_by-cond, sum_by-zeros, sum_by-one_of, count_by-place, count_by-some}
use Rattle.number_laws.proofs.Keys.{DifferentKeys, KeysBelow, sum_by-le-range}
use Rattle.number_laws.proofs.Places.{slice_get-enumerate_from, sum_by-numbers}
use Rattle.layout_laws.proofs.Walking.{none-from_Starts, walk_end-ended, end-from_comes_to, comes_to-from_end}
use Rattle.layout_laws.proofs.Ending.{Starts-substation, WalksEnd-legal, leaves-by, load_into-substation}

-- a load as a sum over the numbers of all points
pub load-by_points : (s : Site) (cables : List Cable) (p : ℕ) → load s cables p ≡ sum_by (λ t. cond (passes cables p t) (power_of s t) 0) (range_with_len 0 (length s.points))
load-by_points s cables p =
    sum_by-same_on
    (λ (x : ℕ × Point). cond (passes cables p x.0) (power_of_kind x.1.kind) 0)
    (λ (x : ℕ × Point). cond (passes cables p x.0) (power_of s x.0) 0)
    (enumerate_from 0 s.points)
    (λ i x e.
    let r = slice_get-enumerate_from 0 s.points i x e in
    let number : x.0 ≡ i = omega (arith, r.0) in
    ap (λ (n : ℕ). cond (passes cables p x.0) n 0) (ap (λ (o : Option Point). power_of_kind (kind_from o)) (sym r.1 ∙ ap (slice_get s.points) (sym number))))
    ∙ sum_by-numbers (λ t. cond (passes cables p t) (power_of s t) 0) 0 s.points

-- whether a cable leaves a set
abbrev pub leaves : List ℕ → Cable → Bool
leaves members c = is_member members c.from && not (is_member members c.to)

-- a point with some power is a turbine
pub power_of-turbine : (s : Site) (p : ℕ) → (power_of s p ≡ 0) ⊎ IsTrue (is_turbine (kind_of s p))
power_of-turbine s p = by_kind (kind_of s p)
  where
    by_kind : (kind : Kind) → (power_of_kind kind ≡ 0) ⊎ IsTrue (is_turbine kind)
    by_kind (Turbine power) = inr refl
    by_kind (Substation feeders power) = inl refl
    by_kind Bend = inl refl

-- what one member feeds in goes over some cable that leaves the set
member_over : (s : Site) (cables : List Cable) (members : List ℕ) → IsLegal s cables
    → ((i m : ℕ) → slice_get members i ≡ Some m → ¬ IsTrue (is_substation (kind_of s m)))
    → (i m : ℕ) → slice_get members i ≡ Some m
    → power_of s m ≤ sum_by (λ c. cond (leaves members c) (cond (passes cables c.from m) (power_of s m) 0) 0) cables
member_over s cables members g none i m e = elim (power_of-turbine s m) [
  | inl z ↦ omega (arith, z)
  | inr t ↦
      let inside : is_member members m ≡ true = list_any_at (λ (k : ℕ). k == m) members i m (slice_get_within members i m e)
      (eq-eqb (get_or members i m) m (get_or_from_slice_get members i m m e)) in
      let substation : IsTrue (is_substation (kind_of s (walk_end most_steps cables m))) = g.ends m (g.joined m t) in
      let outside : ¬ (IsTrue (is_member members (walk_end most_steps cables m))) = λ h.
      let r = count_by-place (λ (k : ℕ). k == walk_end most_steps cables m) members (count_by-some (λ (k : ℕ). k == walk_end most_steps cables m) members h) in
      none r.0 r.1 r.2 (subst (λ (q : ℕ). IsTrue (is_substation (kind_of s q))) (sym (eqb-true r.1 (walk_end most_steps cables m) r.3)) substation) in
      let r = leaves-by cables (is_member members) m inside outside in
      let c = r.0 in
      let left : leaves members c ≡ true = both (is_member members c.from) (is_member members c.to) r.1.from r.1.to in
      let passed : passes cables c.from m ≡ true = r.1.passed in
      let over = λ (d : Cable). cond (leaves members d) (cond (passes cables d.from m) (power_of s m) 0) 0 in
      let all : over c ≡ power_of s m = ap (λ b. cond b (cond (passes cables c.from m) (power_of s m) 0) 0) left ∙ ap (λ b. cond b (power_of s m) 0) passed in
      let place = ap over (get_or_from_slice_get cables r.1.place c c r.1.is_cable) in
      let l = get_or-le-sum_by over cables r.1.place c (slice_get_within cables r.1.place c r.1.is_cable) in
      omega (arith, all, place, l)
]
  where
    both : (a b : Bool) → IsTrue a → ¬ (IsTrue b) → (a && not b) ≡ true
    both true true h n = absurd (n refl)
    both true false h n = refl
    both false b h n = absurd (cc)

-- what the turbines of a set without substations feed in is at most what the cables bear that leave the set
pub power-le-loads_out : (s : Site) (cables : List Cable) (members : List ℕ) → IsLegal s cables → DifferentKeys (λ (m : ℕ). m) members → KeysBelow (λ (m : ℕ). m) (length s.points) members
    → ((i m : ℕ) → slice_get members i ≡ Some m → ¬ IsTrue (is_substation (kind_of s m)))
    → sum_by (power_of s) members ≤ sum_by (λ c. cond (leaves members c) (load s cables c.from) 0) cables
power-le-loads_out s cables members g d b none =
    let over = λ (m : ℕ) (c : Cable). cond (leaves members c) (cond (passes cables c.from m) (power_of s m) 0) 0 in
    let each = sum_by-le_on (power_of s) (λ m. sum_by (over m) cables) members (member_over s cables members g none) in
    let swapped = sum_by-exchange over members cables in
    let within = sum_by-le-sum_by (λ c. sum_by (λ m. over m c) members) (λ c. cond (leaves members c) (load s cables c.from) 0) cables (λ c.
    let all = sum_by-le-range (λ m. cond (passes cables c.from m) (power_of s m) 0) (length s.points) members d b in
    omega (
      arith,
      sum_by-cond (leaves members c) (λ m. cond (passes cables c.from m) (power_of s m) 0) members,
      cond_le (leaves members c) (let l = load-by_points s cables c.from in let h : sum_by (λ m. cond (passes cables c.from m) (power_of s m) 0) members ≤ load s cables c.from = omega (arith, all, l) in h),
    )) in
    omega (arith, each, swapped, within)
  where
    cond_le : (b : Bool) {m n : ℕ} → m ≤ n → cond b m 0 ≤ cond b n 0
    cond_le true h = h
    cond_le false h = omega arith

-- where a walk passes a substation, it ends there
pub passes-substation : (s : Site) (cables : List Cable) → ((i : ℕ) → KeepsCandidate s cables i) → (p t : ℕ) → IsTrue (is_substation (kind_of s p)) → passes cables p t ≡ true
    → walk_end most_steps cables t ≡ p
passes-substation s cables k p t h e =
    let r = end-from_comes_to cables p most_steps t e in
    let none = none-from_Starts cables p (Starts-substation s cables k p h) in
    walk_end-ended cables t r.0 most_steps r.1 (ap (cable_out cables) r.2 ∙ none) ∙ r.2

-- a substation is a point of the site
pub point_within : (s : Site) (p : ℕ) → IsTrue (is_substation (kind_of s p)) → p < length s.points
point_within s p h = by_point (slice_get s.points p) refl h
  where
    by_point : (o : Option Point) → slice_get s.points p ≡ o → IsTrue (is_substation (kind_from o)) → p < length s.points
    by_point None e h = absurd (cc)
    by_point (Some point) e h = slice_get_within s.points p point e

-- what one point feeds in comes to one substation
comes_to_one : (s : Site) (cables : List Cable) → IsLegal s cables → (t : ℕ)
    → sum_by (λ q. cond (is_substation (kind_of s q)) (cond (passes cables q t) (power_of s t) 0) 0) (range_with_len 0 (length s.points)) ≡ power_of s t
comes_to_one s cables g t = elim (power_of-turbine s t) [
  | inl z ↦
      let points = range_with_len 0 (length s.points) in
      let nothing = sum_by-same (brought t) (λ q. 0) points (λ q. no_power (is_substation (kind_of s q)) (passes cables q t) z) in
      nothing ∙ sum_by-zeros points ∙ sym z
  | inr h ↦
      let end : ℕ = walk_end most_steps cables t in
      let substation : IsTrue (is_substation (kind_of s end)) = g.ends t (g.joined t h) in
      let same = sum_by-same (brought t) (λ q. cond (eqb end q) (power_of s t) 0) (range_with_len 0 (length s.points)) (λ q. elim (eqb_tells end q) [
        | inl e ↦
            let here : is_substation (kind_of s q) ≡ true = subst (λ (p : ℕ). IsTrue (is_substation (kind_of s p))) e.1 substation in
            let comes : passes cables q t ≡ true = comes_to-from_end cables q most_steps t most_steps (omega arith) e.1 in
            ap (λ b. cond b (cond (passes cables q t) (power_of s t) 0) 0) here ∙ ap (λ b. cond b (power_of s t) 0) comes
            ∙ sym (ap (λ b. cond b (power_of s t) 0) e.0)
        | inr e ↦ elsewhere (is_substation (kind_of s q)) (passes cables q t) (power_of s t) (λ a b. e.1 (passes-substation s cables g.candidate q t a b))
            ∙ sym (ap (λ b. cond b (power_of s t) 0) e.0)
      ]) in
      same ∙ sum_by-one_of end (power_of s t) 0 (length s.points) (omega arith) (let l = point_within s end substation in omega (arith, l))
]
  where
    brought : ℕ → ℕ → ℕ
    brought u q = cond (is_substation (kind_of s q)) (cond (passes cables q u) (power_of s u) 0) 0

    no_power : (a b : Bool) {n : ℕ} → n ≡ 0 → cond a (cond b n 0) 0 ≡ 0
    no_power true true e = e
    no_power true false e = refl
    no_power false b e = refl

    elsewhere : (a b : Bool) (n : ℕ) → (a ≡ true → b ≡ true → ⊥) → cond a (cond b n 0) 0 ≡ 0
    elsewhere true true n f = absurd (f refl refl)
    elsewhere true false n f = refl
    elsewhere false b n f = refl

-- all that the turbines feed in comes to the substations
pub loads-of_substations : (s : Site) (cables : List Cable) → IsLegal s cables
    → sum_by (λ q. cond (is_substation (kind_of s q)) (load s cables q) 0) (range_with_len 0 (length s.points)) ≡ sum_by (power_of s) (range_with_len 0 (length s.points))
loads-of_substations s cables g =
    let points = range_with_len 0 (length s.points) in
    let brought = λ (q t : ℕ). cond (is_substation (kind_of s q)) (cond (passes cables q t) (power_of s t) 0) 0 in
    sum_by-same (λ q. cond (is_substation (kind_of s q)) (load s cables q) 0) (λ q. sum_by (brought q) points) points (λ q.
    ap (λ (n : ℕ). cond (is_substation (kind_of s q)) n 0) (load-by_points s cables q) ∙ sym (sum_by-cond (is_substation (kind_of s q)) (λ t. cond (passes cables q t) (power_of s t) 0) points))
    ∙ sum_by-exchange brought points points
    ∙ sum_by-same (λ t. sum_by (λ q. brought q t) points) (power_of s) points (comes_to_one s cables g)

-- the same, over the numbered points, and by the cables that end there
pub loads_into-substations : (s : Site) (cables : List Cable) → IsLegal s cables
    → sum_by (λ (q : ℕ × Point). cond (is_substation (kind_of s q.0)) (load_into s cables q.0) 0) (enumerate_from 0 s.points) ≡ sum_by (λ (q : ℕ × Point). power_of s q.0) (enumerate_from 0 s.points)
loads_into-substations s cables g =
    let points = range_with_len 0 (length s.points) in
    sum_by-numbers (λ q. cond (is_substation (kind_of s q)) (load_into s cables q) 0) 0 s.points
    ∙ sum_by-same (λ q. cond (is_substation (kind_of s q)) (load_into s cables q) 0) (λ q. cond (is_substation (kind_of s q)) (load s cables q) 0) points
    (λ q. same_load q (is_substation (kind_of s q)) refl)
    ∙ loads-of_substations s cables g
    ∙ sym (sum_by-numbers (power_of s) 0 s.points)
  where
    same_load : (q : ℕ) (b : Bool) → is_substation (kind_of s q) ≡ b → cond b (load_into s cables q) 0 ≡ cond b (load s cables q) 0
    same_load q true e = load_into-substation s cables g.start (WalksEnd-legal s cables g) q e
    same_load q false e = refl

-- the same as the law on sets, for members in ascending order
pub power-le-loads_out_of : (s : Site) (cables : List Cable) (members : List ℕ) → IsLegal s cables → AllPairs (λ m n. m < n) members → All (λ m. m < length s.points) members
    → All (λ m. ¬ IsTrue (is_substation (kind_of s m))) members
    → sum_by (power_of s) members ≤ sum_by (λ c. cond (leaves members c) (load s cables c.from) 0) cables
power-le-loads_out_of s cables members g ascending within none =
    power-le-loads_out s cables members g
    (λ i j x y e f h same.
    let order = ascending j i y h (slice_get_within members i x e) in
    let a = get_or_from_slice_get members i x y e in
    let b = get_or_from_slice_get members j y y f in
    omega (arith, order, a, b))
    (λ i m e. let l = within i m (slice_get_within members i m e) in let a = get_or_from_slice_get members i m m e in omega (arith, l, a))
    (λ i m e. subst (λ (q : ℕ). ¬ IsTrue (is_substation (kind_of s q))) (get_or_from_slice_get members i m m e) (none i m (slice_get_within members i m e)))
