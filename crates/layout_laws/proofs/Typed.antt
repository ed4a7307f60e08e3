-- What the cheapest types make of a list of cables, beside all other choices of types.
use Rattle.std.proofs.Common.{◌≡◌, ◌≢◌, ℕ, suc, ◌<◌, ◌≤◌, inl, inr, List, [], ◌∷◌, map, length, IsTrue, refl, ap, sym, ◌∙◌, subst}
use Rattle.cable_definitions.specs.declared.cable.Cable.{Cable}
use Rattle.cable_definitions.specs.declared.cable.Rule.{Rule}
use Rattle.cable_definitions.specs.declared.cable.Rule.TheVariants.{Range, Candidate, Start, Unjoined, Bend, Lost, Overload, Feeders, Power, Branch, Clash}
use Rattle.cable_definitions.specs.Site.{Site}
use Rattle.cable_definitions.specs.Arcs.{IsCandidate, kind_of, is_turbine, cost_of, capacity_of, largest_capacity, Bears, IsCheapest}
use Rattle.cable_definitions.specs.Walk.{load}
use Rattle.cable_definitions.specs.Layout.{IsCable, Starts, Keeps, KeepsRange, KeepsJoined, KeepsCapacity, IsLegal, cost}
use Rattle.cable_definitions.specs.Part.{IsGrown, IsTarget, IsBlocked, SameArcs, AreCheapTyped}
use Rattle.layout_laws.specs.Alike.{StartsDiffer, SameEnds}
use Rattle.layout_laws.specs.Typable.{IsTypable, extended_by}
use Rattle.layout_laws.proofs.Alike.{load-same, Keeps-same, Starts-same, ends_in_range-same}
use Rattle.layout_laws.proofs.Arcs.{SameEnds-from_arcs}
use Rattle.layout_laws.proofs.Legal.{kept_where_legal}
use Rattle.layout_laws.specs.Cheapest.{IsCheapestOrZero}
use Rattle.layout_laws.proofs.Typing.{cheapest_of, cheapest-le, IsCheapest-same, borne-le_largest, some_bears, all-at, matched, SameArcs-turned, SameArcs-further, StartsDiffer-arcs, sum_by-le_matched, some_cheap_typed}

-- a legal layout is a grown part
pub IsGrown-legal : (s : Site) (cables : List Cable) → IsLegal s cables → IsGrown s cables
IsGrown-legal s cables g rule i j n = kept_where_legal s cables g rule i j

-- a grown part that joins all turbines is legal
pub IsLegal-grown : (s : Site) (cables : List Cable) → IsGrown s cables → ((p : ℕ) → KeepsJoined s cables p) → IsLegal s cables
IsLegal-grown s cables g joined = record {
  range = λ i. g Range i 0 (λ x. absurd (cc));
  candidate = λ i. g Candidate i 0 (λ x. absurd (cc));
  start = λ i. g Start i 0 (λ x. absurd (cc));
  joined = joined;
  bend = λ p. g Bend p 0 (λ x. absurd (cc));
  ends = λ p. g Lost p 0 (λ x. absurd (cc));
  capacity = λ p. g Overload p 0 (λ x. absurd (cc));
  feeders = λ p. g Feeders p 0 (λ x. absurd (cc));
  power = λ p. g Power p 0 (λ x. absurd (cc));
  string = λ p. g Branch p 0 (λ x. absurd (cc));
  clear = λ a b. g Clash a b (λ x. absurd (cc));
}

-- each type bears the load of its cable
pub bears-own : (s : Site) (typed : List Cable) → ((i : ℕ) → KeepsRange s typed i) → ((p : ℕ) → KeepsCapacity s typed p)
    → (i : ℕ) (c : Cable) → IsCable typed i c → Bears s c.grade (load s typed c.from)
bears-own s typed range capacity i c h = record { listed = (range i).grade c h; enough = capacity c.from i c h refl }

-- the other way round, for the second rule
pub KeepsCapacity-borne : (s : Site) (typed : List Cable) → ((i : ℕ) (c : Cable) → IsCable typed i c → Bears s c.grade (load s typed c.from)) → (p : ℕ) → KeepsCapacity s typed p
KeepsCapacity-borne s typed bears p i c h e =
    let same : load s typed c.from ≡ load s typed p = ap (load s typed) e in
    let l : load s typed c.from ≤ capacity_of s c.grade = (bears i c h).enough in
    subst (λ (n : ℕ). n ≤ capacity_of s c.grade) same l

-- where other types bear the loads, the cheapest do
pub cheap-at : (s : Site) (cables cheap typed : List Cable) → AreCheapTyped s cables cheap → SameArcs typed cables
    → ((i : ℕ) (c : Cable) → IsCable typed i c → Bears s c.grade (load s typed c.from))
    → (i : ℕ) (c : Cable) → IsCable cheap i c → IsCheapest s c.from c.to (load s cheap c.from) c.grade
cheap-at s cables cheap typed a arcs bears i c h =
    let same = SameArcs-further cheap cables typed a.arcs (SameArcs-turned typed cables arcs) in
    let m = matched cheap typed same i c h in
    let loads : load s typed m.cable.from ≡ load s cheap c.from =
    ap (load s typed) (sym m.from) ∙ load-same s typed cheap (λ p. sym (SameEnds-from_arcs cheap typed same p)) c.from in
    cheapest_of s c.from c.to (load s cheap c.from) c.grade m.cable.grade
    (all-at (λ (d : Cable). IsCheapestOrZero s d.from d.to (load s cheap d.from) d.grade) cheap i c a.types h)
    (subst (λ (n : ℕ). Bears s m.cable.grade n) loads (bears i m.cable m.is_cable))

-- some choice of types makes the list grown: all other rules hold, and no load is more than the largest capacity
pub IsTypable-grown : (s : Site) (cables typed : List Cable) → SameArcs typed cables → IsGrown s typed → IsTypable s cables
IsTypable-grown s cables typed arcs g =
    let turned = SameArcs-turned typed cables arcs in
    let d : StartsDiffer typed = λ i. g Start i 0 (λ x. absurd (cc)) in
    let b : StartsDiffer cables = StartsDiffer-arcs cables typed turned d in
    let e : SameEnds typed cables = SameEnds-from_arcs typed cables arcs in
    let range : (i : ℕ) → KeepsRange s typed i = λ i. g Range i 0 (λ x. absurd (cc)) in
    let capacity : (p : ℕ) → KeepsCapacity s typed p = λ p. g Overload p 0 (λ x. absurd (cc)) in
    record {
      from = λ i c h. (ends_in_range-same s typed cables b e range i c h).0;
      to = λ i c h. (ends_in_range-same s typed cables b e range i c h).1;
      rules = λ rule i j n m o. Keeps-same s typed cables d b e rule n o (λ k l. g rule k l m) i j;
      loads = λ i c h.
          let m = matched cables typed turned i c h in
          let loads : load s typed m.cable.from ≡ load s cables c.from = ap (load s typed) (sym m.from) ∙ load-same s typed cables e c.from in
          subst (λ (n : ℕ). n ≤ largest_capacity s) loads (borne-le_largest s m.cable.grade (load s typed m.cable.from) (bears-own s typed range capacity i m.cable m.is_cable));
    }

-- types that bear the loads make such a list grown
pub IsGrown-borne : (s : Site) (cables typed : List Cable) → IsTypable s cables → SameArcs typed cables
    → ((i : ℕ) (c : Cable) → IsCable typed i c → Bears s c.grade (load s typed c.from)) → IsGrown s typed
IsGrown-borne s cables typed k arcs bears = rules
  where
    d : StartsDiffer cables
    d i = k.rules Start i 0 (λ x. absurd (cc)) (λ x. absurd (cc)) (λ x. absurd (cc))

    b : StartsDiffer typed
    b = StartsDiffer-arcs typed cables arcs d

    e : SameEnds cables typed
    e p = sym (SameEnds-from_arcs typed cables arcs p)

    other : (rule : Rule) → rule ≢ Range → rule ≢ Unjoined → rule ≢ Overload → (i j : ℕ) → Keeps s typed rule i j
    other rule n m o i j = Keeps-same s cables typed d b e rule n o (λ x y. k.rules rule x y n m o) i j

    rules : IsGrown s typed
    rules Range i j n = record {
      from = λ c h. let m = matched typed cables arcs i c h in subst (λ (p : ℕ). p < length s.points) (sym m.from) (k.from i m.cable m.is_cable);
      to = λ c h. let m = matched typed cables arcs i c h in subst (λ (p : ℕ). p < length s.points) (sym m.to) (k.to i m.cable m.is_cable);
      grade = λ c h. (bears i c h).listed;
    }
    rules Candidate i j n = other Candidate (λ x. absurd (cc)) n (λ x. absurd (cc)) i j
    rules Start i j n = other Start (λ x. absurd (cc)) n (λ x. absurd (cc)) i j
    rules Unjoined i j n = absurd (n refl)
    rules Bend i j n = other Bend (λ x. absurd (cc)) n (λ x. absurd (cc)) i j
    rules Lost i j n = other Lost (λ x. absurd (cc)) n (λ x. absurd (cc)) i j
    rules Overload i j n = KeepsCapacity-borne s typed bears i
    rules Feeders i j n = other Feeders (λ x. absurd (cc)) n (λ x. absurd (cc)) i j
    rules Power i j n = other Power (λ x. absurd (cc)) n (λ x. absurd (cc)) i j
    rules Branch i j n = other Branch (λ x. absurd (cc)) n (λ x. absurd (cc)) i j
    rules Clash i j n = other Clash (λ x. absurd (cc)) n (λ x. absurd (cc)) i j

-- the cheapest types make such a list grown
pub IsGrown-typable : (s : Site) (cables cheap : List Cable) → 1 ≤ length s.types → IsTypable s cables → AreCheapTyped s cables cheap → IsGrown s cheap
IsGrown-typable s cables cheap some k a =
    IsGrown-borne s cables cheap k a.arcs (λ i c h.
    let m = matched cheap cables a.arcs i c h in
    let loads : load s cables m.cable.from ≡ load s cheap c.from =
    ap (load s cables) (sym m.from) ∙ load-same s cables cheap (λ p. sym (SameEnds-from_arcs cheap cables a.arcs p)) c.from in
    let bears = some_bears s (load s cables m.cable.from) some (k.loads i m.cable m.is_cable) in
    (cheapest_of s c.from c.to (load s cheap c.from) c.grade bears.0
    (all-at (λ (d : Cable). IsCheapestOrZero s d.from d.to (load s cheap d.from) d.grade) cheap i c a.types h)
    (subst (λ (n : ℕ). Bears s bears.0 n) loads bears.1)).bears)

-- the cheapest types make a list grown where some types do
pub IsGrown-cheap : (s : Site) (cables cheap typed : List Cable) → AreCheapTyped s cables cheap → SameArcs typed cables → IsGrown s typed → IsGrown s cheap
IsGrown-cheap s cables cheap typed a arcs g =
    IsGrown-borne s cables cheap (IsTypable-grown s cables typed arcs g) a.arcs (λ i c h.
    (cheap-at s cables cheap typed a arcs (bears-own s typed (λ k. g Range k 0 (λ x. absurd (cc))) (λ p. g Overload p 0 (λ x. absurd (cc)))) i c h).bears)

-- turbines stay joined
KeepsJoined-arcs : (s : Site) (xs ys : List Cable) → SameArcs xs ys → ((p : ℕ) → KeepsJoined s xs p) → (p : ℕ) → KeepsJoined s ys p
KeepsJoined-arcs s xs ys arcs joined p h = Starts-same xs ys (SameEnds-from_arcs xs ys arcs) p (joined p h)

-- the cheapest types make a list legal where some types do
pub IsLegal-cheap : (s : Site) (cables cheap typed : List Cable) → AreCheapTyped s cables cheap → SameArcs typed cables → IsLegal s typed → IsLegal s cheap
IsLegal-cheap s cables cheap typed a arcs g =
    IsLegal-grown s cheap (IsGrown-cheap s cables cheap typed a arcs (IsGrown-legal s typed g))
    (KeepsJoined-arcs s typed cheap (SameArcs-further typed cables cheap arcs (SameArcs-turned cheap cables a.arcs)) g.joined)

-- a list that some types make legal
pub IsTypable-legal : (s : Site) (cables typed : List Cable) → SameArcs typed cables → IsLegal s typed → IsTypable s cables × ((p : ℕ) → KeepsJoined s cables p)
IsTypable-legal s cables typed arcs g = (IsTypable-grown s cables typed arcs (IsGrown-legal s typed g), KeepsJoined-arcs s typed cables arcs g.joined)

-- the cheapest types make such a list legal
pub IsLegal-typable : (s : Site) (cables cheap : List Cable) → 1 ≤ length s.types → IsTypable s cables → ((p : ℕ) → KeepsJoined s cables p)
    → AreCheapTyped s cables cheap → IsLegal s cheap
IsLegal-typable s cables cheap some k joined a =
    IsLegal-grown s cheap (IsGrown-typable s cables cheap some k a) (KeepsJoined-arcs s cables cheap (SameArcs-turned cheap cables a.arcs) joined)

-- no types that bear the loads cost less than the cheapest
pub cost-cheap : (s : Site) (cables cheap typed : List Cable) → AreCheapTyped s cables cheap → SameArcs typed cables
    → ((i : ℕ) → KeepsRange s typed i) → ((p : ℕ) → KeepsCapacity s typed p) → cost s cheap ≤ cost s typed
cost-cheap s cables cheap typed a arcs range capacity =
    let same = SameArcs-further cheap cables typed a.arcs (SameArcs-turned typed cables arcs) in
    let bears = bears-own s typed range capacity in
    sum_by-le_matched
    (λ c. cost_of s c.from c.to c.grade (load s cheap c.from))
    (λ d. cost_of s d.from d.to d.grade (load s typed d.from))
    cheap typed same
    (λ i c d h k u v.
    let w : load s cheap c.from ≡ load s typed d.from = load-same s cheap typed (SameEnds-from_arcs cheap typed same) c.from ∙ ap (load s typed) u in
    let cheapest = cheap-at s cables cheap typed a arcs bears i c h in
    let l = cheapest-le s c.from c.to (load s cheap c.from) c.grade d.grade cheapest (subst (λ (n : ℕ). Bears s d.grade n) (sym w) (bears i d k)) in
    let e : cost_of s c.from c.to d.grade (load s cheap c.from) ≡ cost_of s d.from d.to d.grade (load s typed d.from) = λ j. cost_of s (u j) (v j) d.grade (w j) in
    subst (λ (n : ℕ). cost_of s c.from c.to c.grade (load s cheap c.from) ≤ n) e l)

-- no legal layout with the same arcs costs less
pub cost-legal : (s : Site) (cables cheap typed : List Cable) → AreCheapTyped s cables cheap → SameArcs typed cables → IsLegal s typed → cost s cheap ≤ cost s typed
cost-legal s cables cheap typed a arcs g = cost-cheap s cables cheap typed a arcs g.range g.capacity

-- lists with the same arcs and the same types are one
pub same-list : (xs ys : List Cable) → SameArcs xs ys → ((i : ℕ) (c d : Cable) → IsCable xs i c → IsCable ys i d → c.from ≡ d.from → c.to ≡ d.to → c.grade ≡ d.grade) → xs ≡ ys
same-list xs ys a h = by_lists xs ys a.starts a.ends h
  where
    by_lists : (xs ys : List Cable) → map (λ (c : Cable). c.from) xs ≡ map (λ (c : Cable). c.from) ys → map (λ (c : Cable). c.to) xs ≡ map (λ (c : Cable). c.to) ys
        → ((i : ℕ) (c d : Cable) → IsCable xs i c → IsCable ys i d → c.from ≡ d.from → c.to ≡ d.to → c.grade ≡ d.grade) → xs ≡ ys
    by_lists [] [] e r h = refl
    by_lists [] (d ∷ ys) e r h = absurd (cc)
    by_lists (c ∷ xs) [] e r h = absurd (cc)
    by_lists (c ∷ xs) (d ∷ ys) e r h =
        let start : c.from ≡ d.from = cc in
        let finish : c.to ≡ d.to = cc in
        let type : c.grade ≡ d.grade = h 0 c d refl refl start finish in
        let rest : xs ≡ ys = by_lists xs ys (cc) (cc) (λ i. h (suc i)) in
        λ i. record { from = start i; to = finish i; grade = type i } ∷ rest i

-- a list has one choice of cheapest types
pub cheap_typed-same : (s : Site) (cables xs ys : List Cable) → AreCheapTyped s cables xs → AreCheapTyped s cables ys → xs ≡ ys
cheap_typed-same s cables xs ys a b =
    let same = SameArcs-further xs cables ys a.arcs (SameArcs-turned ys cables b.arcs) in
    same-list xs ys same (λ i c d h k u v.
    let w : load s xs c.from ≡ load s ys d.from = load-same s xs ys (SameEnds-from_arcs xs ys same) c.from ∙ ap (load s ys) u in
    let x = all-at (λ (e : Cable). IsCheapestOrZero s e.from e.to (load s xs e.from) e.grade) xs i c a.types h in
    let y = all-at (λ (e : Cable). IsCheapestOrZero s e.from e.to (load s ys e.from) e.grade) ys i d b.types k in
    one c.from c.to (load s xs c.from) c.grade d.grade x (subst (λ (n : ℕ). IsCheapestOrZero s c.from c.to n d.grade) (sym w)
    (subst (λ (p : ℕ). IsCheapestOrZero s p c.to (load s ys d.from) d.grade) (sym u)
    (subst (λ (q : ℕ). IsCheapestOrZero s d.from q (load s ys d.from) d.grade) (sym v) y))))
  where
    one : (from to load g h : ℕ) → IsCheapestOrZero s from to load g → IsCheapestOrZero s from to load h → g ≡ h
    one from to load g h (inl x) (inl y) = IsCheapest-same s from to load g h x y
    one from to load g h (inl x) (inr y) = absurd (y.0 g x.bears)
    one from to load g h (inr x) (inl y) = absurd (x.0 h y.bears)
    one from to load g h (inr x) (inr y) = x.1 ∙ sym y.1

-- a turbine is blocked where the cheapest types never make a grown part
pub IsBlocked-cheap : (s : Site) (part : List Cable) (turbine : ℕ) → IsGrown s part → IsTrue (is_turbine (kind_of s turbine)) → ¬ (Starts part turbine)
    → ((q : ℕ) (cheap : List Cable) → IsTarget s part q → IsCandidate s turbine q → AreCheapTyped s (extended_by part turbine q) cheap → ¬ (IsGrown s cheap))
    → IsBlocked s part turbine
IsBlocked-cheap s part turbine grown is not_joined h = record {
  grown = grown;
  turbine_is = is;
  not_joined = not_joined;
  no_arc = λ q typed t candidate arcs g.
      let r = some_cheap_typed s (extended_by part turbine q) in
      h q r.0 t candidate r.1 (IsGrown-cheap s (extended_by part turbine q) r.0 typed r.1 arcs g);
}

-- and the other way round
pub cheap-blocked : (s : Site) (part : List Cable) (turbine : ℕ) → IsBlocked s part turbine
    → (q : ℕ) (cheap : List Cable) → IsTarget s part q → IsCandidate s turbine q → AreCheapTyped s (extended_by part turbine q) cheap → ¬ (IsGrown s cheap)
cheap-blocked s part turbine b q cheap t candidate a g = b.no_arc q cheap t candidate a.arcs g
