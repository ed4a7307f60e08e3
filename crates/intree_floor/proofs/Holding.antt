-- The in-tree that a legal layout holds on a site without bends: its arcs, each with the cheapest type that bears its start's own power.
use Rattle.std.proofs.Common.{◌≡◌, ℕ, suc, zero, ◌≤◌, inl, inr, List, [], ◌∷◌, get_or, Option, Some, slice_get, false, IsTrue, IsSome, refl, ap, sym, ◌∙◌, subst, arith, eq-eqb, eqb-true}
use Rattle.std.specs.Prelude.{◌==◌}
use Rattle.std.proofs.lemmas.Option.{slice_get-get_or, same_Some}
use Rattle.cable_definitions.specs.declared.cable.Cable.{Cable}
use Rattle.cable_definitions.specs.declared.site.Kind.{Kind}
use Rattle.cable_definitions.specs.declared.site.Kind.TheVariants.{Turbine, Substation, Bend}
use Rattle.cable_definitions.specs.declared.site.Point.{Point}
use Rattle.cable_definitions.specs.Site.{Site}
use Rattle.cable_definitions.specs.Arcs.{IsCandidate, IsCheapest, Bears, kind_of, kind_from, is_turbine, is_substation, is_bend, power_of, cost_of}
use Rattle.cable_definitions.specs.Walk.{walk_end, most_steps, load, starts_in}
use Rattle.cable_definitions.specs.Layout.{IsCable, IsLegal, cost}
use Rattle.cable_definitions.specs.Part.{SameArcs}
use Rattle.cable_definitions.specs.InTree.{HasNoBends, IsInTree, in_tree_cost, IsFloor}
use Rattle.number_laws.proofs.NatSums.{count_by-at}
use Rattle.number_laws.proofs.Matches.{count_by-at_most_one}
use Rattle.layout_laws.specs.Alike.{StartsDiffer, SameEnds}
use Rattle.layout_laws.proofs.Alike.{cable_out-from, cable_out-place, cable_out-of, walk_end-same}
use Rattle.layout_laws.proofs.Arcs.{SameEnds-from_arcs}
use Rattle.layout_laws.proofs.Walking.{Starts-from_out, out_cases}
use Rattle.layout_laws.proofs.Flow.{power_of-le-own_load}
use Rattle.layout_laws.proofs.Monotone.{Bears-lower, cable-le_cheapest}
use Rattle.layout_laws.proofs.Typed.{bears-own}
use Rattle.layout_laws.proofs.Typing.{all-at, some_cheapest, matched, StartsDiffer-arcs, sum_by-le_matched}

-- the same arcs, each with the cheapest type that bears its start's own power
record AreOwnTyped (s : Site) (cables tree : List Cable) : Type 0 where
  arcs : SameArcs tree cables
  types : (i : ℕ) (c : Cable) → slice_get tree i ≡ Some c → IsCheapest s c.from c.to (power_of s c.from) c.grade

-- where some types bear these powers, the cheapest do
own-typed : (s : Site) (cables : List Cable) → ((i : ℕ) (c : Cable) → slice_get cables i ≡ Some c → (g : ℕ) × Bears s g (power_of s c.from)) → (tree : List Cable) × AreOwnTyped s cables tree
own-typed s [] h = ([], record { arcs = record { starts = refl; ends = refl }; types = λ i c e. absurd (cc) })
own-typed s (c ∷ cables) h =
    let g = cheapest (h 0 c refl) in
    let d : Cable = record { from = c.from; to = c.to; grade = g.0 } in
    let r = own-typed s cables (λ i. h (suc i)) in (
      d ∷ r.0,
      record {
        arcs = record { starts = ap (λ (ps : List ℕ). c.from ∷ ps) r.1.arcs.starts; ends = ap (λ (ps : List ℕ). c.to ∷ ps) r.1.arcs.ends };
        types = types d r.0 g.1 r.1.types;
      },
    )
  where
    cheapest : ((g : ℕ) × Bears s g (power_of s c.from)) → (g : ℕ) × IsCheapest s c.from c.to (power_of s c.from) g
    cheapest (g, b) = elim (some_cheapest s c.from c.to (power_of s c.from)) [
      | inl none ↦ absurd (none g b)
      | inr some ↦ some
    ]

    types : (d : Cable) (tree : List Cable) → IsCheapest s d.from d.to (power_of s d.from) d.grade
        → ((i : ℕ) (e : Cable) → slice_get tree i ≡ Some e → IsCheapest s e.from e.to (power_of s e.from) e.grade)
        → (i : ℕ) (e : Cable) → slice_get (d ∷ tree) i ≡ Some e → IsCheapest s e.from e.to (power_of s e.from) e.grade
    types d tree here there zero e f = subst (λ (x : Cable). IsCheapest s x.from x.to (power_of s x.from) x.grade) (same_Some d e f) here
    types d tree here there (suc i) e f = there i e f

-- on a site without bends a candidate arc starts in a turbine
pub candidate-turbine : (s : Site) (p q : ℕ) → HasNoBends s → IsCandidate s p q → IsTrue (is_turbine (kind_of s p))
candidate-turbine s p q none a =
    subst (λ (o : Option Point). IsTrue (is_turbine (kind_from o))) (sym a.from_is)
    (by_kind a.from.kind a.no_substation (all-at (λ (x : Point). ¬ (IsTrue (is_bend x.kind))) s.points p a.from none a.from_is))
  where
    by_kind : (kind : Kind) → ¬ (IsTrue (is_substation kind)) → ¬ (IsTrue (is_bend kind)) → IsTrue (is_turbine kind)
    by_kind (Turbine power) h n = refl
    by_kind (Substation feeders power) h n = absurd (h refl)
    by_kind Bend h n = absurd (n refl)

-- where starts differ and a cable starts in p, just one does
one-start : (cables : List Cable) → StartsDiffer cables → (i : ℕ) (c : Cable) → slice_get cables i ≡ Some c → starts_in cables c.from ≡ 1
one-start cables differ i c e =
    let low = count_by-at (λ (d : Cable). d.from == c.from) cables i c e (eq-eqb c.from c.from refl) in
    let high = count_by-at_most_one (λ (d : Cable). d.from == c.from) cables (λ j k x y f g l a b.
    differ k j y x g f l (eqb-true x.from c.from a ∙ sym (eqb-true y.from c.from b))) in
    omega (arith, low, high)

-- on a site without bends the arcs of a legal layout, so typed, are an in-tree that costs no more
own-in_tree : (s : Site) (cables tree : List Cable) → HasNoBends s → IsLegal s cables → AreOwnTyped s cables tree → IsInTree s tree × (in_tree_cost s tree ≤ cost s cables)
own-in_tree s cables tree none g own = (
  record {
    candidates = λ i d l. candidate i (get_or tree i d) (slice_get-get_or tree i d l);
    turbines = λ p t. elim (out_cases cables p) [
      | inl n ↦ absurd (let f : IsTrue false = subst (λ (o : Option Cable). IsSome o) n (g.joined p t) in cc)
      | inr w ↦
          let place = cable_out-place cables p w.0 w.1 in
          let m = matched cables tree (record { starts = sym own.arcs.starts; ends = sym own.arcs.ends }) place.0 w.0 place.1 in
          let from : m.cable.from ≡ p = sym m.from ∙ cable_out-from cables p w.0 w.1 in
          subst (λ (q : ℕ). starts_in tree q ≡ 1) from (one-start tree differ place.0 m.cable m.is_cable)
    ];
    no_others = λ i d l.
        let c = get_or tree i d in
        candidate-turbine s c.from c.to none (candidate i c (slice_get-get_or tree i d l));
    ends = λ i d l. ending i (get_or tree i d) (slice_get-get_or tree i d l);
    cheapest = λ i d l. own.types i (get_or tree i d) (slice_get-get_or tree i d l);
  },
  sum_by-le_matched (λ (c : Cable). cost_of s c.from c.to c.grade (power_of s c.from)) (λ c. cost_of s c.from c.to c.grade (load s cables c.from)) tree cables own.arcs less,
)
  where
    same : SameEnds tree cables
    same = SameEnds-from_arcs tree cables own.arcs

    differ : StartsDiffer tree
    differ = StartsDiffer-arcs tree cables own.arcs g.start

    candidate : (i : ℕ) (c : Cable) → slice_get tree i ≡ Some c → IsCandidate s c.from c.to
    candidate i c e =
        let m = matched tree cables own.arcs i c e in
        subst (λ (q : ℕ). IsCandidate s c.from q) (sym m.to) (subst (λ (p : ℕ). IsCandidate s p m.cable.to) (sym m.from) (g.candidate i m.cable m.is_cable))

    ending : (i : ℕ) (c : Cable) → slice_get tree i ≡ Some c → IsTrue (is_substation (kind_of s (walk_end most_steps tree c.from)))
    ending i c e =
        let m = matched tree cables own.arcs i c e in
        let out = Starts-from_out cables m.cable.from m.cable (cable_out-of cables g.start i m.cable m.is_cable) in
        subst (λ (q : ℕ). IsTrue (is_substation (kind_of s q))) (sym (walk_end-same tree cables same most_steps c.from))
        (subst (λ (p : ℕ). IsTrue (is_substation (kind_of s (walk_end most_steps cables p)))) (sym m.from) (g.ends m.cable.from out))

    less : (i : ℕ) (c d : Cable) → IsCable tree i c → IsCable cables i d → c.from ≡ d.from → c.to ≡ d.to
        → cost_of s c.from c.to c.grade (power_of s c.from) ≤ cost_of s d.from d.to d.grade (load s cables d.from)
    less i c d e f from to =
        let cheap = subst (λ (q : ℕ). IsCheapest s d.from q (power_of s d.from) c.grade) to (subst (λ (p : ℕ). IsCheapest s p c.to (power_of s p) c.grade) from (own.types i c e)) in
        let l = cable-le_cheapest s cables g.range g.capacity i d f c.grade cheap in
        subst (λ (n : ℕ). n ≤ cost_of s d.from d.to d.grade (load s cables d.from))
        (sym (ap (λ (p : ℕ). cost_of s p c.to c.grade (power_of s p)) from ∙ ap (λ (q : ℕ). cost_of s d.from q c.grade (power_of s d.from)) to)) l

-- on a site without bends a legal layout holds an in-tree that costs no more
pub legal-in_tree : (s : Site) (cables : List Cable) → HasNoBends s → IsLegal s cables → (tree : List Cable) × IsInTree s tree × (in_tree_cost s tree ≤ cost s cables)
legal-in_tree s cables none g =
    let own = own-typed s cables (λ i c e. (
      c.grade,
      Bears-lower s c.grade (power_of s c.from) (load s cables c.from) (power_of-le-own_load s cables c.from) (bears-own s cables g.range g.capacity i c e),
    )) in
    let t = own-in_tree s cables own.0 none g own.1 in
    (own.0, t.0, t.1)

-- so no legal layout costs less than the cheapest in-tree
pub floor-le_legal : (s : Site) (least : ℕ) (cables : List Cable) → HasNoBends s → IsFloor s least → IsLegal s cables → least ≤ cost s cables
floor-le_legal s least cables none f g =
    let t = legal-in_tree s cables none g in
    let l = f.no_less t.0 t.1 in
    let m : in_tree_cost s t.0 ≤ cost s cables = t.2 in
    omega (arith, l, m)

-- and where there is no in-tree there is no legal layout
pub no-legal_without_tree : (s : Site) (cables : List Cable) → HasNoBends s → ((tree : List Cable) → ¬ (IsInTree s tree)) → ¬ (IsLegal s cables)
no-legal_without_tree s cables none no_tree g = let t = legal-in_tree s cables none g in no_tree t.0 t.1
