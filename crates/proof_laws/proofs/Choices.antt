-- What a legal layout chooses at each arc, and that the sum of these choices lies between the sums of extremes in its box.
use Rattle.std.proofs.Common.{◌≡◌, ◌≢◌, ℕ, ◌+◌, ◌≤◌, inl, inr, Bool, true, false, cond, ℤ, ◌≤ℤ◌, List, [], ◌∷◌, map, slice_get, Some, None, Option, is_some, refl, ap, sym, ◌∙◌, subst, arith}
use Rattle.std.specs.Prelude.{IsTrue}
use Rattle.std.specs.List.{enumerate_from}
use Rattle.std.proofs.lemmas.Int.{ints}
use Rattle.cable_definitions.specs.declared.cable.Cable.{Cable}
use Rattle.cable_definitions.specs.declared.cable.Arc.{Arc}
use Rattle.cable_definitions.specs.declared.row.Mark.{Mark}
use Rattle.cable_definitions.specs.declared.row.Mark.TheVariants.{Free, Used, Unused}
use Rattle.cable_definitions.specs.declared.site.Kind.{Kind}
use Rattle.cable_definitions.specs.declared.site.Kind.TheVariants.{Turbine, Substation, Bend}
use Rattle.cable_definitions.specs.declared.site.Point.{Point}
use Rattle.cable_definitions.specs.Site.{Site, IsValid}
use Rattle.cable_definitions.specs.Arcs.{kind_of, kind_from, is_substation, power_of, power_of_kind}
use Rattle.cable_definitions.specs.Walk.{cable_out, load}
use Rattle.cable_definitions.specs.Layout.{Starts, IsLegal}
use Rattle.cable_definitions.specs.Row.{Row, count_of, left, has_arc, flow_of}
use Rattle.cable_definitions.specs.Choice.{Choice, NoCable, Carries, use_of, load_of, least_load, IsChoice, IsKept, IsInBox, AtMost, AtLeast, AreExtremes}
use Rattle.cable_definitions.specs.Tree.{counted}
use Rattle.number_laws.proofs.Sums.{sum_int, sum_int-cons, sum_int-same}
use Rattle.layout_laws.proofs.Alike.{cable_out-of, cable_out-from}
use Rattle.layout_laws.proofs.Walking.{Starts-from_out}
use Rattle.layout_laws.proofs.Flow.{power_of-le-own_load}
use Rattle.layout_laws.proofs.Ending.{Starts-substation, bend-carries, candidate-out}
use Rattle.proof_laws.proofs.Lists.{true_or_false}
use Rattle.proof_laws.proofs.Cables.{CableOn, cable_on, left-by}

-- the choice of a used arc with this cable, and of an unused arc
abbrev pub choice_from : Bool → Option Cable → ℕ → Choice
choice_from true None l = NoCable
choice_from true (Some c) l = Carries c.grade l
choice_from false o l = NoCable

-- what a layout chooses at an arc
abbrev pub layout_choice : Site → List Cable → Arc → Choice
layout_choice s cables a = choice_from (has_arc cables a) (cable_out cables a.from) (load s cables a.from)

-- at an arc without a cable it is none
pub layout_choice-none : (s : Site) (cables : List Cable) (a : Arc) → has_arc cables a ≡ false → layout_choice s cables a ≡ NoCable
layout_choice-none s cables a e = ap (λ b. choice_from b (cable_out cables a.from) (load s cables a.from)) e

-- at the arc of a cable it is the cable's type and load
pub layout_choice-some : (s : Site) (cables : List Cable) → IsLegal s cables → (a : Arc) → has_arc cables a ≡ true → (on : CableOn cables a)
    → layout_choice s cables a ≡ Carries on.cable.grade (load s cables a.from)
layout_choice-some s cables g a e on =
    let out : cable_out cables a.from ≡ Some on.cable = ap (cable_out cables) (sym on.from) ∙ cable_out-of cables g.start on.place on.cable on.is_cable in
    ap (λ b. choice_from b (cable_out cables a.from) (load s cables a.from)) e ∙ ap (λ o. choice_from true o (load s cables a.from)) out

-- its use and its load are those of the layout
pub layout_choice-flow : (s : Site) (cables : List Cable) → IsLegal s cables → (a : Arc)
    → (use_of (layout_choice s cables a) ≡ cond (has_arc cables a) 1 0) × (load_of (layout_choice s cables a) ≡ cond (has_arc cables a) (load s cables a.from) 0)
layout_choice-flow s cables g a = elim (true_or_false (has_arc cables a)) [
  | inl t ↦
      let e = layout_choice-some s cables g a t (cable_on cables a t) in
      (ap use_of e ∙ ap (λ b. cond b (let n : ℕ = 1 in n) 0) (sym t), ap load_of e ∙ ap (λ b. cond b (load s cables a.from) 0) (sym t))
  | inr t ↦
      let e = layout_choice-none s cables a t in
      (ap use_of e ∙ ap (λ b. cond b (let n : ℕ = 1 in n) 0) (sym t), ap load_of e ∙ ap (λ b. cond b (load s cables a.from) 0) (sym t))
]

-- a cable of a legal layout of a valid site carries at least the least load out of its start
pub least_load-legal : (s : Site) (cables : List Cable) → IsValid s → IsLegal s cables → (p : ℕ) → Starts cables p → least_load (kind_of s p) ≤ load s cables p
least_load-legal s cables v g p st = by_point (slice_get s.points p) refl
  where
    by_kind : (point : Point) → slice_get s.points p ≡ Some point → (k : Kind) → point.kind ≡ k → least_load k ≤ load s cables p
    by_kind point e (Turbine power) k =
        let own : power_of s p ≡ power = ap (λ o. power_of_kind (kind_from o)) e ∙ ap power_of_kind k in
        let l = power_of-le-own_load s cables p in
        omega (arith, own, l)
    by_kind point e (Substation feeders power) k =
        absurd (Starts-substation s cables g.candidate p (subst (λ (o : Option Point). IsTrue (is_substation (kind_from o))) (sym e) (ap is_substation k)) st)
    by_kind point e Bend k = bend-carries s cables v g p point e k st

    by_point : (o : Option Point) → slice_get s.points p ≡ o → least_load (kind_from o) ≤ load s cables p
    by_point None e = no_point (cable_out cables p) refl
      where
        no_point : (o : Option Cable) → cable_out cables p ≡ o → 1 ≤ load s cables p
        no_point None f = absurd (let q : false ≡ true = ap is_some (sym f) ∙ st in cc)
        no_point (Some c) f =
            let a = candidate-out s cables g.candidate p c f in
            let q : None ≡ Some a.from = sym e ∙ ap (slice_get s.points) (sym (cable_out-from cables p c f)) ∙ a.from_is in
            absurd (cc)
    by_point (Some point) e = by_kind point e point.kind refl

-- what a layout chooses is among the choices that a mark leaves, where the layout is in its box
pub layout_choice-kept : (s : Site) (cables : List Cable) → IsValid s → IsLegal s cables → (a : Arc) (mark : Mark) → IsKept mark (has_arc cables a) → IsChoice s a mark (layout_choice s cables a)
layout_choice-kept s cables v g a mark k = elim (true_or_false (has_arc cables a)) [
  | inl t ↦
      let on = cable_on cables a t in
      let out : cable_out cables a.from ≡ Some on.cable = ap (cable_out cables) (sym on.from) ∙ cable_out-of cables g.start on.place on.cable on.is_cable in
      subst (IsChoice s a mark) (sym (layout_choice-some s cables g a t on)) (
        not_unused mark (subst (IsKept mark) t k),
        (g.range on.place).grade on.cable on.is_cable,
        least_load-legal s cables v g a.from (Starts-from_out cables a.from on.cable out),
        g.capacity a.from on.place on.cable on.is_cable on.from,
      )
  | inr t ↦ subst (IsChoice s a mark) (sym (layout_choice-none s cables a t)) (not_used mark (subst (IsKept mark) t k))
]
  where
    not_unused : (m : Mark) → IsKept m true → m ≢ Unused
    not_unused Free h = λ e. cc
    not_unused Used h = λ e. cc
    not_unused Unused h = absurd (h refl)

    not_used : (m : Mark) → IsKept m false → m ≢ Used
    not_used Free h = λ e. cc
    not_used Used h = absurd (cc)
    not_used Unused h = λ e. cc

-- the sum over the arcs of what f says of a layout's choices is at most the sum of the greatest, ..
pub choices-below : (s : Site) (cables : List Cable) → IsValid s → IsLegal s cables → (f : ℕ → Arc → Choice → ℤ) (n : ℕ) (arcs : List Arc) (marks : List Mark) (extremes : List ℤ)
    → IsInBox arcs marks cables → AreExtremes AtLeast s f n arcs marks extremes
    → sum_int (λ (x : ℕ × Arc). f x.0 x.1 (layout_choice s cables x.1)) (enumerate_from n arcs) ≤ℤ sum_int (λ z. z) extremes
choices-below s cables v g f n [] [] [] b e = omega (arith, ints)
choices-below s cables v g f n [] [] (z ∷ zs) b e = absurd e
choices-below s cables v g f n [] (m ∷ marks) extremes b e = absurd b
choices-below s cables v g f n (a ∷ arcs) [] extremes b e = absurd b
choices-below s cables v g f n (a ∷ arcs) (m ∷ marks) [] b e = absurd e
choices-below s cables v g f n (a ∷ arcs) (m ∷ marks) (z ∷ zs) b e =
    let here : f n a (layout_choice s cables a) ≤ℤ z = e.0.none_beyond (layout_choice s cables a) (layout_choice-kept s cables v g a m b.0) in
    let rest = choices-below s cables v g f (n + 1) arcs marks zs b.1 e.1 in
    omega (arith, ints, here, rest, sum_int-cons (λ (x : ℕ × Arc). f x.0 x.1 (layout_choice s cables x.1)) (n, a) (enumerate_from (n + 1) arcs), sum_int-cons (λ (y : ℤ). y) z zs)

-- .. and at least the sum of the least
pub choices-above : (s : Site) (cables : List Cable) → IsValid s → IsLegal s cables → (f : ℕ → Arc → Choice → ℤ) (n : ℕ) (arcs : List Arc) (marks : List Mark) (extremes : List ℤ)
    → IsInBox arcs marks cables → AreExtremes AtMost s f n arcs marks extremes
    → sum_int (λ z. z) extremes ≤ℤ sum_int (λ (x : ℕ × Arc). f x.0 x.1 (layout_choice s cables x.1)) (enumerate_from n arcs)
choices-above s cables v g f n [] [] [] b e = omega (arith, ints)
choices-above s cables v g f n [] [] (z ∷ zs) b e = absurd e
choices-above s cables v g f n [] (m ∷ marks) extremes b e = absurd b
choices-above s cables v g f n (a ∷ arcs) [] extremes b e = absurd b
choices-above s cables v g f n (a ∷ arcs) (m ∷ marks) [] b e = absurd e
choices-above s cables v g f n (a ∷ arcs) (m ∷ marks) (z ∷ zs) b e =
    let here : z ≤ℤ f n a (layout_choice s cables a) = e.0.none_beyond (layout_choice s cables a) (layout_choice-kept s cables v g a m b.0) in
    let rest = choices-above s cables v g f (n + 1) arcs marks zs b.1 e.1 in
    omega (arith, ints, here, rest, sum_int-cons (λ (x : ℕ × Arc). f x.0 x.1 (layout_choice s cables x.1)) (n, a) (enumerate_from (n + 1) arcs), sum_int-cons (λ (y : ℤ). y) z zs)

-- the left side of a row is the sum over a layout's choices of what the row counts them as
pub left-choices : (s : Site) (cables : List Cable) → IsLegal s cables → (row : Row) (arcs : List Arc)
    → left row arcs (map (flow_of s cables) arcs) ≡ sum_int (λ (x : ℕ × Arc). counted row x.0 x.1 (layout_choice s cables x.1)) (enumerate_from 0 arcs)
left-choices s cables g row arcs =
    left-by row (flow_of s cables) arcs
    ∙ sum_int-same (λ (x : ℕ × Arc). count_of row (x.0, (x.1, flow_of s cables x.1))) (λ x. counted row x.0 x.1 (layout_choice s cables x.1)) (enumerate_from 0 arcs) (λ x.
    let e = layout_choice-flow s cables g x.1 in
    ap (λ (k : ℕ). count_of row (x.0, (x.1, (k, cond (has_arc cables x.1) (load s cables x.1.from) 0)))) (sym e.0)
    ∙ ap (λ (k : ℕ). count_of row (x.0, (x.1, (use_of (layout_choice s cables x.1), k)))) (sym e.1))
