-- Full layouts, which are the used arcs with their cheapest types.
use Rattle.std.proofs.Common.{◌≡◌, ℕ, zero, suc, ◌<◌, List, [], ◌∷◌, length, map, take, slice_get, Some, None, inl, inr, arith, refl, sym, ap, ◌∙◌, subst}
use Rattle.std.proofs.lemmas.List.{take_all}
use Rattle.std.proofs.lemmas.Bool.{cases_lt}
use Rattle.cable_definitions.specs.declared.cable.Cable.{Cable}
use Rattle.cable_definitions.specs.declared.cable.Arc.{Arc}
use Rattle.cable_definitions.specs.declared.cable.Rule.{Rule}
use Rattle.cable_definitions.specs.declared.row.Mark.{Mark}
use Rattle.cable_definitions.specs.Site.{Site, IsValid}
use Rattle.cable_definitions.specs.Arcs.{AreArcs, ArcBefore}
use Rattle.cable_definitions.specs.Layout.{IsCable, IsLegal, cost, IsFirstBroken}
use Rattle.cable_definitions.specs.Part.{AreCheapTyped}
use Rattle.cable_definitions.specs.Tree.{used_cables, IsFull}
use Rattle.layout_laws.proofs.Legal.{broken_not_legal}
use Rattle.layout_laws.proofs.Typed.{cheap_typed-same}
use Rattle.proof_laws.proofs.Lists.{pairs_at}
use Rattle.proof_laws.proofs.Within.{used_arc, used_cable_on}
use Rattle.proof_laws.proofs.FullNodes.{full-cheap, full-legal}
use Rattle.layout_meaning.specs.Typed.{JoinPoints}
use Rattle.node_reasons.specs.Used.{UsedList, StartAlike, AreUsed}
use Rattle.node_reasons.proofs.Gathering.{starts_within, ends_within}

-- where a list is seen the same through a function, an element of one has its like in the other
like_at : {Y : Type 0} → (f : Cable → Y) (xs ys : List Cable) → map f xs ≡ map f ys → (i : ℕ) (c : Cable) → IsCable ys i c → (d : Cable) × (IsCable xs i d) × (f d ≡ f c)
like_at f xs [] e i c k = absurd (cc)
like_at f [] (y ∷ ys) e i c k = absurd (cc)
like_at f (x ∷ xs) (y ∷ ys) e zero c k =
    let same : y ≡ c = cc in
    let first : f x ≡ f y = cc in
    (x, refl, first ∙ ap f same)
like_at f (x ∷ xs) (y ∷ ys) e (suc i) c k =
    let rest : map f xs ≡ map f ys = cc in
    like_at f xs ys rest i c k

-- no full layout has two cables that start alike
pub no_same_start : (s : Site) (arcs : List Arc) (marks : List Mark) (a b : ℕ) → AreArcs s arcs → StartAlike arcs marks a b → (full : List Cable) → ¬ (IsFull s arcs marks full)
no_same_start s arcs marks a b are t full f =
    let used = used_cables arcs marks in
    let x = used_cable_on arcs marks a t.first t.first_is.is_arc t.first_is.is_used in
    let y = used_cable_on arcs marks b t.second t.second_is.is_arc t.second_is.is_used in
    let d = like_at (λ (z : Cable). z.from) full used f.starts x.place x.cable x.is_cable in
    let e = like_at (λ (z : Cable). z.from) full used f.starts y.place y.cable y.is_cable in
    let alike : d.0.from ≡ e.0.from = d.2 ∙ x.from ∙ t.alike ∙ sym y.from ∙ sym e.2 in
    elim (cases_lt x.place y.place) [
      | inl less ↦ f.legal.start y.place x.place e.0 d.0 e.1 d.1 less alike
      | inr more ↦ elim (cases_lt y.place x.place) [
        | inl less ↦ f.legal.start x.place y.place d.0 e.0 d.1 e.1 less (sym alike)
        | inr other ↦ (
            let p : x.place ≡ y.place = omega arith in
            let g : Some x.cable ≡ Some y.cable = sym x.is_cable ∙ ap (slice_get used) p ∙ y.is_cable in
            let same : x.cable ≡ y.cable = cc in
            let to : t.first.to ≡ t.second.to = sym x.to ∙ ap (λ (z : Cable). z.to) same ∙ y.to in
            apart (pairs_at ArcBefore arcs are.in_order a b t.first t.second t.before t.first_is.is_arc t.second_is.is_arc) to
            )
      ]
    ]
  where
    apart : ArcBefore t.first t.second → t.first.to ≡ t.second.to → ⊥
    apart (inl less) h = let q = t.alike in omega arith
    apart (inr (same, less)) h = omega arith

-- where no two start alike, the gathered cables are the used cables
pub gathered_are : (arcs : List Arc) (marks : List Mark) (used : UsedList) (cables : List Cable) → AreUsed arcs marks used → length marks ≡ length arcs → used.same_start ≡ None → cables ≡ used.cables → cables ≡ used_cables arcs marks
gathered_are arcs marks used cables u e none same =
    let all_arcs : take (length arcs) arcs ≡ arcs = take_all (length arcs) arcs (omega arith) in
    let all_marks : take (length arcs) marks ≡ marks = take_all (length arcs) marks (omega arith) in
    same ∙ u.same none ∙ (λ i. used_cables (all_arcs i) (all_marks i))

-- the ends of used cables are points
pub used_join : (s : Site) (arcs : List Arc) (marks : List Mark) → IsValid s → AreArcs s arcs → JoinPoints s (used_cables arcs marks)
used_join s arcs marks v are i c e =
    let a = used_arc arcs marks i c e in (
      subst (λ (p : ℕ). p < length s.points) a.starts (starts_within s arcs a.place a.arc v are a.is_arc),
      subst (λ (p : ℕ). p < length s.points) a.ends (ends_within s arcs a.place a.arc v are a.is_arc),
    )

-- where the cheapest types break a rule there is no full layout
pub broken_full : (s : Site) (arcs : List Arc) (marks : List Mark) (typed cables : List Cable) (rule : Rule) (a b : ℕ) → AreCheapTyped s (used_cables arcs marks) typed → cables ≡ typed → IsFirstBroken s cables rule a b
    → (full : List Cable) → ¬ (IsFull s arcs marks full)
broken_full s arcs marks typed cables rule a b t e broken full f =
    let same : full ≡ cables = cheap_typed-same s (used_cables arcs marks) full typed (full-cheap s arcs marks full f) t ∙ sym e in
    broken_not_legal s cables rule a b broken (subst (IsLegal s) same f.legal)

-- where they are legal they are the full layout, at its cost
pub full_at : (s : Site) (arcs : List Arc) (marks : List Mark) (typed cables : List Cable) (c : ℕ) → AreCheapTyped s (used_cables arcs marks) typed → cables ≡ typed → IsLegal s cables → c ≡ cost s cables
    → (full : List Cable) × IsFull s arcs marks full × (c ≡ cost s full)
full_at s arcs marks typed cables c t e legal q = (typed, full-legal s arcs marks typed t (subst (IsLegal s) e legal), q ∙ ap (cost s) e)

-- where there is a full layout they are it
pub full_is : (s : Site) (arcs : List Arc) (marks : List Mark) (typed cables : List Cable) → AreCheapTyped s (used_cables arcs marks) typed → cables ≡ typed → (full : List Cable) → IsFull s arcs marks full → IsFull s arcs marks cables
full_is s arcs marks typed cables t e full f =
    subst (IsFull s arcs marks) (cheap_typed-same s (used_cables arcs marks) full typed (full-cheap s arcs marks full f) t ∙ sym e) f
