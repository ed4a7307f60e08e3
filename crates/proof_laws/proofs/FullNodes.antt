-- A layout in the box of a full node uses the node's used arcs alone, and costs at least as much as the full layout.
use Rattle.std.proofs.Common.{◌≡◌, ℕ, zero, suc, ◌≤◌, ◌⊎◌, inl, inr, true, List, length, slice_get, Some, None, Option, option_map, refl, ap, sym, ◌∙◌, subst, arith}
use Rattle.std.specs.Prelude.{IsTrue}
use Rattle.std.specs.List.{range_with_len}
use Rattle.std.proofs.lemmas.List.Sums.{sum_by-le-sum_by}
use Rattle.cable_definitions.specs.declared.cable.Cable.{Cable}
use Rattle.cable_definitions.specs.declared.cable.Arc.{Arc}
use Rattle.cable_definitions.specs.declared.row.Mark.{Mark}
use Rattle.cable_definitions.specs.declared.row.Mark.TheVariants.{Used}
use Rattle.cable_definitions.specs.declared.site.Kind.{Kind}
use Rattle.cable_definitions.specs.declared.site.Kind.TheVariants.{Turbine, Substation, Bend}
use Rattle.cable_definitions.specs.declared.site.Point.{Point}
use Rattle.cable_definitions.specs.Site.{Site}
use Rattle.cable_definitions.specs.Arcs.{AreArcs, Bears, IsCheapest, kind_of, kind_from, is_turbine, is_substation, cost_of}
use Rattle.cable_definitions.specs.Walk.{cable_out, walk_end, most_steps, load}
use Rattle.cable_definitions.specs.Layout.{IsCable, IsLegal, cost}
use Rattle.cable_definitions.specs.Part.{SameArcs, AreCheapTyped}
use Rattle.cable_definitions.specs.Row.{has_arc}
use Rattle.cable_definitions.specs.Choice.{IsInBox}
use Rattle.cable_definitions.specs.Tree.{used_cables, IsFull}
use Rattle.number_laws.proofs.Keys.{value_at, sum_by-keys}
use Rattle.layout_laws.specs.Alike.{SameEnds}
use Rattle.layout_laws.proofs.Alike.{cable_out-from, cable_out-place, cable_out-of, load-same}
use Rattle.layout_laws.proofs.Arcs.{SameEnds-from_arcs}
use Rattle.layout_laws.proofs.Walking.{none-from_Starts, Starts-from_out, out_cases, walk_end-stays, walk_end-step, walk_end-ended, end-from_comes_to, most_steps_is}
use Rattle.layout_laws.proofs.Ending.{candidate-out, Starts-substation, bend-fed}
use Rattle.layout_laws.proofs.Typing.{all-at}
use Rattle.proof_laws.proofs.Points.{turbine_out}
use Rattle.layout_laws.proofs.Typed.{cheap_typed-same}
use Rattle.proof_laws.proofs.Lists.{all_from}
use Rattle.proof_laws.proofs.Cables.{cable_on, has_arc-from, arc_place}
use Rattle.proof_laws.proofs.Within.{IsWithin, used_within, used_arc, used_on}

-- a list with the same starts and ends as one within a layout is within the layout
pub within-same : (xs ys whole : List Cable) → SameEnds xs ys → IsWithin ys whole → IsWithin xs whole
within-same xs ys whole e w p c f = by_case (cable_out ys p) refl
  where
    by_case : (o : Option Cable) → cable_out ys p ≡ o → (d : Cable) × (cable_out whole p ≡ Some d) × (d.to ≡ c.to)
    by_case None h = absurd (let q : Some c.to ≡ None = ap (option_map (λ (x : Cable). x.to)) (sym f) ∙ e p ∙ ap (option_map (λ (x : Cable). x.to)) h in cc)
    by_case (Some b) h =
        let d = w p b h in
        let q : Some c.to ≡ Some b.to = ap (option_map (λ (x : Cable). x.to)) (sym f) ∙ e p ∙ ap (option_map (λ (x : Cable). x.to)) h in
        let r : c.to ≡ b.to = cc in
        (d.0, d.1, d.2 ∙ sym r)

-- where one legal layout is within another, walks from where the first has a cable are the same
walk_same : (s : Site) (part whole : List Cable) → IsLegal s part → IsLegal s whole → IsWithin part whole → (steps t : ℕ) (c : Cable) → cable_out part t ≡ Some c → walk_end steps part t ≡ walk_end steps whole t
walk_same s part whole g h w zero t c e = refl
walk_same s part whole g h w (suc steps) t c e =
    let d = w t c e in
    walk_end-step part t steps c e ∙ further (out_cases part c.to) (walk_same s part whole g h w steps c.to) ∙ sym (ap (walk_end steps whole) d.2) ∙ sym (walk_end-step whole t steps d.0 d.1)
  where
    further : (cable_out part c.to ≡ None) ⊎ ((b : Cable) × (cable_out part c.to ≡ Some b)) → ((b : Cable) → cable_out part c.to ≡ Some b → walk_end steps part c.to ≡ walk_end steps whole c.to)
        → walk_end steps part c.to ≡ walk_end steps whole c.to
    further o goes_on = elim o [
      | inr b ↦ goes_on b.0 b.1
      | inl n ↦
          let one : walk_end 1 part t ≡ c.to = walk_end-step part t 0 c e in
          let last : walk_end most_steps part t ≡ c.to = walk_end-ended part t 1 most_steps (omega (arith, most_steps_is)) (ap (cable_out part) one ∙ n) ∙ one in
          let ends : IsTrue (is_substation (kind_of s c.to)) = subst (λ (q : ℕ). IsTrue (is_substation (kind_of s q))) last (g.ends t (Starts-from_out part t c e)) in
          let none = none-from_Starts whole c.to (Starts-substation s whole h.candidate c.to ends) in
          walk_end-stays part c.to steps n ∙ sym (walk_end-stays whole c.to steps none)
    ]

-- a legal layout that has all cables of another has no more
pub no_more : (s : Site) (part whole : List Cable) → IsLegal s part → IsLegal s whole → IsWithin part whole → SameEnds part whole
no_more s part whole g h w p = by_case (cable_out part p) (cable_out whole p) refl refl
  where
    -- a cable of the whole alone starts in a bend, which the walk of a turbine passes, over cables of the part
    bend_alone : (d : Cable) → cable_out part p ≡ None → cable_out whole p ≡ Some d → (point : Point) → slice_get s.points p ≡ Some point → point.kind ≡ Bend → ⊥
    bend_alone d n e point is k =
        let fed = bend-fed s whole h p point is k (Starts-from_out whole p d e) in
        let out = turbine_out s part g fed.0 fed.1 in
        let steps = end-from_comes_to whole p most_steps fed.0 fed.2 in
        let there : walk_end steps.0 part fed.0 ≡ p = walk_same s part whole g h w steps.0 fed.0 out.0 out.1 ∙ steps.2 in
        let last : walk_end most_steps part fed.0 ≡ p = walk_end-ended part fed.0 steps.0 most_steps steps.1 (ap (cable_out part) there ∙ n) ∙ there in
        let ends : IsTrue (is_substation (kind_of s p)) = subst (λ (q : ℕ). IsTrue (is_substation (kind_of s q))) last (g.ends fed.0 (Starts-from_out part fed.0 out.0 out.1)) in
        Starts-substation s whole h.candidate p ends (Starts-from_out whole p d e)

    alone : (d : Cable) → cable_out part p ≡ None → cable_out whole p ≡ Some d → ⊥
    alone d n e =
        let a = candidate-out s whole h.candidate p d e in
        let is : slice_get s.points p ≡ Some a.from = ap (slice_get s.points) (sym (cable_out-from whole p d e)) ∙ a.from_is in
        by_kind a.from is a.no_substation a.from.kind refl
      where
        by_kind : (point : Point) → slice_get s.points p ≡ Some point → ¬ IsTrue (is_substation point.kind) → (k : Kind) → point.kind ≡ k → ⊥
        by_kind point is free (Turbine power) k =
            let out = turbine_out s part g p (ap (λ o. is_turbine (kind_from o)) is ∙ ap is_turbine k) in
            let q : None ≡ Some out.0 = sym n ∙ out.1 in
            cc
        by_kind point is free (Substation feeders power) k = free (ap is_substation k)
        by_kind point is free Bend k = bend_alone d n e point is k

    by_case : (o q : Option Cable) → cable_out part p ≡ o → cable_out whole p ≡ q → option_map (λ (c : Cable). c.to) (cable_out part p) ≡ option_map (λ (c : Cable). c.to) (cable_out whole p)
    by_case None None e f = ap (option_map (λ (c : Cable). c.to)) e ∙ sym (ap (option_map (λ (c : Cable). c.to)) f)
    by_case None (Some d) e f = absurd (alone d e f)
    by_case (Some c) q e f =
        let d = w p c e in
        ap (option_map (λ (c : Cable). c.to)) e ∙ ap Some (sym d.2) ∙ sym (ap (option_map (λ (c : Cable). c.to)) d.1)

-- the cheapest types cost least, where two legal layouts have the same starts and ends
pub cheapest-cost : (s : Site) (part whole : List Cable) → IsLegal s part → IsLegal s whole → SameEnds part whole
    → ((i : ℕ) (c : Cable) → IsCable part i c → IsCheapest s c.from c.to (load s part c.from) c.grade) → cost s part ≤ cost s whole
cheapest-cost s part whole g h e cheap =
    let n : ℕ = length s.points in
    let keys = λ (c : Cable). c.from in
    let first : Cable → ℕ = λ c. cost_of s c.from c.to c.grade (load s part c.from) in
    let second : Cable → ℕ = λ c. cost_of s c.from c.to c.grade (load s whole c.from) in
    let a = sum_by-keys keys first n part g.start (λ i c u. (g.range i).from c u) in
    let b = sum_by-keys keys second n whole h.start (λ i c u. (h.range i).from c u) in
    let most = sum_by-le-sum_by (λ (p : ℕ). value_at first (cable_out part p)) (λ p. value_at second (cable_out whole p)) (range_with_len 0 n) (λ p. each p (cable_out part p) (cable_out whole p) refl refl (e p)) in
    omega (arith, a, b, most)
  where
    each : (p : ℕ) (o q : Option Cable) → cable_out part p ≡ o → cable_out whole p ≡ q → option_map (λ (c : Cable). c.to) (cable_out part p) ≡ option_map (λ (c : Cable). c.to) (cable_out whole p)
        → value_at (λ (c : Cable). cost_of s c.from c.to c.grade (load s part c.from)) (cable_out part p) ≤ value_at (λ (c : Cable). cost_of s c.from c.to c.grade (load s whole c.from)) (cable_out whole p)
    each p None q u v w = rw u (omega arith)
    each p (Some c) None u v w = absurd (let z : Some c.to ≡ None = ap (option_map (λ (c : Cable). c.to)) (sym u) ∙ w ∙ ap (option_map (λ (c : Cable). c.to)) v in cc)
    each p (Some c) (Some d) u v w =
        let z : Some c.to ≡ Some d.to = ap (option_map (λ (c : Cable). c.to)) (sym u) ∙ w ∙ ap (option_map (λ (c : Cable). c.to)) v in
        let to : c.to ≡ d.to = cc in
        let from : c.from ≡ d.from = cable_out-from part p c u ∙ sym (cable_out-from whole p d v) in
        let place = cable_out-place part p c u in
        let other = cable_out-place whole p d v in
        let loads : load s part c.from ≡ load s whole d.from = load-same s part whole e c.from ∙ ap (load s whole) from in
        let enough = h.capacity d.from other.0 d other.1 refl in
        let least = (cheap place.0 c place.1).least d.grade (record { listed = (h.range other.0).grade d other.1; enough = omega (arith, loads, enough) }) in
        let moved : cost_of s c.from c.to d.grade (load s part c.from) ≡ cost_of s d.from d.to d.grade (load s whole d.from) =
        ap (λ (x : ℕ). cost_of s x c.to d.grade (load s part c.from)) from
        ∙ ap (λ (x : ℕ). cost_of s d.from x d.grade (load s part c.from)) to
        ∙ ap (λ (x : ℕ). cost_of s d.from d.to d.grade x) loads in
        rw (u, v) (elim least [ inl l ↦ omega (arith, l, moved) | inr r ↦ (let l = r.0 in omega (arith, l, moved)) ])

-- the full layout is within each layout of the box
pub full_within : (s : Site) (arcs : List Arc) (marks : List Mark) (full cables : List Cable) → IsFull s arcs marks full → IsLegal s cables → IsInBox arcs marks cables → IsWithin full cables
full_within s arcs marks full cables f g box =
    let same : SameArcs full (used_cables arcs marks) = record { starts = f.starts; ends = f.ends } in
    within-same full (used_cables arcs marks) cables (SameEnds-from_arcs full (used_cables arcs marks) same) (used_within arcs marks cables g.start box)

-- so each layout of the box has the same starts and ends, ..
pub full-ends : (s : Site) (arcs : List Arc) (marks : List Mark) (full cables : List Cable) → IsFull s arcs marks full → IsLegal s cables → IsInBox arcs marks cables → SameEnds full cables
full-ends s arcs marks full cables f g box = no_more s full cables f.legal g (full_within s arcs marks full cables f g box)

-- .. and costs at least as much
pub full-cost : (s : Site) (arcs : List Arc) (marks : List Mark) (full cables : List Cable) → IsFull s arcs marks full → IsLegal s cables → IsInBox arcs marks cables → cost s full ≤ cost s cables
full-cost s arcs marks full cables f g box =
    cheapest-cost s full cables f.legal g (full-ends s arcs marks full cables f g box)
    (λ i c e. all-at (λ (c : Cable). IsCheapest s c.from c.to (load s full c.from) c.grade) full i c f.cheapest e)

-- an arc of such a layout is marked used
pub full-used : (s : Site) (arcs : List Arc) (marks : List Mark) (full cables : List Cable) → AreArcs s arcs → IsFull s arcs marks full → IsLegal s cables → IsInBox arcs marks cables
    → (k : ℕ) (a : Arc) → slice_get arcs k ≡ Some a → has_arc cables a ≡ true → slice_get marks k ≡ Some Used
full-used s arcs marks full cables are f g box k a e h =
    let used = used_cables arcs marks in
    let on = cable_on cables a h in
    let out : cable_out cables a.from ≡ Some on.cable = ap (cable_out cables) (sym on.from) ∙ cable_out-of cables g.start on.place on.cable on.is_cable in
    let same : SameArcs full used = record { starts = f.starts; ends = f.ends } in
    let ends : option_map (λ (c : Cable). c.to) (cable_out used a.from) ≡ Some a.to =
    sym (SameEnds-from_arcs full used same a.from) ∙ full-ends s arcs marks full cables f g box a.from ∙ ap (option_map (λ (c : Cable). c.to)) out ∙ ap Some on.to in
    by_case used refl (cable_out used a.from) refl ends
  where
    by_case : (used : List Cable) → used_cables arcs marks ≡ used → (o : Option Cable) → cable_out used a.from ≡ o → option_map (λ (c : Cable). c.to) o ≡ Some a.to → slice_get marks k ≡ Some Used
    by_case used is None u v = absurd (cc)
    by_case used is (Some c) u v =
        let place = cable_out-place used a.from c u in
        let arc = used_arc arcs marks place.0 c (ap (λ xs. slice_get xs place.0) is ∙ place.1) in
        let to : c.to ≡ a.to = cc in
        let at : k ≡ arc.place = arc_place s arcs are k arc.place a arc.arc e arc.is_arc (sym (cable_out-from used a.from c u) ∙ sym arc.starts) (sym to ∙ sym arc.ends) in
        ap (slice_get marks) at ∙ arc.is_used

-- and it has each arc that is marked used
pub full-uses : (arcs : List Arc) (marks : List Mark) (cables : List Cable) → IsInBox arcs marks cables → (k : ℕ) (a : Arc) → slice_get arcs k ≡ Some a → slice_get marks k ≡ Some Used → has_arc cables a ≡ true
full-uses arcs marks cables box k a e f = let on = used_on arcs marks cables box k a e f in has_arc-from cables a on.place on.cable on.is_cable on.from on.to

-- the full layout has the cheapest types of the used cables
pub full-cheap : (s : Site) (arcs : List Arc) (marks : List Mark) (full : List Cable) → IsFull s arcs marks full → AreCheapTyped s (used_cables arcs marks) full
full-cheap s arcs marks full f = record { arcs = record { starts = f.starts; ends = f.ends }; types = λ k d h. inl (f.cheapest k d h) }

-- so there is one at most
pub full-one : (s : Site) (arcs : List Arc) (marks : List Mark) (xs ys : List Cable) → IsFull s arcs marks xs → IsFull s arcs marks ys → xs ≡ ys
full-one s arcs marks xs ys f g = cheap_typed-same s (used_cables arcs marks) xs ys (full-cheap s arcs marks xs f) (full-cheap s arcs marks ys g)

-- and they are full where they are legal
pub full-legal : (s : Site) (arcs : List Arc) (marks : List Mark) (cheap : List Cable) → AreCheapTyped s (used_cables arcs marks) cheap → IsLegal s cheap → IsFull s arcs marks cheap
full-legal s arcs marks cheap c g = record {
  starts = c.arcs.starts;
  ends = c.arcs.ends;
  cheapest = all_from (λ (c : Cable). IsCheapest s c.from c.to (load s cheap c.from) c.grade) cheap (λ i d e.
      elim (all-at (λ c. IsCheapest s c.from c.to (load s cheap c.from) c.grade ⊎ (((grade : ℕ) → ¬ (Bears s grade (load s cheap c.from))) × (c.grade ≡ 0))) cheap i d c.types e) [
        | inl best ↦ best
        | inr none ↦ absurd (none.0 d.grade (record { listed = (g.range i).grade d e; enough = g.capacity d.from i d e refl }))
      ]);
  legal = g;
}
