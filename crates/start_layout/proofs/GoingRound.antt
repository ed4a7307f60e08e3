-- Ends that close a circle.
use Rattle.std.proofs.Common.{◌≡◌, ◌≢◌, ℕ, zero, suc, ◌≤◌, List, Bool, true, false, Option, Some, None, option_map, IsTrue, inl, inr, refl, sym, ap, ◌∙◌, subst}
use Rattle.std.proofs.lemmas.Bool.Decides.{eqb_tells}
use Rattle.cable_definitions.specs.declared.cable.Arc.{Arc}
use Rattle.cable_definitions.specs.declared.cable.Cable.{Cable}
use Rattle.cable_definitions.specs.Site.{Site}
use Rattle.cable_definitions.specs.Walk.{cable_out, walk_end, most_steps, passes}
use Rattle.cable_definitions.specs.Layout.{Starts, IsLegal, cost}
use Rattle.cable_definitions.specs.Part.{end_of}
use Rattle.layout_laws.specs.Alike.{SameEnds}
use Rattle.layout_laws.proofs.Arcs.{SameEnds-from_arcs}
use Rattle.layout_laws.proofs.Walking.{walk_end-stays, walk_end-step, end-from_comes_to, Starts-from_out}
use Rattle.layout_laws.proofs.Ending.{WalksEnd-legal}
use Rattle.start_layout.specs.Moves.{with_end, MakesNoneBelow}
use Rattle.start_layout.proofs.Moving.{end_elsewhere, end_moved}

-- the walk from r comes to p
record ComesTo (cables : List Cable) (p r : ℕ) : Type 0 where
  pub steps : ℕ
  pub there : walk_end steps cables r ≡ p

-- a cable whose end comes to p
record LeadsTo (cables ended : List Cable) (p r : ℕ) : Type 0 where
  pub cable : Cable
  pub out : cable_out ended r ≡ Some cable
  pub comes : ComesTo cables p cable.to

-- a point whose cable now ends in what comes to p
leads_by_end : (cables ended : List Cable) (p q r : ℕ) → end_of ended r ≡ Some q → ComesTo cables p q → LeadsTo cables ended p r
leads_by_end cables ended p q r e h = by (cable_out ended r) refl e
  where
    by : (o : Option Cable) → cable_out ended r ≡ o → option_map (λ (c : Cable). c.to) o ≡ Some q → LeadsTo cables ended p r
    by None u v = absurd (cc)
    by (Some c) u v = let same : q ≡ c.to = cc in record { cable = c; out = u; comes = subst (ComesTo cables p) same h }

-- another point that comes to p has a cable that leads on to it
leads_on : (cables : List Cable) (p r : ℕ) → r ≢ p → ComesTo cables p r → (q : ℕ) × (end_of cables r ≡ Some q) × (ComesTo cables p q)
leads_on cables p r n h = by h.steps h.there (cable_out cables r) refl
  where
    by : (steps : ℕ) → walk_end steps cables r ≡ p → (o : Option Cable) → cable_out cables r ≡ o → (q : ℕ) × (end_of cables r ≡ Some q) × (ComesTo cables p q)
    by steps e None u = absurd (n (sym (walk_end-stays cables r steps u) ∙ e))
    by zero e (Some c) u = absurd (n e)
    by (suc steps) e (Some c) u = (c.to, ap (option_map (λ (x : Cable). x.to)) u, record { steps = steps; there = sym (walk_end-step cables r steps c u) ∙ e })

-- where the cable out of p ends in what came to p, each point that came to p leads to such a one
goes_round : (cables ended : List Cable) (p q : ℕ) → end_of ended p ≡ Some q → ((r : ℕ) → r ≢ p → end_of ended r ≡ end_of cables r) → ComesTo cables p q
    → (r : ℕ) → ComesTo cables p r → LeadsTo cables ended p r
goes_round cables ended p q here elsewhere back r h = elim (eqb_tells r p) [
  | inl t ↦ leads_by_end cables ended p q r (ap (end_of ended) t.1 ∙ here) back
  | inr t ↦ (let on = leads_on cables p r t.1 h in leads_by_end cables ended p on.0 r (elsewhere r t.1 ∙ on.1) on.2)
]

-- so a walk never leaves these points
stays_round : (cables ended : List Cable) (p : ℕ) → ((r : ℕ) → ComesTo cables p r → LeadsTo cables ended p r) → (steps r : ℕ) → ComesTo cables p r → ComesTo cables p (walk_end steps ended r)
stays_round cables ended p round zero r h = h
stays_round cables ended p round (suc steps) r h =
    let on = round r h in
    subst (ComesTo cables p) (sym (walk_end-step ended r steps on.cable on.out)) (stays_round cables ended p round steps on.cable.to on.comes)

-- such a list isn't legal
circle_not_legal : (s : Site) (cables ended : List Cable) (p q : ℕ) → end_of ended p ≡ Some q → ((r : ℕ) → r ≢ p → end_of ended r ≡ end_of cables r) → ComesTo cables p q → ¬ (IsLegal s ended)
circle_not_legal s cables ended p q here elsewhere back l =
    let round = goes_round cables ended p q here elsewhere back in
    let at = walk_end most_steps ended q in
    let on = round at (stays_round cables ended p round most_steps q back) in
    WalksEnd-legal s ended l q (Starts-from_out ended at on.cable on.out)

-- an arc makes nothing where it isn't open
pub none_where_closed : (s : Site) (cables : List Cable) (bound : ℕ) (arc : Arc) → ¬ (Starts cables arc.from × (¬ (IsTrue (passes cables arc.from arc.to)))) → MakesNoneBelow s cables bound arc
none_where_closed s cables bound arc closed start typed t l = by (passes cables arc.from arc.to) refl
  where
    p : ℕ
    p = arc.from

    q : ℕ
    q = arc.to

    same : SameEnds typed (with_end cables p q)
    same = SameEnds-from_arcs typed (with_end cables p q) t.arcs

    by : (b : Bool) → passes cables p q ≡ b → bound ≤ cost s typed
    by true e =
        let back = end-from_comes_to cables p most_steps q e in
        absurd (circle_not_legal s cables typed p q (same p ∙ end_moved cables p q start) (λ r n. same r ∙ end_elsewhere cables p q r n)
        (record { steps = back.0; there = back.2 }) l)
    by false e = absurd (closed (start, λ h. absurd (cc)))
