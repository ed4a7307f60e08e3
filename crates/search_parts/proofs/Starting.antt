-- The layout that a search begins with, and how a layout is settled.
use Rattle.std.proofs.Common.{◌≡◌, ℕ, ◌<◌, ◌≤◌, ◌⊎◌, inl, inr, List, get_or, slice_get, Some, sym, ◌∙◌, ap, subst, arith}
use Rattle.std.specs.Prelude.{AllPairs}
use Rattle.std.proofs.lemmas.Option.{slice_get-get_or}
use Rattle.cable_definitions.specs.declared.cable.Cable.{Cable}
use Rattle.cable_definitions.specs.declared.cable.Rule.TheVariants.{Start}
use Rattle.cable_definitions.specs.Site.{Site}
use Rattle.cable_definitions.specs.Walk.{cable_out}
use Rattle.cable_definitions.specs.Layout.{IsLegal, cost}
use Rattle.cable_definitions.specs.Part.{IsBlocked, IsSettled, IsStraight}
use Rattle.layout_laws.specs.Alike.{StartsDiffer, SameOuts}
use Rattle.layout_laws.proofs.Alike.{cost-ordered}
use Rattle.layout_laws.proofs.Arcs.{IsBlocked-ordered, IsSettled-ordered}
use Rattle.layout_meaning.specs.Order.{ComesBefore}
use Rattle.start_layout.specs.declared.starting.Start.{Start as AStart}
use Rattle.start_layout.specs.declared.starting.Start.TheVariants.{Found, Stuck}
use Rattle.search_parts.specs.declared.start.Settled.{Settled}
use Rattle.search_parts.specs.declared.start.Incumbent.TheVariants.{Known, Part}
use Rattle.search_parts.specs.Start.{IsIncumbent, IsStuckPart, BeatsStraight, IsSettledBest}
use Rattle.search_parts.proofs.Ordered.{same-ordered, same-stable}

-- where no two cables start alike, those of an arranged layout stand in ascending order of start
pub arranged-starts : (cables : List Cable) → StartsDiffer cables → AllPairs ComesBefore cables → AllPairs (λ c d. c.from < d.from) cables
arranged-starts cables differ up i j c l within =
    let first = get_or cables i c in
    let second = get_or cables j c in
    let at_first : slice_get cables i ≡ Some first = slice_get-get_or cables i c (omega arith) in
    let at_second : slice_get cables j ≡ Some second = slice_get-get_or cables j c within in
    let other = differ j i second first at_second at_first l in
    elim (up i j c l within) [
      | inl h ↦ h
      | inr h ↦ (let same = h.0 in omega (arith, same, other))
    ]

-- a part in another order
pub stuck_part : (s : Site) (part cables : List Cable) (stuck : ℕ) → IsBlocked s part stuck → (StartsDiffer part → StartsDiffer cables) → (StartsDiffer part → SameOuts part cables)
    → AllPairs ComesBefore cables → IsStuckPart s cables stuck
stuck_part s part cables stuck blocked differ outs up =
    let apart : StartsDiffer part = λ i. blocked.grown Start i 0 (λ x. absurd (cc)) in
    record {
      blocked = IsBlocked-ordered s part cables (differ apart) (outs apart) stuck blocked;
      in_order = arranged-starts cables (differ apart) up;
    }

-- what improves a layout makes it no dearer
no_dearer : (s : Site) (first better : List Cable) → (IsSettled s first → better ≡ first) → (¬ (IsSettled s first) → cost s better < cost s first) → cost s better ≤ cost s first
no_dearer s first better same less = elim (either (cost s better) (cost s first)) [
  | inl l ↦ l
  | inr m ↦ absurd (let l = less (λ settled. let e = ap (cost s) (same settled) in omega (arith, e, m)) in omega (arith, l, m))
]
  where
    either : (x y : ℕ) → (x ≤ y) ⊎ (y < x)
    either x y = grind arith

-- an improved layout in another order
pub settled_best : (s : Site) (first better arranged cables : List Cable) (best : ℕ) → IsSettled s better → (IsSettled s first → better ≡ first) → (¬ (IsSettled s first) → cost s better < cost s first)
    → (StartsDiffer better → StartsDiffer arranged) → (StartsDiffer better → SameOuts better arranged) → cables ≡ arranged → IsIncumbent s arranged best → IsSettledBest s first cables best
settled_best s first better arranged cables best settled same less differ outs e is_best =
    subst (λ (xs : List Cable). IsSettledBest s first xs best) (sym e) (record {
      settled = IsSettled-ordered s better arranged (differ settled.legal.start) (outs settled.legal.start) settled;
      is_best = is_best;
      no_dearer = (let low = no_dearer s first better same less in let moved = as_dear in let is = is_best.cost_is in omega (arith, low, moved, is));
      same = λ not_below up.
          let is : better ≡ first = same-stable better first (λ other. not_below (let below = less (λ is. other (same is)) in let moved = as_dear in let cost_is = is_best.cost_is in omega (arith, below, moved, cost_is))) in
          same-ordered arranged first is_best.in_order up (λ p. sym (outs settled.legal.start p) ∙ ap (λ (xs : List Cable). cable_out xs p) is);
    })
  where
    as_dear : cost s better ≡ cost s arranged
    as_dear = cost-ordered s better arranged settled.legal.start (differ settled.legal.start) (outs settled.legal.start)

-- where the growth is stuck, the straight layout isn't legal
pub stuck-straight : (s : Site) (start : AStart) (part cables : List Cable) (turbine : ℕ) → start ≡ Stuck part turbine
    → ((straight : List Cable) → IsStraight s straight → IsLegal s straight → (layout : List Cable) × (price : ℕ) × (start ≡ Found layout price) × (price ≤ cost s straight)) → BeatsStraight s (Part cables turbine)
stuck-straight s start part cables turbine e within straight is legal =
    let w = within straight is legal in
    let both : Stuck part turbine ≡ Found w.0 w.1 = sym e ∙ w.2 in
    cc

-- what is found and then settled costs no more than the straight layout
pub found-straight : (s : Site) (start : AStart) (layout : List Cable) (price : ℕ) (settled : Settled) → start ≡ Found layout price → cost s layout ≡ price → IsSettledBest s layout settled.layout settled.cost
    → ((straight : List Cable) → IsStraight s straight → IsLegal s straight → (layout : List Cable) × (price : ℕ) × (start ≡ Found layout price) × (price ≤ cost s straight)) → BeatsStraight s (Known settled)
found-straight s start layout price settled e costs best within straight is legal =
    let w = within straight is legal in
    let both : Found layout price ≡ Found w.0 w.1 = sym e ∙ w.2 in
    let same : price ≡ w.1 = cc in
    let low = best.no_dearer in
    let most = w.3 in
    omega (arith, costs, same, low, most)
