-- Where a reason is true of a node, no legal layout lies in its box.
use Rattle.std.proofs.Common.{◌≡◌, ℕ, zero, suc, ◌+◌, ◌<◌, ◌≤◌, inl, inr, true, false, ◌≤ℤ◌, ◌<ℤ◌, List, length, Some, None, is_some, refl, ap, sym, ◌∙◌, arith}
use Rattle.std.specs.Prelude.{IsTrue, All}
use Rattle.std.proofs.lemmas.Int.{ints}
use Rattle.cable_definitions.specs.declared.cable.Cable.{Cable}
use Rattle.cable_definitions.specs.declared.cable.Arc.{Arc}
use Rattle.cable_definitions.specs.declared.row.Mark.{Mark}
use Rattle.cable_definitions.specs.declared.row.Why.{Why}
use Rattle.cable_definitions.specs.declared.row.Why.TheVariants.{Row as RowWhy, Pair, Load, Loop, Power, Ceiling}
use Rattle.cable_definitions.specs.declared.site.Kind.{Kind}
use Rattle.cable_definitions.specs.declared.site.Kind.TheVariants.{Turbine, Substation, Bend}
use Rattle.cable_definitions.specs.Site.{Site, IsValid}
use Rattle.cable_definitions.specs.Arcs.{AreArcs, kind_of, is_substation, power_of, power_of_kind, largest_capacity}
use Rattle.cable_definitions.specs.Walk.{cable_out, walk_end, most_steps, load, load_into, starts_in, ends_in}
use Rattle.cable_definitions.specs.Layout.{IsLegal, Starts, cost}
use Rattle.cable_definitions.specs.Row.{Row, right, power_limit, IsWellFormed}
use Rattle.cable_definitions.specs.Choice.{IsInBox}
use Rattle.cable_definitions.specs.Tree.{used_cables, counted, CannotMeet, IsUsedPair, IsDead, ceiling}
use Rattle.layout_laws.proofs.Alike.{cable_out-from, cable_out-place}
use Rattle.layout_laws.proofs.Walking.{none-from_Starts, out_cases, no_return}
use Rattle.layout_laws.proofs.Flow.{load-flow}
use Rattle.layout_laws.proofs.Ending.{WalksEnd-legal, load_into-substation}
use Rattle.layout_laws.proofs.Typing.{all-at}
use Rattle.proof_laws.proofs.Costs.{cost-ceiling}
use Rattle.proof_laws.proofs.Compatible.{none_incompatible}
use Rattle.proof_laws.proofs.Points.{starts_in-none, load_into-none, bend_point, substation_kind, turbine_out, load-most}
use Rattle.proof_laws.proofs.RowsHold.{rows-hold}
use Rattle.proof_laws.proofs.Choices.{choices-below, choices-above, left-choices}
use Rattle.proof_laws.proofs.Within.{used_on, used_within, walk_within-going, load_within}

-- no legal layout lies in a box in which a well-formed row can't be met
pub none-row : (s : Site) (arcs : List Arc) (marks : List Mark) (row : Row) → IsValid s → AreArcs s arcs → IsWellFormed s arcs row → CannotMeet s arcs marks row
    → (cables : List Cable) → IsLegal s cables → ¬ (IsInBox arcs marks cables)
none-row s arcs marks row v are formed cannot cables g box =
    let holds = rows-hold s arcs cables row v are formed g in
    let sum = left-choices s cables g row arcs in
    elim cannot [
      | inl above ↦
          let most = choices-below s cables v g (counted row) 0 arcs marks above.1.extremes box above.1.are_extremes in
          let total = above.1.sum in
          let below : above.0 <ℤ right s row.kind row.members = above.2 in
          let enough : right s row.kind row.members ≤ℤ _ = holds.0 in
          omega (arith, ints, sum, most, total, below, enough)
      | inr below ↦
          let least = choices-above s cables v g (counted row) 0 arcs marks below.1.1.extremes box below.1.1.are_extremes in
          let total = below.1.1.sum in
          let above : right s row.kind row.members <ℤ below.1.0 = below.1.2 in
          let same = holds.1 below.0 in
          omega (arith, ints, sum, least, total, above, same)
    ]

-- nor in one with two incompatible used arcs
pub none-pair : (s : Site) (arcs : List Arc) (marks : List Mark) (a b : ℕ) → IsUsedPair s arcs marks a b → (cables : List Cable) → IsLegal s cables → ¬ (IsInBox arcs marks cables)
none-pair s arcs marks a b u cables g box =
    none_incompatible s cables g u.first u.second (used_on arcs marks cables box a u.first u.first_is u.first_used) (used_on arcs marks cables box b u.second u.second_is u.second_used) u.incompatible

-- nor in one where a cable would carry more than any type bears
pub none-load : (s : Site) (arcs : List Arc) (marks : List Mark) (p : ℕ) → p < length s.points → ¬ IsTrue (is_substation (kind_of s p)) → largest_capacity s < load s (used_cables arcs marks) p
    → (cables : List Cable) → IsLegal s cables → ¬ (IsInBox arcs marks cables)
none-load s arcs marks p within free heavy cables g box =
    let more = load_within s (used_cables arcs marks) cables (used_within arcs marks cables g.start box) p in
    elim (out_cases cables p) [
      | inr w ↦
          let place = cable_out-place cables p w.0 w.1 in
          let most = load-most s cables g place.0 w.0 place.1 in
          let from : load s cables w.0.from ≡ load s cables p = ap (load s cables) (cable_out-from cables p w.0 w.1) in
          omega (arith, more, most, from, heavy)
      | inl n ↦
          let flow = load-flow s cables g.start (WalksEnd-legal s cables g) p in
          let none = nothing n (kind_of s p) refl in
          omega (arith, more, flow, none, heavy)
    ]
  where
    nothing : cable_out cables p ≡ None → (k : Kind) → kind_of s p ≡ k → power_of s p + load_into s cables p ≡ 0
    nothing n (Turbine power) k = absurd (let r = turbine_out s cables g p (rw k refl) in let q : None ≡ Some r.0 = sym n ∙ r.1 in cc)
    nothing n (Substation feeders power) k = absurd (free (rw k refl))
    nothing n Bend k =
        let point = bend_point s p within k in
        let as_many : starts_in cables p ≡ ends_in cables p = (g.bend p).as_many point.0 point.1 point.2 in
        let ended : ends_in cables p ≡ 0 = sym as_many ∙ starts_in-none cables g.start p n in
        let own : power_of s p ≡ 0 = ap power_of_kind k in
        omega (arith, load_into-none s cables p ended, own)

-- nor in one where a used walk returns to its start
pub none-loop : (s : Site) (arcs : List Arc) (marks : List Mark) (p k : ℕ) → Starts (used_cables arcs marks) p → 1 ≤ k → walk_end k (used_cables arcs marks) p ≡ p
    → (cables : List Cable) → IsLegal s cables → ¬ (IsInBox arcs marks cables)
none-loop s arcs marks p zero st some back cables g box = absurd (omega arith)
none-loop s arcs marks p (suc k) st some back cables g box = elim (out_cases (used_cables arcs marks) p) [
  | inl n ↦ absurd (let q : false ≡ true = ap is_some (sym n) ∙ st in cc)
  | inr w ↦
      let part = used_cables arcs marks in
      let within = used_within arcs marks cables g.start box in
      let on = within p w.0 w.1 in
      let there : walk_end (suc k) cables p ≡ walk_end (suc k) part p = walk_within-going part cables within (suc k) p w.0 (ap (cable_out part) back ∙ w.1) in
      let ended = none-from_Starts cables (walk_end most_steps cables p) (WalksEnd-legal s cables g p) in
      let none : cable_out cables p ≡ None = no_return cables p most_steps k ended (there ∙ back) in
      let q : Some on.0 ≡ None = sym on.1 ∙ none in
      absurd (cc)
]

-- nor in one where more would come to a substation than its power
pub none-power : (s : Site) (arcs : List Arc) (marks : List Mark) (p : ℕ) → IsTrue (is_substation (kind_of s p)) → power_limit (kind_of s p) < load s (used_cables arcs marks) p
    → (cables : List Cable) → IsLegal s cables → ¬ (IsInBox arcs marks cables)
none-power s arcs marks p substation heavy cables g box =
    let more = load_within s (used_cables arcs marks) cables (used_within arcs marks cables g.start box) p in
    let into = load_into-substation s cables g.start (WalksEnd-legal s cables g) p substation in
    let kind = substation_kind (kind_of s p) substation in
    let most : load_into s cables p ≤ kind.1 = g.power p kind.0 kind.1 kind.2 in
    let limit : power_limit (kind_of s p) ≡ kind.1 = ap power_limit kind.2 in
    omega (arith, more, into, most, limit, heavy)

-- nor in one where each would cost more than the ceiling
pub none-ceiling : (s : Site) (arcs : List Arc) (marks : List Mark) (bound : ℕ) → AreArcs s arcs → ((cables : List Cable) → IsLegal s cables → IsInBox arcs marks cables → bound ≤ cost s cables)
    → ceiling s arcs < bound → (cables : List Cable) → IsLegal s cables → ¬ (IsInBox arcs marks cables)
none-ceiling s arcs marks bound are holds above cables g box = let a = holds cables g box in let b = cost-ceiling s arcs cables are g in omega (arith, a, b)

-- where any reason is true, no legal layout lies in the box
pub none-dead : (s : Site) (arcs : List Arc) (rows : List Row) (marks : List Mark) (bound : ℕ) (why : Why) → IsValid s → AreArcs s arcs → All (IsWellFormed s arcs) rows
    → ((cables : List Cable) → IsLegal s cables → IsInBox arcs marks cables → bound ≤ cost s cables)
    → IsDead s arcs rows marks bound why → (cables : List Cable) → IsLegal s cables → ¬ (IsInBox arcs marks cables)
none-dead s arcs rows marks bound (RowWhy r) v are formed holds d = none-row s arcs marks d.0 v are (all-at (IsWellFormed s arcs) rows r d.0 formed d.1) d.2
none-dead s arcs rows marks bound (Pair a b) v are formed holds d = none-pair s arcs marks a b d.1
none-dead s arcs rows marks bound (Load p) v are formed holds d = none-load s arcs marks p d.0 d.1 d.2
none-dead s arcs rows marks bound (Loop p) v are formed holds d = none-loop s arcs marks p d.1.0 d.0 d.1.1 d.1.3
none-dead s arcs rows marks bound (Power p) v are formed holds d = none-power s arcs marks p d.0 d.1
none-dead s arcs rows marks bound Ceiling v are formed holds d = none-ceiling s arcs marks bound are holds d
