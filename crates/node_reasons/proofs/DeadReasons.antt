-- Reasons of loads, walks and powers over all used arcs.
use Rattle.std.proofs.Common.{◌≡◌, ℕ, List, length, take, arith, sym, ◌∙◌, subst}
use Rattle.std.proofs.lemmas.List.{take_all}
use Rattle.cable_definitions.specs.declared.cable.Cable.{Cable}
use Rattle.cable_definitions.specs.declared.cable.Arc.{Arc}
use Rattle.cable_definitions.specs.declared.row.Mark.{Mark}
use Rattle.cable_definitions.specs.declared.row.Why.{Why}
use Rattle.cable_definitions.specs.declared.row.Why.TheVariants.{Row as RowWhy, Pair, Load, Loop, Power, Ceiling}
use Rattle.cable_definitions.specs.Site.{Site}
use Rattle.cable_definitions.specs.Row.{Row}
use Rattle.cable_definitions.specs.Tree.{used_cables, IsDead}
use Rattle.layout_laws.specs.Alike.{SameOuts, SameEnds}
use Rattle.layout_laws.proofs.Alike.{SameEnds-from_outs, load-same, walk_end-same, Starts-same}
use Rattle.node_reasons.specs.Reasons.{IsFlowReason, IsOverloaded, IsOverpowered}
use Rattle.node_reasons.specs.Used.{UsedList, AreUsed}

-- the reason is true of lists with the same ends of cables
pub flow_same : (s : Site) (xs ys : List Cable) → SameEnds xs ys → (why : Why) → IsFlowReason s xs why → IsFlowReason s ys why
flow_same s xs ys h (Load p) r = subst (IsOverloaded s p) (load-same s xs ys h p) r
flow_same s xs ys h (Loop p) r = (
  Starts-same xs ys h p r.0,
  (r.1.0, r.1.1, r.1.2, sym (walk_end-same xs ys h r.1.0 p) ∙ r.1.3),
)
flow_same s xs ys h (Power p) r = subst (IsOverpowered s p) (load-same s xs ys h p) r
flow_same s xs ys h (RowWhy row) r = absurd r
flow_same s xs ys h (Pair a b) r = absurd r
flow_same s xs ys h Ceiling r = absurd r

-- the gathered cables have the ends of the used cables
pub used_ends : (arcs : List Arc) (marks : List Mark) (used : UsedList) (cables : List Cable) → AreUsed arcs marks used → length marks ≡ length arcs → cables ≡ used.cables → SameEnds cables (used_cables arcs marks)
used_ends arcs marks used cables u e same =
    let all_arcs : take (length arcs) arcs ≡ arcs = take_all (length arcs) arcs (omega arith) in
    let all_marks : take (length arcs) marks ≡ marks = take_all (length arcs) marks (omega arith) in
    SameEnds-from_outs cables (used_cables arcs marks)
    (subst (λ (xs : List Cable). SameOuts xs (used_cables arcs marks)) (sym same)
    (subst (SameOuts used.cables) (λ i. used_cables (all_arcs i) (all_marks i)) u.outs))

-- so their reason is one of the node
pub flow_dead : (s : Site) (arcs : List Arc) (rows : List Row) (marks : List Mark) (bound : ℕ) (cables : List Cable) → SameEnds cables (used_cables arcs marks) → (why : Why) → IsFlowReason s cables why → IsDead s arcs rows marks bound why
flow_dead s arcs rows marks bound cables h why r = by_reason why (flow_same s cables (used_cables arcs marks) h why r)
  where
    by_reason : (w : Why) → IsFlowReason s (used_cables arcs marks) w → IsDead s arcs rows marks bound w
    by_reason (Load p) k = k
    by_reason (Loop p) k = k
    by_reason (Power p) k = k
    by_reason (RowWhy row) k = absurd k
    by_reason (Pair a b) k = absurd k
    by_reason Ceiling k = absurd k

back_ends : (xs ys : List Cable) → SameEnds xs ys → SameEnds ys xs
back_ends xs ys h = λ p. sym (h p)

-- a reason of a load, a walk or a power
abbrev pub IsFlow : Why → Type 0
IsFlow (Load p) = Unit {0}
IsFlow (Loop p) = Unit {0}
IsFlow (Power p) = Unit {0}
IsFlow (RowWhy row) = ⊥
IsFlow (Pair a b) = ⊥
IsFlow Ceiling = ⊥

-- and such a reason of the node is theirs
pub dead_flow : (s : Site) (arcs : List Arc) (rows : List Row) (marks : List Mark) (bound : ℕ) (cables : List Cable) → SameEnds cables (used_cables arcs marks) → (why : Why) → IsFlow why → IsDead s arcs rows marks bound why → IsFlowReason s cables why
dead_flow s arcs rows marks bound cables h why is d = by_reason why is d
  where
    back : (w : Why) → IsFlowReason s (used_cables arcs marks) w → IsFlowReason s cables w
    back w k = flow_same s (used_cables arcs marks) cables (back_ends cables (used_cables arcs marks) h) w k

    by_reason : (w : Why) → IsFlow w → IsDead s arcs rows marks bound w → IsFlowReason s cables w
    by_reason (Load p) i k = back (Load p) k
    by_reason (Loop p) i k = back (Loop p) k
    by_reason (Power p) i k = back (Power p) k
    by_reason (RowWhy row) i k = absurd i
    by_reason (Pair a b) i k = absurd i
    by_reason Ceiling i k = absurd i
