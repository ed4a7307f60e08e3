-- Stopped and full nodes after a work.
use Rattle.std.proofs.Common.{◌≡◌, ℕ, zero, suc, ◌-◌, ◌<◌, ◌≤◌, inl, inr, List, [], ◌∷◌, ◌++◌, slice_get, Some, None, Option, refl, sym, ◌∙◌, ap, subst, arith}
use Rattle.std.specs.Prelude.{slice_set, ℤ}
use Rattle.cable_definitions.specs.declared.cable.Cable.{Cable}
use Rattle.cable_definitions.specs.declared.cable.Arc.{Arc}
use Rattle.cable_definitions.specs.declared.row.Mark.{Mark}
use Rattle.cable_definitions.specs.declared.row.Mark.TheVariants.{Used, Unused}
use Rattle.cable_definitions.specs.declared.row.Act.{Act}
use Rattle.cable_definitions.specs.declared.row.Act.TheVariants.{Split, Stop, Dead, Full}
use Rattle.cable_definitions.specs.Site.{Site}
use Rattle.cable_definitions.specs.Layout.{IsLegal, cost}
use Rattle.cable_definitions.specs.Tree.{Unworked, WasSplit, Stopped, WasDead, WasFull, Node, ProofState, node_of, marks_of, worked, child, IsActed}
use Rattle.cable_definitions.specs.Core.{IsBelowKnown, IsChosen, KnownAfter}
use Rattle.proof_laws.proofs.Boxes.{set_either, append_either}
use Rattle.proof_laws.proofs.FullNodes.{full-one}
use Rattle.search_laws.specs.Cores.{IsStoppedOrFull, AreBeaten}
use Rattle.search_laws.proofs.Acting.{now_set}

-- what isn't below the old cost isn't below the new
abbrev pub StaysBeaten : Site → Option (List Cable) → Option (List Cable) → Type 0
StaysBeaten s old new = (b : ℕ) → ¬ (IsBelowKnown s old b) → ¬ (IsBelowKnown s new b)

-- the same layout
pub beaten-same : (s : Site) (old new : Option (List Cable)) → new ≡ old → StaysBeaten s old new
beaten-same s old new e b beaten = subst (λ (o : Option (List Cable)). ¬ (IsBelowKnown s o b)) (sym e) beaten

-- a cheaper one
pub beaten-cheaper : (s : Site) (old : Option (List Cable)) (cables : List Cable) → IsBelowKnown s old (cost s cables) → StaysBeaten s old (Some cables)
beaten-cheaper s None cables cheaper b beaten = absurd (beaten tt)
beaten-cheaper s (Some known) cables cheaper b beaten = λ below. beaten (omega (arith, cheaper, below))

-- ---- nodes
-- another known layout
pub beaten-known : (s : Site) (old new : Option (List Cable)) (nodes : List Node) → StaysBeaten s old new → AreBeaten s old nodes → AreBeaten s new nodes
beaten-known s old new nodes stays beaten v node e settled = stays node.bound (beaten v node e settled)

-- one node was set
beaten-set : (s : Site) (known : Option (List Cable)) (nodes : List Node) (v : ℕ) (node y : Node) → node_of nodes v ≡ Some node → AreBeaten s known nodes
    → (IsStoppedOrFull y → ¬ (IsBelowKnown s known y.bound)) → AreBeaten s known (slice_set nodes (v - 1) y)
beaten-set s known nodes zero node y e beaten here u x f settled = absurd (cc)
beaten-set s known nodes (suc i) node y e beaten here zero x f settled = absurd (cc)
beaten-set s known nodes (suc i) node y e beaten here (suc j) x f settled =
    let q : suc i - 1 ≡ i = omega arith in
    elim (set_either nodes i y node e j x (subst (λ (k : ℕ). slice_get (slice_set nodes k y) j ≡ Some x) q f)) [
      | inl r ↦ subst (λ (z : Node). ¬ (IsBelowKnown s known z.bound)) r.1 (here (subst IsStoppedOrFull (sym r.1) settled))
      | inr r ↦ beaten (suc j) x r.1 settled
    ]

-- nodes that aren't worked are appended
beaten-made : (s : Site) (known : Option (List Cable)) (nodes : List Node) (v bound a : ℕ) → AreBeaten s known nodes → AreBeaten s known (nodes ++ child v bound a Used ∷ child v bound a Unused ∷ [])
beaten-made s known nodes v bound a beaten zero x f settled = absurd (cc)
beaten-made s known nodes v bound a beaten (suc j) x f settled = elim (append_either nodes (child v bound a Used ∷ child v bound a Unused ∷ []) j x f) [
  | inl e ↦ beaten (suc j) x e settled
  | inr r ↦ absurd (unsettled r.0 r.2)
]
  where
    not_settled : (z : Node) → z ≡ x → z.status ≡ Unworked → ⊥
    not_settled z e u = elim (subst IsStoppedOrFull (sym e) settled) [ inl p ↦ cc | inr p ↦ cc ]

    unsettled : (k : ℕ) → slice_get (child v bound a Used ∷ child v bound a Unused ∷ []) k ≡ Some x → ⊥
    unsettled zero e = not_settled (child v bound a Used) (cc) refl
    unsettled (suc zero) e = not_settled (child v bound a Unused) (cc) refl
    unsettled (suc (suc k)) e = cc

-- a split or a dead node isn't settled
unsettled-split : (node : Node) (bound : ℕ) → IsStoppedOrFull (worked node bound WasSplit) → ⊥
unsettled-split node bound (inl e) = cc
unsettled-split node bound (inr e) = cc

unsettled-dead : (node : Node) (bound : ℕ) → IsStoppedOrFull (worked node bound WasDead) → ⊥
unsettled-dead node bound (inl e) = cc
unsettled-dead node bound (inr e) = cc

-- ---- acts
-- a stop asks for a layout that costs no more than the bound
stopped-beaten : (s : Site) (known : Option (List Cable)) (cables : List Cable) (bound : ℕ) → known ≡ Some cables → cost s cables ≤ bound → ¬ (IsBelowKnown s known bound)
stopped-beaten s known cables bound e low below = (let b : bound < cost s cables = subst (λ (o : Option (List Cable)). IsBelowKnown s o bound) e below in omega (arith, b, low))

-- what a work does to the known layout leaves beaten what was
pub known-stays : (s : Site) (arcs : List Arc) (marks : List Mark) (act : Act) (old new : Option (List Cable)) → KnownAfter s act arcs marks old new → StaysBeaten s old new
known-stays s arcs marks (Split a) old new after = beaten-same s old new after
known-stays s arcs marks Stop old new after = beaten-same s old new after
known-stays s arcs marks (Dead why) old new after = beaten-same s old new after
known-stays s arcs marks Full old new after = elim after.2 [
  | inl takes ↦ subst (StaysBeaten s old) (sym takes.1) (beaten-cheaper s old after.0 takes.0)
  | inr stays ↦ beaten-same s old new stays.1
]

-- a full node's layout is beaten by the one that is known afterwards
full-beaten : (s : Site) (arcs : List Arc) (marks : List Mark) (old new : Option (List Cable)) (total : ℕ) → (after : KnownAfter s Full arcs marks old new) → total ≡ cost s after.0 → ¬ (IsBelowKnown s new total)
full-beaten s arcs marks old new total after e = elim after.2 [
  | inl takes ↦ subst (λ (o : Option (List Cable)). ¬ (IsBelowKnown s o total)) (sym takes.1) (λ (below : total < cost s after.0). omega (arith, below, e))
  | inr stays ↦ subst (λ (o : Option (List Cable)). ¬ (IsBelowKnown s o total)) (sym stays.1) (subst (λ (b : ℕ). ¬ (IsBelowKnown s old b)) (sym e) stays.0)
]

-- a work keeps all stopped and full nodes beaten
pub beaten-after : (s : Site) (arcs : List Arc) (kept : ProofState) (v : ℕ) (node : Node) (value : ℤ) (act : Act) (nodes : List Node) (w : Node) (weights : List (ℕ × ℤ)) (old new : Option (List Cable))
    → node_of kept.nodes v ≡ Some node → IsActed s arcs kept v node value act nodes → node_of nodes v ≡ Some w → IsChosen s arcs kept old weights (marks_of arcs kept.nodes v) w.bound act
    → KnownAfter s act arcs (marks_of arcs kept.nodes v) old new → AreBeaten s old kept.nodes → AreBeaten s new nodes
beaten-after s arcs kept v node value (Split a) nodes w weights old new e acted f chosen after beaten =
    subst (AreBeaten s new) (sym acted.3)
    (beaten-made s new (slice_set kept.nodes (v - 1) (worked node acted.0 WasSplit)) v acted.0 a
    (beaten-set s new kept.nodes v node (worked node acted.0 WasSplit) e (beaten-known s old new kept.nodes (beaten-same s old new after) beaten) (λ h. absurd (unsettled-split node acted.0 h))))
beaten-after s arcs kept v node value Stop nodes w weights old new e acted f chosen after beaten =
    let is : worked node acted.0 Stopped ≡ w = now_set kept.nodes v node (worked node acted.0 Stopped) w e (subst (λ (ns : List Node). node_of ns v ≡ Some w) acted.2 f) in
    let bound : w.bound ≡ acted.0 = sym (ap (λ (x : Node). x.bound) is) in
    subst (AreBeaten s new) (sym acted.2)
    (beaten-set s new kept.nodes v node (worked node acted.0 Stopped) e (beaten-known s old new kept.nodes (beaten-same s old new after) beaten)
    (λ h. beaten-same s old new after acted.0 (stopped-beaten s old chosen.0 acted.0 chosen.1 (subst (λ (b : ℕ). cost s chosen.0 ≤ b) bound chosen.2))))
beaten-after s arcs kept v node value (Dead why) nodes w weights old new e acted f chosen after beaten =
    subst (AreBeaten s new) (sym acted.3)
    (beaten-set s new kept.nodes v node (worked node acted.0 WasDead) e (beaten-known s old new kept.nodes (beaten-same s old new after) beaten) (λ h. absurd (unsettled-dead node acted.0 h)))
beaten-after s arcs kept v node value Full nodes w weights old new e acted f chosen after beaten =
    let marks : List Mark = marks_of arcs kept.nodes v in
    subst (AreBeaten s new) (sym acted.2)
    (beaten-set s new kept.nodes v node (worked node (cost s acted.0) WasFull) e (beaten-known s old new kept.nodes (known-stays s arcs marks Full old new after) beaten)
    (λ h. full-beaten s arcs marks old new (cost s acted.0) after (ap (cost s) (full-one s arcs marks acted.0 after.0 acted.1 after.1))))

-- a work leaves the known layout legal
pub legal-after : (s : Site) (arcs : List Arc) (marks : List Mark) (act : Act) (old new : Option (List Cable)) → KnownAfter s act arcs marks old new
    → ((cables : List Cable) → old ≡ Some cables → IsLegal s cables) → (cables : List Cable) → new ≡ Some cables → IsLegal s cables
legal-after s arcs marks (Split a) old new after legal cables e = legal cables (sym after ∙ e)
legal-after s arcs marks Stop old new after legal cables e = legal cables (sym after ∙ e)
legal-after s arcs marks (Dead why) old new after legal cables e = legal cables (sym after ∙ e)
legal-after s arcs marks Full old new after legal cables e = elim after.2 [
  | inl takes ↦ (let f : Some after.0 ≡ Some cables = sym takes.1 ∙ e in let same : after.0 ≡ cables = cc in subst (IsLegal s) same after.1.legal)
  | inr stays ↦ legal cables (sym stays.1 ∙ e)
]
