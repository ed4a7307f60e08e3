-- Bounds of unworked nodes after a work.
use Rattle.std.proofs.Common.{◌≡◌, ℕ, zero, suc, ◌-◌, ◌<◌, ◌≤◌, ◌⊎◌, inl, inr, List, [], ◌∷◌, ◌++◌, slice_get, Some, Option, sym, ◌∙◌, ap, subst, arith}
use Rattle.std.specs.Prelude.{slice_set, ℤ}
use Rattle.cable_definitions.specs.declared.cable.Cable.{Cable}
use Rattle.cable_definitions.specs.declared.cable.Arc.{Arc}
use Rattle.cable_definitions.specs.declared.row.Mark.TheVariants.{Used, Unused}
use Rattle.cable_definitions.specs.declared.row.Act.{Act}
use Rattle.cable_definitions.specs.declared.row.Act.TheVariants.{Split, Stop, Dead, Full}
use Rattle.cable_definitions.specs.declared.row.Why.TheVariants.{Ceiling}
use Rattle.cable_definitions.specs.Site.{Site}
use Rattle.cable_definitions.specs.Layout.{cost}
use Rattle.cable_definitions.specs.Tree.{Unworked, WasSplit, Stopped, WasDead, WasFull, Node, ProofState, node_of, marks_of, worked, child, ceiling, IsActed}
use Rattle.cable_definitions.specs.Core.{IsChosen}
use Rattle.proof_laws.proofs.Boxes.{set_either, append_either}
use Rattle.search_laws.specs.Cores.{AreCapped}
use Rattle.search_laws.proofs.Acting.{now_split}

-- one node is worked
capped-set : (s : Site) (arcs : List Arc) (nodes : List Node) (v : ℕ) (node y : Node) → node_of nodes v ≡ Some node → AreCapped s arcs nodes → ¬ (y.status ≡ Unworked) → AreCapped s arcs (slice_set nodes (v - 1) y)
capped-set s arcs nodes zero node y e capped here u x f unworked = absurd (cc)
capped-set s arcs nodes (suc i) node y e capped here zero x f unworked = absurd (cc)
capped-set s arcs nodes (suc i) node y e capped here (suc j) x f unworked =
    let q : suc i - 1 ≡ i = omega arith in
    elim (set_either nodes i y node e j x (subst (λ (k : ℕ). slice_get (slice_set nodes k y) j ≡ Some x) q f)) [
      | inl r ↦ absurd (here (ap (λ (z : Node). z.status) r.1 ∙ unworked))
      | inr r ↦ capped (suc j) x r.1 unworked
    ]

-- two nodes were made with one bound
capped-made : (s : Site) (arcs : List Arc) (nodes : List Node) (v bound a : ℕ) → AreCapped s arcs nodes → bound ≤ ceiling s arcs
    → AreCapped s arcs (nodes ++ child v bound a Used ∷ child v bound a Unused ∷ [])
capped-made s arcs nodes v bound a capped low zero x f unworked = absurd (cc)
capped-made s arcs nodes v bound a capped low (suc j) x f unworked = elim (append_either nodes (child v bound a Used ∷ child v bound a Unused ∷ []) j x f) [
  | inl e ↦ capped (suc j) x e unworked
  | inr r ↦ made r.0 r.2
]
  where
    made : (k : ℕ) → slice_get (child v bound a Used ∷ child v bound a Unused ∷ []) k ≡ Some x → x.bound ≤ ceiling s arcs
    made zero e = (let same : child v bound a Used ≡ x = cc in subst (λ (z : Node). z.bound ≤ ceiling s arcs) same low)
    made (suc zero) e = (let same : child v bound a Unused ≡ x = cc in subst (λ (z : Node). z.bound ≤ ceiling s arcs) same low)
    made (suc (suc k)) e = absurd (cc)

-- what isn't above is at most
at_most : (b c : ℕ) → ¬ (c < b) → b ≤ c
at_most b c h = elim (either b c) [ inl l ↦ l | inr l ↦ absurd (h l) ]
  where
    either : (x y : ℕ) → (x ≤ y) ⊎ (y < x)
    either x y = grind arith

-- a work leaves no unworked node with a bound above the ceiling
pub capped-after : (s : Site) (arcs : List Arc) (kept : ProofState) (v : ℕ) (node : Node) (value : ℤ) (act : Act) (nodes : List Node) (w : Node) (weights : List (ℕ × ℤ)) (known : Option (List Cable))
    → node_of kept.nodes v ≡ Some node → IsActed s arcs kept v node value act nodes → node_of nodes v ≡ Some w → IsChosen s arcs kept known weights (marks_of arcs kept.nodes v) w.bound act
    → AreCapped s arcs kept.nodes → AreCapped s arcs nodes
capped-after s arcs kept v node value (Split a) nodes w weights known e acted f chosen capped =
    let more : List Node = child v acted.0 a Used ∷ child v acted.0 a Unused ∷ [] in
    let is : worked node acted.0 WasSplit ≡ w = now_split kept.nodes more v node (worked node acted.0 WasSplit) w e (subst (λ (ns : List Node). node_of ns v ≡ Some w) acted.3 f) in
    let bound : acted.0 ≡ w.bound = ap (λ (x : Node). x.bound) is in
    let low = at_most w.bound (ceiling s arcs) (chosen.0 Ceiling) in
    subst (AreCapped s arcs) (sym acted.3)
    (capped-made s arcs (slice_set kept.nodes (v - 1) (worked node acted.0 WasSplit)) v acted.0 a
    (capped-set s arcs kept.nodes v node (worked node acted.0 WasSplit) e capped (λ h. cc)) (omega (arith, bound, low)))
capped-after s arcs kept v node value Stop nodes w weights known e acted f chosen capped =
    subst (AreCapped s arcs) (sym acted.2) (capped-set s arcs kept.nodes v node (worked node acted.0 Stopped) e capped (λ h. cc))
capped-after s arcs kept v node value (Dead why) nodes w weights known e acted f chosen capped =
    subst (AreCapped s arcs) (sym acted.3) (capped-set s arcs kept.nodes v node (worked node acted.0 WasDead) e capped (λ h. cc))
capped-after s arcs kept v node value Full nodes w weights known e acted f chosen capped =
    subst (AreCapped s arcs) (sym acted.2) (capped-set s arcs kept.nodes v node (worked node (cost s acted.0) WasFull) e capped (λ h. cc))
