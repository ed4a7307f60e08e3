-- The nodes that a work leaves.
use Rattle.std.proofs.Common.{◌≡◌, ◌≢◌, ℕ, zero, suc, ◌-◌, ◌≤◌, List, [], ◌∷◌, ◌++◌, slice_get, Some, sym, ◌∙◌, ap, subst, arith}
use Rattle.std.specs.Prelude.{slice_set, ℤ}
use Rattle.cable_definitions.specs.declared.cable.Arc.{Arc}
use Rattle.cable_definitions.specs.declared.row.Mark.TheVariants.{Used, Unused}
use Rattle.cable_definitions.specs.declared.row.Act.{Act}
use Rattle.cable_definitions.specs.declared.row.Act.TheVariants.{Split, Stop, Dead, Full}
use Rattle.cable_definitions.specs.Site.{Site}
use Rattle.cable_definitions.specs.Layout.{cost}
use Rattle.cable_definitions.specs.Tree.{WasSplit, Stopped, WasDead, WasFull, Node, ProofState, node_of, worked, child, IsActed}
use Rattle.proof_laws.proofs.Boxes.{set_here, set_other, append_left}
use Rattle.proof_laws.proofs.Sound.{set_at_node}

-- ---- one node is set
-- it is what it was set to
pub now_set : (nodes : List Node) (v : ℕ) (node y w : Node) → node_of nodes v ≡ Some node → node_of (slice_set nodes (v - 1) y) v ≡ Some w → y ≡ w
now_set nodes zero node y w e f = absurd (cc)
now_set nodes (suc i) node y w e f =
    let is : Some y ≡ Some w = sym (set_here nodes i node y e) ∙ sym (ap (λ (xs : List Node). slice_get xs i) (set_at_node i nodes y)) ∙ f in
    cc

-- also where others are appended
pub now_split : (nodes more : List Node) (v : ℕ) (node y w : Node) → node_of nodes v ≡ Some node → node_of (slice_set nodes (v - 1) y ++ more) v ≡ Some w → y ≡ w
now_split nodes more zero node y w e f = absurd (cc)
now_split nodes more (suc i) node y w e f =
    let here : slice_get (slice_set nodes (suc i - 1) y) i ≡ Some y = ap (λ (xs : List Node). slice_get xs i) (set_at_node i nodes y) ∙ set_here nodes i node y e in
    let is : Some y ≡ Some w = sym (append_left (slice_set nodes (suc i - 1) y) more i y here) ∙ f in
    cc

-- the others stay
pub other_set : (nodes : List Node) (v u : ℕ) (y x : Node) → 1 ≤ v → u ≢ v → node_of nodes u ≡ Some x → node_of (slice_set nodes (v - 1) y) u ≡ Some x
other_set nodes v zero y x some other e = absurd (cc)
other_set nodes v (suc j) y x some other e = set_other nodes (v - 1) j y (λ f. other (omega (arith, f, some))) ∙ e

pub other_split : (nodes more : List Node) (v u : ℕ) (y x : Node) → 1 ≤ v → u ≢ v → node_of nodes u ≡ Some x → node_of (slice_set nodes (v - 1) y ++ more) u ≡ Some x
other_split nodes more v zero y x some other e = absurd (cc)
other_split nodes more v (suc j) y x some other e = append_left (slice_set nodes (v - 1) y) more j x (other_set nodes v (suc j) y x some other e)

-- a made node has a number
pub some_number : (nodes : List Node) (v : ℕ) (node : Node) → node_of nodes v ≡ Some node → 1 ≤ v
some_number nodes zero node e = absurd (cc)
some_number nodes (suc i) node e = omega arith

-- ---- acts
-- an act leaves the other nodes as they were
pub other-acted : (s : Site) (arcs : List Arc) (kept : ProofState) (v : ℕ) (node : Node) (value : ℤ) (act : Act) (nodes : List Node) → node_of kept.nodes v ≡ Some node
    → IsActed s arcs kept v node value act nodes → (u : ℕ) (x : Node) → u ≢ v → node_of kept.nodes u ≡ Some x → node_of nodes u ≡ Some x
other-acted s arcs kept v node value (Split a) nodes e acted u x other f =
    subst (λ (ns : List Node). node_of ns u ≡ Some x) (sym acted.3)
    (other_split kept.nodes (child v acted.0 a Used ∷ child v acted.0 a Unused ∷ []) v u (worked node acted.0 WasSplit) x (some_number kept.nodes v node e) other f)
other-acted s arcs kept v node value Stop nodes e acted u x other f =
    subst (λ (ns : List Node). node_of ns u ≡ Some x) (sym acted.2) (other_set kept.nodes v u (worked node acted.0 Stopped) x (some_number kept.nodes v node e) other f)
other-acted s arcs kept v node value (Dead why) nodes e acted u x other f =
    subst (λ (ns : List Node). node_of ns u ≡ Some x) (sym acted.3) (other_set kept.nodes v u (worked node acted.0 WasDead) x (some_number kept.nodes v node e) other f)
other-acted s arcs kept v node value Full nodes e acted u x other f =
    subst (λ (ns : List Node). node_of ns u ≡ Some x) (sym acted.2) (other_set kept.nodes v u (worked node (cost s acted.0) WasFull) x (some_number kept.nodes v node e) other f)
