-- What an item that is accepted leaves is determined, and no cause refuses it.
use Rattle.std.proofs.Common.{◌≡◌, ℕ, ◌-◌, inl, inr, ℤ, List, [], ◌∷◌, ◌++◌, length, sym, ap, ◌∙◌, subst, arith}
use Rattle.std.specs.Prelude.{slice_set, sum_by}
use Rattle.std.proofs.lemmas.Option.{same_Some}
use Rattle.std.proofs.lemmas.List.{length_push}
use Rattle.std.proofs.lemmas.List.Sums.{sum_by-append}
use Rattle.cable_definitions.specs.declared.cable.Cable.{Cable}
use Rattle.cable_definitions.specs.declared.cable.Arc.{Arc}
use Rattle.cable_definitions.specs.declared.row.Mark.TheVariants.{Used, Unused}
use Rattle.cable_definitions.specs.declared.row.Act.{Act}
use Rattle.cable_definitions.specs.declared.row.Act.TheVariants.{Split, Stop, Dead as DeadAct, Full as FullAct}
use Rattle.cable_definitions.specs.declared.claim.Claim.{Claim}
use Rattle.cable_definitions.specs.declared.claim.Cause.{Cause}
use Rattle.cable_definitions.specs.declared.claim.Cause.TheVariants.{Row as RowCause, Limit, Node as NodeCause, Weight, Arc as ArcCause, Dead, Full, Layout, Verdict}
use Rattle.cable_definitions.specs.Site.{Site}
use Rattle.cable_definitions.specs.Layout.{cost}
use Rattle.cable_definitions.specs.Row.{Row}
use Rattle.cable_definitions.specs.Choice.{IsValue}
use Rattle.cable_definitions.specs.Tree.{Item, RowItem, WorkItem, ProofState, Node, WasSplit, Stopped, WasDead, WasFull, worked, child, marks_of, IsActed, IsWorked, IsListed, Accepts, Agrees}
use Rattle.cable_definitions.specs.Refusal.{IsRowRefused, IsWorkable, IsActRefused, IsWorkRefused, IsClaimRefused}
use Rattle.proof_laws.proofs.NearestValue.{value-same, bound-same}
use Rattle.proof_laws.proofs.FullNodes.{full-one}

-- ---- what an accepted item leaves is determined
acted_same : (s : Site) (arcs : List Arc) (kept : ProofState) (v : ℕ) (node : Node) (value : ℤ) (act : Act) (nodes others : List Node)
    → IsActed s arcs kept v node value act nodes → IsActed s arcs kept v node value act others → nodes ≡ others
acted_same s arcs kept v node value (Split a) nodes others (b, h, free, e) (c, k, kept_free, f) =
    e ∙ ap (λ (bound : ℕ). slice_set kept.nodes (v - 1) (worked node bound WasSplit) ++ child v bound a Used ∷ child v bound a Unused ∷ []) (bound-same node.bound value b c h k) ∙ sym f
acted_same s arcs kept v node value Stop nodes others (b, h, e) (c, k, f) =
    e ∙ ap (λ (bound : ℕ). slice_set kept.nodes (v - 1) (worked node bound Stopped)) (bound-same node.bound value b c h k) ∙ sym f
acted_same s arcs kept v node value (DeadAct why) nodes others (b, h, dead, e) (c, k, dies, f) =
    e ∙ ap (λ (bound : ℕ). slice_set kept.nodes (v - 1) (worked node bound WasDead)) (bound-same node.bound value b c h k) ∙ sym f
acted_same s arcs kept v node value FullAct nodes others (xs, h, e) (ys, k, f) =
    e ∙ ap (λ (cables : List Cable). slice_set kept.nodes (v - 1) (worked node (cost s cables) WasFull)) (full-one s arcs (marks_of arcs kept.nodes v) xs ys h k) ∙ sym f

kept_same : (a b : ProofState) → a.rows ≡ b.rows → a.nodes ≡ b.nodes → a.works ≡ b.works → a ≡ b
kept_same a b e f g = ap (λ (rows : List Row). record a { rows = rows }) e ∙ ap (λ (nodes : List Node). record a { rows = b.rows; nodes = nodes }) f ∙ ap (λ (works : ℕ). record b { works = works }) g

pub accept-same : (s : Site) (arcs : List Arc) (n : ℕ) (old : ProofState) (item : Item) (new other : ProofState) → Accepts s arcs n old item new → Accepts s arcs n old item other → new ≡ other
accept-same s arcs n old (RowItem row) new other h k = kept_same new other (h.rows ∙ sym k.rows) (h.nodes ∙ sym k.nodes) (h.works ∙ sym k.works)
accept-same s arcs n old (WorkItem v weights act) new other h k =
    let node = same_Some h.node k.node (sym h.made ∙ k.made) in
    let value = value-same s arcs old.rows (marks_of arcs old.nodes v) weights h.value k.value h.is_value k.is_value in
    let moved = subst (λ (m : Node). IsActed s arcs old v m h.value act new.nodes) node h.acted in
    let acted = subst (λ (z : ℤ). IsActed s arcs old v k.node z act new.nodes) value moved in
    kept_same new other (h.rows ∙ sym k.rows) (acted_same s arcs old v k.node k.value act new.nodes other.nodes acted k.acted) (h.works ∙ sym k.works)

-- ---- no cause refuses an accepted item
pub row-stands : (s : Site) (arcs : List Arc) (kept : ProofState) (row : Row) (new : ProofState) (cause : Cause) → IsListed s arcs kept row new → ¬ (IsRowRefused s arcs kept row cause)
row-stands s arcs kept row new RowCause l h = h l.well_formed
row-stands s arcs kept row new Limit l (inl h) =
    let e = ap length l.rows in
    omega (arith, h, l.rows_count, e, length_push kept.rows row)
row-stands s arcs kept row new Limit l (inr h) =
    let e = ap (sum_by (λ (r : Row). length r.members)) l.rows in
    omega (arith, h, l.members_count, e, sum_by-append (λ (r : Row). length r.members) kept.rows (row ∷ []))
row-stands s arcs kept row new cause l h = absurd h

act_stands : (s : Site) (arcs : List Arc) (kept : ProofState) (v : ℕ) (weights : List (ℕ × ℤ)) (act : Act) (cause : Cause) (node : Node) (value : ℤ) (nodes : List Node)
    → IsWorkable kept v node → IsValue s arcs kept.rows (marks_of arcs kept.nodes v) weights value → IsActed s arcs kept v node value act nodes
    → ¬ (IsActRefused s arcs kept v weights act cause)
act_stands s arcs kept v weights (Split a) ArcCause node value nodes w is acted h = h acted.2
act_stands s arcs kept v weights (DeadAct why) Dead node value nodes w is acted h = h (node, value, acted.0, w, is, acted.1, acted.2)
act_stands s arcs kept v weights FullAct Full node value nodes w is acted h = h acted.0 acted.1
act_stands s arcs kept v weights act cause node value nodes w is acted h = absurd h

pub work-stands : (s : Site) (arcs : List Arc) (n : ℕ) (kept : ProofState) (v : ℕ) (weights : List (ℕ × ℤ)) (act : Act) (new : ProofState) (cause : Cause)
    → IsWorked s arcs n kept v weights act new → ¬ (IsWorkRefused s arcs n kept v weights act cause)
work-stands s arcs n kept v weights act new Limit w (inl h) = omega (arith, h, w.within_budget)
work-stands s arcs n kept v weights act new Limit w (inr h) = omega (arith, h, w.weights_count)
work-stands s arcs n kept v weights act new NodeCause w h = h w.node (w.made, w.unworked)
work-stands s arcs n kept v weights act new Weight w h = h w.lawful
work-stands s arcs n kept v weights act new cause w h = act_stands s arcs kept v weights act cause w.node w.value new.nodes (w.made, w.unworked) w.is_value w.acted h

pub claim-stands : (s : Site) (n : ℕ) (kept : ProofState) (cables : List Cable) (claim : Claim) (cause : Cause) → Agrees s n kept cables claim → ¬ (IsClaimRefused s n kept cables claim cause)
claim-stands s n kept cables claim Layout a h = h a.0
claim-stands s n kept cables claim Verdict a h = h a.1
claim-stands s n kept cables claim cause a h = absurd h
