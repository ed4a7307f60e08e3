-- Works that are done, and works that are refused for their act.
use Rattle.std.proofs.Common.{◌≡◌, ℕ, ◌-◌, ◌<◌, ◌≤◌, inl, inr, ℤ, List, length, refl, sym, ap, ◌∙◌, subst, arith}
use Rattle.std.specs.Prelude.{slice_set}
use Rattle.std.specs.List.{enumerate_from}
use Rattle.std.proofs.lemmas.List.{length-map}
use Rattle.std.proofs.lemmas.List.FromFn.{length-enumerate_from}
use Rattle.std.proofs.lemmas.Option.{same_Some, slice_get_within}
use Rattle.cable_definitions.specs.declared.cable.Arc.{Arc as CandidateArc}
use Rattle.cable_definitions.specs.declared.row.Mark.{Mark}
use Rattle.cable_definitions.specs.declared.row.Mark.TheVariants.{Free}
use Rattle.cable_definitions.specs.declared.row.Act.{Act}
use Rattle.cable_definitions.specs.declared.row.Act.TheVariants.{Split, Stop, Dead as DeadAct, Full as FullAct}
use Rattle.cable_definitions.specs.declared.claim.Cause.{Cause}
use Rattle.cable_definitions.specs.declared.claim.Cause.TheVariants.{Limit, Node as NodeCause, Weight, Arc as ArcCause, Dead, Full}
use Rattle.cable_definitions.specs.Site.{Site}
use Rattle.cable_definitions.specs.Row.{Row}
use Rattle.cable_definitions.specs.Choice.{AreLawful, IsValue}
use Rattle.cable_definitions.specs.Tree.{Node, ProofState, WasFull, mark_in, marks_of, worked, IsBound, IsDead, IsActed, IsWorked}
use Rattle.cable_definitions.specs.Refusal.{IsWorkable, IsActRefused, IsWorkRefused, cause_number, IsLeastCause}
use Rattle.proof_laws.proofs.NearestValue.{value-same, bound-same}
use Rattle.branch_tree.specs.State.{TreeState, nodes_after, tree_after, ActIsWithin}
use Rattle.node_reasons.specs.Node.{NodeParts}
use Rattle.proof_checker.specs.State.{kept_from}
use Rattle.proof_checker.specs.Acts.{MayAct, MayNotAct}

-- ---- marks
-- there is a mark for each arc
pub marks_count : (arcs : List CandidateArc) (nodes : List Node) (v : ℕ) → length (marks_of arcs nodes v) ≡ length arcs
marks_count arcs nodes v = length-map (enumerate_from 0 arcs) (λ (p : ℕ × CandidateArc). mark_in v nodes p.0 v) ∙ length-enumerate_from 0 arcs

-- an act that may be done splits on an arc that has a mark
pub act_within : (s : Site) (arcs : List CandidateArc) (rows : List Row) (marks : List Mark) (bound after : ℕ) (act : Act)
    → MayAct s arcs rows marks bound act after → ActIsWithin (length marks) act
act_within s arcs rows marks bound after act h a e =
    let f : MayAct s arcs rows marks bound (Split a) after = subst (λ (other : Act). MayAct s arcs rows marks bound other after) e h in
    slice_get_within marks a Free f.0

-- ---- a work that is done
acted : (s : Site) (arcs : List CandidateArc) (kept : ProofState) (v : ℕ) (node : Node) (value : ℤ) (bound after : ℕ) (act : Act)
    → IsBound node.bound value bound → MayAct s arcs kept.rows (marks_of arcs kept.nodes v) bound act after
    → IsActed s arcs kept v node value act (nodes_after kept.nodes v node act after)
acted s arcs kept v node value bound after (Split a) b may = (after, subst (IsBound node.bound value) (sym may.1) b, may.0, refl)
acted s arcs kept v node value bound after Stop b may = (after, subst (IsBound node.bound value) (sym may) b, refl)
acted s arcs kept v node value bound after (DeadAct why) b may =
    (after, subst (IsBound node.bound value) (sym may.1) b, subst (λ (n : ℕ). IsDead s arcs kept.rows (marks_of arcs kept.nodes v) n why) (sym may.1) may.0, refl)
acted s arcs kept v node value bound after FullAct b may =
    (may.0, may.1, ap (λ (c : ℕ). slice_set kept.nodes (v - 1) (worked node c WasFull)) may.2)

-- a work with lawful weights whose act may be done is accepted
pub work_done : (s : Site) (arcs : List CandidateArc) (n : ℕ) (rows : List Row) (tree : TreeState) (v : ℕ) (weights : List (ℕ × ℤ)) (act : Act) (node : Node) (value : ℤ) (bound after : ℕ)
    → tree.works < n → IsWorkable (kept_from rows tree) v node → AreLawful rows weights → length weights ≤ 1024 → IsValue s arcs rows (marks_of arcs tree.nodes v) weights value
    → IsBound node.bound value bound → MayAct s arcs rows (marks_of arcs tree.nodes v) bound act after
    → IsWorked s arcs n (kept_from rows tree) v weights act (kept_from rows (tree_after tree v node act after))
work_done s arcs n rows tree v weights act node value bound after room workable lawful few is b may = record {
  node = node;
  made = workable.0;
  unworked = workable.1;
  weights_count = few;
  lawful = lawful;
  within_budget = room;
  value = value;
  is_value = is;
  acted = acted s arcs (kept_from rows tree) v node value bound after act b may;
  rows = refl;
  works = refl;
}

-- ---- a work that is refused for its act
-- the number of the cause that speaks of an act
own_number : Act → ℕ
own_number (Split a) = 8
own_number Stop = 8
own_number (DeadAct why) = 9
own_number FullAct = 10

own_cause : (s : Site) (arcs : List CandidateArc) (rows : List Row) (marks : List Mark) (bound : ℕ) (act : Act) (cause : Cause)
    → MayNotAct s arcs rows marks bound act cause → cause_number cause ≡ own_number act
unfolding own_number
own_cause s arcs rows marks bound (Split a) ArcCause h = refl
own_cause s arcs rows marks bound (DeadAct why) Dead h = refl
own_cause s arcs rows marks bound FullAct Full h = refl
own_cause s arcs rows marks bound act cause h = absurd h

-- an act is refused for no cause before its own
earlier_act : (s : Site) (arcs : List CandidateArc) (kept : ProofState) (v : ℕ) (weights : List (ℕ × ℤ)) (act : Act) (other : Cause)
    → cause_number other < own_number act → ¬ (IsActRefused s arcs kept v weights act other)
unfolding own_number
earlier_act s arcs kept v weights (Split a) ArcCause l h = absurd (omega (arith, l))
earlier_act s arcs kept v weights (Split a) other l h = absurd h
earlier_act s arcs kept v weights Stop other l h = absurd h
earlier_act s arcs kept v weights (DeadAct why) Dead l h = absurd (omega (arith, l))
earlier_act s arcs kept v weights (DeadAct why) other l h = absurd h
earlier_act s arcs kept v weights FullAct Full l h = absurd (omega (arith, l))
earlier_act s arcs kept v weights FullAct other l h = absurd h

-- no cause comes before that of the act
earlier_work : (s : Site) (arcs : List CandidateArc) (n : ℕ) (kept : ProofState) (v : ℕ) (weights : List (ℕ × ℤ)) (act : Act) (node : Node) → kept.works < n → IsWorkable kept v node
    → AreLawful kept.rows weights → length weights ≤ 1024 → (other : Cause) → cause_number other < own_number act → ¬ (IsWorkRefused s arcs n kept v weights act other)
earlier_work s arcs n kept v weights act node room w lawful few Limit l (inl h) = omega (arith, h, room)
earlier_work s arcs n kept v weights act node room w lawful few Limit l (inr h) = omega (arith, h, few)
earlier_work s arcs n kept v weights act node room w lawful few NodeCause l h = h node w
earlier_work s arcs n kept v weights act node room w lawful few Weight l h = h lawful
earlier_work s arcs n kept v weights act node room w lawful few other l h = earlier_act s arcs kept v weights act other l h

-- weights come before any act
weight_first : (act : Act) (other : Cause) → cause_number other < 7 → cause_number other < own_number act
unfolding own_number
weight_first (Split a) other l = omega (arith, l)
weight_first Stop other l = omega (arith, l)
weight_first (DeadAct why) other l = omega (arith, l)
weight_first FullAct other l = omega (arith, l)

-- a work whose weights aren't lawful is refused for them
pub weights_refused : (s : Site) (arcs : List CandidateArc) (n : ℕ) (kept : ProofState) (v : ℕ) (weights : List (ℕ × ℤ)) (act : Act) (node : Node) → kept.works < n → IsWorkable kept v node
    → length weights ≤ 1024 → ¬ (AreLawful kept.rows weights) → IsLeastCause (IsWorkRefused s arcs n kept v weights act) Weight
weights_refused s arcs n kept v weights act node room w few unlawful = record { holds = unlawful; least = earlier }
  where
    earlier : (other : Cause) → cause_number other < 7 → ¬ (IsWorkRefused s arcs n kept v weights act other)
    earlier Limit l (inl h) = omega (arith, h, room)
    earlier Limit l (inr h) = omega (arith, h, few)
    earlier NodeCause l h = h node w
    earlier Weight l h = omega (arith, l)
    earlier other l h = earlier_act s arcs kept v weights act other (weight_first act other l) h

-- a reason that isn't true with the new bound is true with no bound that the work may give
not_dead : (s : Site) (arcs : List CandidateArc) (kept : ProofState) (v : ℕ) (weights : List (ℕ × ℤ)) (node : Node) (value : ℤ) (bound : ℕ) (d : Node) (e : ℤ) (b : ℕ)
    → IsWorkable kept v node → IsValue s arcs kept.rows (marks_of arcs kept.nodes v) weights value → IsBound node.bound value bound
    → IsWorkable kept v d → IsValue s arcs kept.rows (marks_of arcs kept.nodes v) weights e → IsBound d.bound e b → b ≡ bound
not_dead s arcs kept v weights node value bound d e b w is k w2 is2 k2 =
    let same : d ≡ node = same_Some d node (sym w2.0 ∙ w.0) in
    let values : e ≡ value = value-same s arcs kept.rows (marks_of arcs kept.nodes v) weights e value is2 is in
    let first : IsBound node.bound e b = subst (λ (x : Node). IsBound x.bound e b) same k2 in
    bound-same node.bound value b bound (subst (λ (z : ℤ). IsBound node.bound z b) values first) k

held : (s : Site) (arcs : List CandidateArc) (n : ℕ) (kept : ProofState) (v : ℕ) (weights : List (ℕ × ℤ)) (act : Act) (cause : Cause) (node : Node) (value : ℤ) (bound : ℕ)
    → IsWorkable kept v node → IsValue s arcs kept.rows (marks_of arcs kept.nodes v) weights value → IsBound node.bound value bound
    → MayNotAct s arcs kept.rows (marks_of arcs kept.nodes v) bound act cause → IsWorkRefused s arcs n kept v weights act cause
held s arcs n kept v weights (Split a) ArcCause node value bound w is b h = h
held s arcs n kept v weights (DeadAct why) Dead node value bound w is b h =
    λ d. h (subst (λ (m : ℕ). IsDead s arcs kept.rows (marks_of arcs kept.nodes v) m why)
    (not_dead s arcs kept v weights node value bound d.0 d.1 d.2 w is b d.3 d.4 d.5) d.6)
held s arcs n kept v weights FullAct Full node value bound w is b h = h
held s arcs n kept v weights act cause node value bound w is b h = absurd h

-- a work with lawful weights whose act may not be done is refused for that
pub work_refused : (s : Site) (arcs : List CandidateArc) (n : ℕ) (kept : ProofState) (v : ℕ) (weights : List (ℕ × ℤ)) (act : Act) (cause : Cause) (node : Node) (value : ℤ) (bound : ℕ)
    → kept.works < n → IsWorkable kept v node → AreLawful kept.rows weights → length weights ≤ 1024 → IsValue s arcs kept.rows (marks_of arcs kept.nodes v) weights value → IsBound node.bound value bound
    → MayNotAct s arcs kept.rows (marks_of arcs kept.nodes v) bound act cause → IsLeastCause (IsWorkRefused s arcs n kept v weights act) cause
work_refused s arcs n kept v weights act cause node value bound room w lawful few is b h = record {
  holds = held s arcs n kept v weights act cause node value bound w is b h;
  least = λ other l. earlier_work s arcs n kept v weights act node room w lawful few other (let e = own_cause s arcs kept.rows (marks_of arcs kept.nodes v) bound act cause h in omega (arith, l, e));
}

-- ---- nodes as their reasons see them
-- what may be done on the box of a node may be done on the node
pub may-there : (s : Site) (arcs : List CandidateArc) (rows : List Row) (marks : List Mark) (node : NodeParts) (bound : ℕ) (act : Act) (after : ℕ) → node ≡ record { site = s; arcs = arcs; marks = marks }
    → MayAct node.site node.arcs rows node.marks bound act after → MayAct s arcs rows marks bound act after
may-there s arcs rows marks node bound act after same may = subst (λ (n : NodeParts). MayAct n.site n.arcs rows n.marks bound act after) same may

-- and what may not be done on it may not be done on the node
pub may-not-there : (s : Site) (arcs : List CandidateArc) (rows : List Row) (marks : List Mark) (node : NodeParts) (bound : ℕ) (act : Act) (cause : Cause) → node ≡ record { site = s; arcs = arcs; marks = marks }
    → MayNotAct node.site node.arcs rows node.marks bound act cause → MayNotAct s arcs rows marks bound act cause
may-not-there s arcs rows marks node bound act cause same not = subst (λ (n : NodeParts). MayNotAct n.site n.arcs rows n.marks bound act cause) same not
