-- Sites with a turbine that no candidate arc leads out of.
use Rattle.std.proofs.Common.{◌≡◌, ℕ, inl, ◌-◌, List, length, Some, Option, refl, ◌∙◌, ap, subst}
use Rattle.std.specs.Prelude.{ℤ}
use Rattle.std.specs.List.{enumerate_from}
use Rattle.std.proofs.Math.ListN.{length-set}
use Rattle.std.proofs.lemmas.List.{length-map}
use Rattle.std.proofs.lemmas.List.FromFn.{length-enumerate_from}
use Rattle.cable_definitions.specs.declared.cable.Cable.{Cable}
use Rattle.cable_definitions.specs.declared.cable.Arc.{Arc}
use Rattle.cable_definitions.specs.declared.row.Mark.{Mark}
use Rattle.cable_definitions.specs.declared.row.RowKind.TheVariants.{Out}
use Rattle.cable_definitions.specs.declared.row.Act.{Act}
use Rattle.cable_definitions.specs.declared.row.Act.TheVariants.{Split, Stop, Dead, Full}
use Rattle.cable_definitions.specs.declared.row.Why.{Why}
use Rattle.cable_definitions.specs.declared.row.Why.TheVariants.{Row as RowWhy}
use Rattle.cable_definitions.specs.Site.{Site, IsValid}
use Rattle.cable_definitions.specs.Arcs.{AreArcs, IsCandidate}
use Rattle.cable_definitions.specs.Layout.{IsLegal}
use Rattle.cable_definitions.specs.Row.{Row}
use Rattle.cable_definitions.specs.Tree.{WasDead, Node, ProofState, mark_in, marks_of, worked, IsDead, IsActed}
use Rattle.cable_definitions.specs.Core.{IsChosen}
use Rattle.layout_laws.proofs.Typing.{all-at}
use Rattle.layout_laws.proofs.Nearest.{HasNone-no_arc}
use Rattle.proof_laws.specs.Decided.{HasPointRows}
use Rattle.proof_laws.proofs.RowsHold.{row_at}
use Rattle.proof_laws.proofs.FullLemma.{row_at-formed, within-turbine}
use Rattle.proof_laws.proofs.NoArc.{out-without_arcs}
use Rattle.run_definitions.specs.Plan.{HasIsolatedTurbine}

-- each arc has a mark
marks-count : (arcs : List Arc) (nodes : List Node) (v : ℕ) → length (marks_of arcs nodes v) ≡ length arcs
marks-count arcs nodes v = length-map (enumerate_from 0 arcs) (λ (x : ℕ × Arc). mark_in v nodes x.0 v) ∙ length-enumerate_from 0 arcs

-- there no layout is legal
pub none_legal : (s : Site) → HasIsolatedTurbine s → (cables : List Cable) → IsLegal s cables → ⊥
none_legal s isolated cables legal = HasNone-no_arc s isolated.0 isolated.1 isolated.2 cables legal

-- some reason is true of each node
dead_somehow : (s : Site) (arcs : List Arc) (rows : List Row) (marks : List Mark) (bound : ℕ) → IsValid s → AreArcs s arcs → length marks ≡ length arcs → HasPointRows s arcs rows
    → HasIsolatedTurbine s → ((why : Why) → ¬ (IsDead s arcs rows marks bound why)) → ⊥
dead_somehow s arcs rows marks bound valid are same has isolated alive =
    let p : ℕ = isolated.0 in
    let listed = has (row_at Out p) (inl refl) (row_at-formed s arcs Out p (λ e. cc) (λ e. cc) (within-turbine s p isolated.1) isolated.1) in
    alive (RowWhy listed.0) (
      row_at Out p,
      listed.1,
      out-without_arcs s arcs marks p valid are same
          (λ k a e f. isolated.2 a.to (subst (λ (q : ℕ). IsCandidate s q a.to) f (all-at (λ (a : Arc). IsCandidate s a.from a.to) arcs k a are.candidates e))),
    )

-- so each node that is worked is dead, and no node is made
pub alone-after : (s : Site) (arcs : List Arc) (kept : ProofState) (v : ℕ) (node : Node) (value : ℤ) (act : Act) (nodes : List Node) (bound : ℕ) (weights : List (ℕ × ℤ)) (known : Option (List Cable))
    → IsValid s → AreArcs s arcs → HasPointRows s arcs kept.rows → ((cables : List Cable) → known ≡ Some cables → IsLegal s cables) → IsActed s arcs kept v node value act nodes
    → IsChosen s arcs kept known weights (marks_of arcs kept.nodes v) bound act → HasIsolatedTurbine s → length kept.nodes ≡ 1 → length nodes ≡ 1
alone-after s arcs kept v node value (Split a) nodes bound weights known valid are has legal acted chosen isolated one =
    absurd (dead_somehow s arcs kept.rows (marks_of arcs kept.nodes v) bound valid are (marks-count arcs kept.nodes v) has isolated chosen.0)
alone-after s arcs kept v node value Stop nodes bound weights known valid are has legal acted chosen isolated one = absurd (none_legal s isolated chosen.0 (legal chosen.0 chosen.1))
alone-after s arcs kept v node value Full nodes bound weights known valid are has legal acted chosen isolated one = absurd (none_legal s isolated acted.0 acted.1.legal)
alone-after s arcs kept v node value (Dead why) nodes bound weights known valid are has legal acted chosen isolated one =
    ap length acted.3 ∙ length-set kept.nodes (v - 1) (worked node acted.0 WasDead) ∙ one
