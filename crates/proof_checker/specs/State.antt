-- What a checker is seen as, and what its parts have in common.
use Rattle.std.specs.Prelude.{◌≡◌, ℕ, List, length, Option, Some}
use Rattle.cable_definitions.specs.declared.cable.Arc.{Arc}
use Rattle.cable_definitions.specs.declared.claim.Cause.{Cause}
use Rattle.cable_definitions.specs.Site.{Site}
use Rattle.cable_definitions.specs.Arcs.{AreArcs}
use Rattle.cable_definitions.specs.Row.{Row}
use Rattle.cable_definitions.specs.Tree.{ProofState, ceiling}
use Rattle.cable_definitions.specs.Refusal.{IsLeastCause}
use Rattle.cable_definitions.specs.declared.claim.Refusal.{Refusal}
use Rattle.branch_tree.specs.State.{TreeState}

-- a site with its arcs, a budget of works, what the items so far leave behind, and the refusal so far
pub record CheckerState : Type 0 where
  pub site : Site
  pub arcs : List Arc
  pub budget : ℕ
  pub state : ProofState
  pub refused : Option Refusal

-- what these rows and this tree keep
abbrev pub kept_from : List Row → TreeState → ProofState
kept_from rows tree = record { rows = rows; nodes = tree.nodes; works = tree.works }

-- the arcs are those of the site, the limit is its ceiling, the tree is for them and for the budget, and there is a mark for each arc
pub record IsChecker (s : Site) (arcs : List Arc) (budget limit : ℕ) (tree : TreeState) (marks : ℕ) : Type 0 where
  pub are_arcs : AreArcs s arcs
  pub ceiling_is : limit ≡ ceiling s arcs
  pub tree_budget : tree.budget ≡ budget
  pub tree_arcs : tree.arcs ≡ length arcs
  pub marks_count : marks ≡ length arcs

-- the line is refused with the least cause that holds, and that is all that the checker keeps of it
pub record Refuses (old new : CheckerState) (line : ℕ) (Holds : Cause → Type 0) (refusal : Refusal) : Type 0 where
  pub line_is : refusal.line ≡ line
  pub cause_is : IsLeastCause Holds refusal.cause
  pub state : new ≡ record old { refused = Some refusal }
