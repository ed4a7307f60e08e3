-- What a search finds, and what it has written where it stops early.
use Rattle.std.specs.Prelude.{◌≡◌, ℕ, ◌^◌, ◌<◌, ◌≤◌, List, Some, Option, map, AllPairs}
use Rattle.std.specs.List.{concat}
use Rattle.cable_definitions.specs.declared.cable.Cable.{Cable}
use Rattle.cable_definitions.specs.declared.cable.Arc.{Arc}
use Rattle.cable_definitions.specs.declared.claim.Claim.{Claim}
use Rattle.cable_definitions.specs.declared.claim.Claim.TheVariants.{Optimal, Gap, Partial, Infeasible}
use Rattle.cable_definitions.specs.Site.{Site}
use Rattle.cable_definitions.specs.Layout.{IsLegal, cost}
use Rattle.cable_definitions.specs.Part.{IsStraight}
use Rattle.cable_definitions.specs.Budget.{enough_budget}
use Rattle.cable_definitions.specs.InTree.{HasNoBends}
use Rattle.cable_definitions.specs.Tree.{WasFull, Node, Item, ProofState, node_of, IsAccepted, Agrees}
use Rattle.cable_definitions.specs.Text.{item_lines}
use Rattle.cable_definitions.specs.Stream.{Appends, AppendsPrefix}
use Rattle.run_definitions.specs.Plan.{IsFinal, CostsAtMost, IsSettledFor, HasIsolatedTurbine, IsAtLeastFirstCables, IsAtLeastInTrees, HasNoInTree}
use Rattle.run_definitions.specs.Rounds.{IsSearched}
use Rattle.cable_definitions.specs.Core.{Core}

-- What is so of the layout and the claim with which a search ends that had n works, by what is kept of its items: they agree with it; the claim is
-- final where n is enough, and where no arc leads out of some turbine it is that there is no layout. A layout with a cost is settled, and costs no
-- more than the straight layout, where that is legal, nor than the layout of any full node; where there is one of these, a layout with a cost is
-- claimed.
pub record IsOutcome (s : Site) (arcs : List Arc) (n : ℕ) (kept : ProofState) (cables : List Cable) (claim : Claim) : Type 0 where
  pub in_order : AllPairs (λ c d. c.from < d.from) cables
  pub agrees : Agrees s n kept cables claim
  pub closed : enough_budget arcs ≤ n → IsFinal claim
  pub hopeless : HasIsolatedTurbine s → claim ≡ Infeasible
  pub settled : IsSettledFor s cables claim
  pub straight : (straight : List Cable) → IsStraight s straight → IsLegal s straight → CostsAtMost (cost s straight) claim
  pub full : (v : ℕ) (node : Node) → node_of kept.nodes v ≡ Some node → node.status ≡ WasFull → CostsAtMost node.bound claim
  pub open_small : (bound stuck : ℕ) → claim ≡ Partial bound stuck → bound < 2 ^ 63

-- the claim is of a layout with this cost
abbrev pub HasCost : Claim → ℕ → Type 0
HasCost (Optimal best) total = best ≡ total
HasCost (Gap best bound) total = best ≡ total
HasCost (Partial bound stuck) total = ⊥
HasCost Infeasible total = ⊥

-- The items of a search that is at its end, and whose lines were appended to a sink, with the layout and the claim of the outcome; a layout with a cost
-- is the one that the search knows. The bound is at least the sum of the turbines' cheapest first cables, and on a site without bends at least the cost of
-- the cheapest in-tree; where there is no in-tree either, the claim is that there is no layout.
pub record FindsPlan (s : Site) (arcs : List Arc) (n lanes : ℕ) (taken_old taken_new : Option (List ℕ)) (cables : List Cable) (claim : Claim) : Type 0 where
  pub core : Core
  pub searched : IsSearched s arcs n lanes core
  pub accepted : IsAccepted s arcs n core.items core.kept
  pub outcome : IsOutcome s arcs n core.kept cables claim
  pub known : (total : ℕ) → HasCost claim total → core.known ≡ Some cables
  pub floor : IsAtLeastFirstCables s claim
  pub in_trees : HasNoBends s → IsAtLeastInTrees s claim
  pub no_in_tree : HasNoBends s → HasNoInTree s → claim ≡ Infeasible
  pub written : Appends taken_old taken_new (concat (map item_lines core.items))

-- a first part of the lines of accepted items was appended
pub record WritesPart (s : Site) (arcs : List Arc) (n : ℕ) (taken_old taken_new : Option (List ℕ)) : Type 0 where
  pub items : List Item
  pub kept : ProofState
  pub accepted : IsAccepted s arcs n items kept
  pub written : AppendsPrefix taken_old taken_new (concat (map item_lines items))
