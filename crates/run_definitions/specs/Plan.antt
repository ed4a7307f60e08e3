-- What a printed plan is, and what stands in the output where printing it stops early.
use Rattle.std.specs.Prelude.{◌≡◌, ℕ, ◌≤◌, List, [], ◌∷◌, ◌++◌, Some, IsTrue, map, codes}
use Rattle.std.specs.List.{concat}
use Rattle.std.specs.Fmt.{decimal}
use Rattle.cable_definitions.specs.declared.cable.Cable.{Cable}
use Rattle.cable_definitions.specs.declared.cable.Arc.{Arc}
use Rattle.cable_definitions.specs.declared.claim.Claim.{Claim}
use Rattle.cable_definitions.specs.declared.claim.Claim.TheVariants.{Optimal, Gap, Partial, Infeasible}
use Rattle.cable_definitions.specs.Site.{Site}
use Rattle.cable_definitions.specs.Arcs.{AreArcs, IsCandidate, kind_of, is_turbine}
use Rattle.cable_definitions.specs.Layout.{IsLegal, cost}
use Rattle.cable_definitions.specs.Part.{IsSettled, IsStraight}
use Rattle.cable_definitions.specs.Budget.{IsNearest, enough_budget}
use Rattle.cable_definitions.specs.InTree.{HasNoBends, IsInTree, IsFloor}
use Rattle.cable_definitions.specs.Tree.{WasFull, Node, Item, ProofState, node_of, IsAccepted, Says}
use Rattle.cable_definitions.specs.Text.{line, site_lines, item_lines}
use Rattle.cable_definitions.specs.Document.{IsAcceptedDocument}
use Rattle.run_definitions.specs.Rounds.{ComeFromSearch}

-- ---- claims
-- the claim says that a layout is the cheapest, or that there is none
abbrev pub IsFinal : Claim → Type 0
IsFinal (Optimal best) = Unit {0}
IsFinal (Gap best bound) = ⊥
IsFinal (Partial bound stuck) = ⊥
IsFinal Infeasible = Unit {0}

-- the claim is of a layout that costs at most this
abbrev pub CostsAtMost : ℕ → Claim → Type 0
CostsAtMost most (Optimal best) = best ≤ most
CostsAtMost most (Gap best bound) = best ≤ most
CostsAtMost most (Partial bound stuck) = ⊥
CostsAtMost most Infeasible = ⊥

-- the layout of a claim with a cost is settled
abbrev pub IsSettledFor : Site → List Cable → Claim → Type 0
IsSettledFor s cables (Optimal best) = IsSettled s cables
IsSettledFor s cables (Gap best bound) = IsSettled s cables
IsSettledFor s cables (Partial bound stuck) = Unit {0}
IsSettledFor s cables Infeasible = Unit {0}

-- no candidate arc leads out of some turbine
abbrev pub HasIsolatedTurbine : Site → Type 0
HasIsolatedTurbine s = (p : ℕ) × IsTrue (is_turbine (kind_of s p)) × ((q : ℕ) → ¬ (IsCandidate s p q))

-- the bound of the claim is at least the sum of the turbines' cheapest first cables, where each turbine has an arc
abbrev pub IsAtLeastFirstCables : Site → Claim → Type 0
IsAtLeastFirstCables s (Optimal best) = (nearest : ℕ) → IsNearest s nearest → nearest ≤ best
IsAtLeastFirstCables s (Gap best bound) = (nearest : ℕ) → IsNearest s nearest → nearest ≤ bound
IsAtLeastFirstCables s (Partial bound stuck) = (nearest : ℕ) → IsNearest s nearest → nearest ≤ bound
IsAtLeastFirstCables s Infeasible = Unit {0}

-- the bound of the claim is at least the cost of the cheapest in-tree, where there is one
abbrev pub IsAtLeastInTrees : Site → Claim → Type 0
IsAtLeastInTrees s (Optimal best) = (least : ℕ) → IsFloor s least → least ≤ best
IsAtLeastInTrees s (Gap best bound) = (least : ℕ) → IsFloor s least → least ≤ bound
IsAtLeastInTrees s (Partial bound stuck) = (least : ℕ) → IsFloor s least → least ≤ bound
IsAtLeastInTrees s Infeasible = Unit {0}

-- the site has no in-tree
abbrev pub HasNoInTree : Site → Type 0
HasNoInTree s = (tree : List Cable) → ¬ (IsInTree s tree)

-- ---- plans
-- What is so of the plan of the site s with the budget n, over so many lanes, that was printed with this claim:
--   document             it is a document of that site that `check` accepts, so its layout is legal at its cost;
--   budget_is            its budget is n;
--   searched             its items, and its layout where it has a cost, are those with which a search in rounds over the lanes ends;
--   says                 what the claim says of all legal layouts is true;
--   first_cables         its bound is at least the sum of the turbines' cheapest first cables;
--   in_trees             on a site without bends its bound is at least the cost of the cheapest in-tree;
--   no_in_tree           on a site without bends that has no in-tree, the claim is that there is no layout;
--   closed               where n is enough, the claim is that its layout is the cheapest, or that there is none;
--   isolated             where no candidate arc leads out of some turbine, the claim is that there is no layout;
--   settled              a layout with a cost is settled: moving the end of one cable makes it no cheaper;
--   straight             where the straight layout is legal, the claim is of a layout that costs no more;
--   full                 the claim is of a layout that costs no more than that of any full node.
pub record IsPlan (s : Site) (n lanes : ℕ) (printed : List ℕ) (claim : Claim) : Type 0 where
  pub document : IsAcceptedDocument printed s claim
  pub budget_is : document.budget ≡ n
  pub searched : ComeFromSearch s document.arcs n lanes document.items document.cables claim
  pub says : Says s claim
  pub first_cables : IsAtLeastFirstCables s claim
  pub in_trees : HasNoBends s → IsAtLeastInTrees s claim
  pub no_in_tree : HasNoBends s → HasNoInTree s → claim ≡ Infeasible
  pub closed : enough_budget document.arcs ≤ n → IsFinal claim
  pub isolated : HasIsolatedTurbine s → claim ≡ Infeasible
  pub settled : IsSettledFor s document.cables claim
  pub straight : (cables : List Cable) → IsStraight s cables → IsLegal s cables → CostsAtMost (cost s cables) claim
  pub full : (v : ℕ) (node : Node) → node_of document.kept.nodes v ≡ Some node → node.status ≡ WasFull → CostsAtMost node.bound claim

-- ---- plans that stop early
-- the lines of the site, the budget n, and items that are accepted
pub record IsPlanBegun (s : Site) (n : ℕ) (text : List ℕ) : Type 0 where
  pub arcs : List Arc
  pub are_arcs : AreArcs s arcs
  pub items : List Item
  pub kept : ProofState
  pub accepted : IsAccepted s arcs n items kept
  pub text_is : text ≡ (site_lines s ++ line (codes "budget" ∷ decimal n ∷ [])) ++ concat (map item_lines items)
