-- What an act of a work asks for, by the marks of its node and the node's new bound.
use Rattle.std.specs.Prelude.{◌≡◌, ℕ, List, slice_get, Some}
use Rattle.cable_definitions.specs.declared.cable.Cable.{Cable}
use Rattle.cable_definitions.specs.declared.cable.Arc.{Arc as CandidateArc}
use Rattle.cable_definitions.specs.declared.row.Mark.{Mark}
use Rattle.cable_definitions.specs.declared.row.Mark.TheVariants.{Free}
use Rattle.cable_definitions.specs.declared.row.Act.{Act}
use Rattle.cable_definitions.specs.declared.row.Act.TheVariants.{Split, Stop, Dead as DeadAct, Full as FullAct}
use Rattle.cable_definitions.specs.declared.claim.Cause.{Cause}
use Rattle.cable_definitions.specs.declared.claim.Cause.TheVariants.{Arc, Dead, Full}
use Rattle.cable_definitions.specs.Site.{Site}
use Rattle.cable_definitions.specs.Layout.{cost}
use Rattle.cable_definitions.specs.Row.{Row}
use Rattle.cable_definitions.specs.Tree.{IsDead, IsFull}

-- The act may be done on a node with these marks and this new bound, and the node has the last number as its bound then: a full node has its
-- layout's cost, another node its new bound.
abbrev pub MayAct : Site → List CandidateArc → List Row → List Mark → ℕ → Act → ℕ → Type 0
MayAct s arcs rows marks bound (Split a) after = (slice_get marks a ≡ Some Free) × (after ≡ bound)
MayAct s arcs rows marks bound Stop after = after ≡ bound
MayAct s arcs rows marks bound (DeadAct why) after = IsDead s arcs rows marks bound why × (after ≡ bound)
MayAct s arcs rows marks bound FullAct after = (cables : List Cable) × IsFull s arcs marks cables × (after ≡ cost s cables)

-- the act may not be done, for this cause
abbrev pub MayNotAct : Site → List CandidateArc → List Row → List Mark → ℕ → Act → Cause → Type 0
MayNotAct s arcs rows marks bound (Split a) Arc = ¬ (slice_get marks a ≡ Some Free)
MayNotAct s arcs rows marks bound (DeadAct why) Dead = ¬ (IsDead s arcs rows marks bound why)
MayNotAct s arcs rows marks bound FullAct Full = (cables : List Cable) → ¬ (IsFull s arcs marks cables)
MayNotAct s arcs rows marks bound act cause = ⊥
