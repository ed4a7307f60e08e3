-- The slack of an arc, by what weights count it as.
use Rattle.std.proofs.Common.{◌≡◌, ℕ, ◌^◌, ◌≤◌, ℤ, unsigned_abs, List, to_z, of_z, ap, sym, ◌∙◌, subst, arith}
use Rattle.std.specs.Int.{w128}
use Rattle.cable_definitions.specs.declared.cable.Arc.{Arc}
use Rattle.cable_definitions.specs.declared.row.Mark.TheVariants.{Used}
use Rattle.cable_definitions.specs.Site.{Site}
use Rattle.cable_definitions.specs.Row.{Row}
use Rattle.cable_definitions.specs.Choice.{AtMost, IsExtreme, weighted_on_use, weighted_on_load}
use Rattle.cable_definitions.specs.Core.{IsSlack}
use Rattle.cable_rows.specs.declared.counts.Counts.{Counts}
use Rattle.arc_choices.specs.Least.{left_over}
use Rattle.cable_rows.specs.Sums.{AreSummed, AreCounts}
use Rattle.cable_rows.proofs.Weighing.{back}
use Rattle.cable_rows.proofs.Counting.{counts_read}
use Rattle.row_lifts.specs.declared.sums.Weighed.{Weighed}
use Rattle.row_lifts.specs.Sums.{AreSums}

-- the weights on sets, as the program read them, count an arc as those of the weights do whose rows count arcs by more than one of their ends
pub summed : (rows : List Row) (weighed : Weighed) (sets : List (ℕ × ℤ)) (a : ℕ) (arc : Arc) → AreSums rows weighed → sets ≡ weighed.sets → AreSummed rows weighed.weights weighed.sums sets a arc
summed rows weighed sets a arc h e = record {
  lawful = h.lawful;
  few = h.few;
  sums_are = h.sums_are;
  use_of_others = ap (λ (ws : List (ℕ × ℤ)). weighted_on_use rows ws a arc) (e ∙ h.sets_are);
  load_of_others = ap (λ (ws : List (ℕ × ℤ)). weighted_on_load rows ws arc) (e ∙ h.sets_are);
}

-- the least that a use leaves is the slack, where the program read these counts
pub slack_left : (s : Site) (rows : List Row) (ws : List (ℕ × ℤ)) (a : ℕ) (arc : Arc) (counts : Counts) (least : ℤ) → AreCounts rows ws a arc counts → unsigned_abs least ≤ 10 ^ 30
    → IsExtreme AtMost s arc Used (left_over s arc (to_z w128 (of_z w128 counts.on_use)) (to_z w128 (of_z w128 counts.on_load))) least → IsSlack s rows ws a arc (to_z w128 (of_z w128 least))
slack_left s rows ws a arc counts least h small e = subst (λ (z : ℤ). IsSlack s rows ws a arc z) (sym (back least (omega (arith, small)))) (counts_read (λ u v. IsExtreme AtMost s arc Used (left_over s arc u v) least) rows ws a arc counts h e)
