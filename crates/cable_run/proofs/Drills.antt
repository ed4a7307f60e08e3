-- The summary of what was found for a generated site.
use Rattle.std.proofs.Common.{◌≡◌, ℕ, ◌≤◌, List, length, None, sym, ap, ◌∙◌}
use Rattle.std.specs.Prelude.{Err}
use Rattle.cable_definitions.specs.declared.cable.Cable.{Cable}
use Rattle.cable_definitions.specs.declared.cable.Arc.{Arc}
use Rattle.cable_definitions.specs.declared.claim.Claim.{Claim}
use Rattle.cable_definitions.specs.Site.{Site, IsValid}
use Rattle.cable_definitions.specs.Arcs.{AreArcs}
use Rattle.cable_definitions.specs.Drill.{IsDrillSite, drill_line}
use Rattle.search_parts.specs.Outcome.{FindsPlan}
use Rattle.run_definitions.specs.Effect.{Effect, Faulted, WroteFirstPart}
use Rattle.run_definitions.specs.Ends.{IsDrilled}
use Rattle.cable_run.specs.declared.fault.Fault.TheVariants.{Write}
use Rattle.cable_run.specs.Steps.{DrillGives}
use Rattle.cable_run.proofs.Plans.{plan_with_arcs}

-- what was found for a generated site is what its summary tells
pub drilled : (s : Site) (k turbines n : ℕ) (arcs : List Arc) (count : ℕ) (cables : List Cable) (claim : Claim) → 1 ≤ n → n ≤ 50000 → IsValid s → IsDrillSite k turbines s → AreArcs s arcs
    → count ≡ length arcs → FindsPlan s arcs n 1 None None cables claim → IsDrilled k turbines n claim (drill_line s k turbines n count claim)
drilled s k turbines n arcs count cables claim least most valid generated are counted found =
    let whole = plan_with_arcs None None s n 1 arcs cables claim least most valid are found in
    record {
      site = s;
      valid = valid;
      generated = generated;
      printed = _;
      plan = whole.0;
      text_is = ap (λ (c : ℕ). drill_line s k turbines n c claim) (counted ∙ ap length (sym whole.1));
    }

-- a first part of a summary
pub summary_begun : (k turbines n : ℕ) (out : Effect) (claim : Claim) (text : List ℕ) → IsDrilled k turbines n claim text → Faulted out → WroteFirstPart out text → DrillGives k turbines n out (Err Write)
summary_begun k turbines n out claim text is failed part = (failed, (claim, text, is, part))
