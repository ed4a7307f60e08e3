use Rattle.std.proofs.Common.{◌-◌, length, map, take}
use Rattle.serde_json.specs.View.{view}
use Rattle.site_json.proofs.Joining.{corners_of}
use Rattle.site_json.specs.Faults.{LeadsOn}
use Rattle.site_json.specs.Progress.{TakesCorners}
use Rattle.site_json.proofs.lists.add_corners.Given as goal

abbrev pub invariant-loop-member : goal.invariant-loop-member
invariant-loop-member l = record {
  leads : LeadsOn l.initial.builder l.before (corners_of (map view (take l.member-index l.corners))) l.builder l.placed;
  takes : TakesCorners (length l.corners - l.member-index) l.builder l.placed;
}
