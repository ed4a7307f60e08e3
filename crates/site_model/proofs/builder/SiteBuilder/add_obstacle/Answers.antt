use Rattle.std.proofs.Common.{◌≡◌, pos, Some, length, sym, ap, ◌∙◌, arith}
use Rattle.cable_definitions.specs.Items.{IsGood, AnObstacle}
use Rattle.site_model.proofs.Ranges.{passed}
use Rattle.site_model.proofs.Codes.{OnOk-at}
use Rattle.site_model.proofs.Corners.{IsDraft-begun}
use Rattle.site_model.proofs.builder.SiteBuilder.add_obstacle.Goals as goal

pub invariant_of-self-2 : goal.invariant_of-self-2
invariant_of-self-2 c =
    let old = c.args.self.now in
    let z = c.args.corners in
    let good = passed (λ v. IsGood old (AnObstacle (Some v))) z c.ranges.corners c.in-Ok.ensures.good in
    let is = passed (λ v. v ≡ pos c.in-Ok.count) z c.ranges.corners c.in-Ok.ensures.count in
    let obstacle_room = OnOk-at c.reserve.result (sym c.is_err.ensures.value ∙ c.if-is_err.false) c.reserve.ensures.ok in
    let corner_room = OnOk-at c.reserve-2.result (sym c.is_err-2.ensures.value ∙ c.if-is_err-2.false) c.reserve-2.ensures.ok in
    record {
      draft = IsDraft-begun _ old z c.in-Ok.count c.reserve.new.self.items c.clear.new.self.items c.self.view_is c.self.invariant.draft good is c.reserve.ensures.items c.clear.ensures.items;
      corners_fit = omega (arith, corner_room, ap length c.clear.ensures.items, c.clear.ensures.capacity);
      obstacle_fits = λ h. omega (arith, obstacle_room, c.reserve.new.self.ok.0);
      table = c.self.invariant.table;
      numbered = c.self.invariant.numbered;
    }
