use Rattle.std.proofs.Common.{◌-◌, Some, List, [], ◌∷◌, ◌++◌, length, ap, ◌∙◌, arith}
use Rattle.std.proofs.lemmas.List.{length_push}
use Rattle.cable_definitions.specs.declared.place.Place.{Place}
use Rattle.cable_definitions.specs.declared.site.SiteCode.TheVariants.{InObstacle}
use Rattle.cable_definitions.specs.Items.{ACorner, IsFirstCode}
use Rattle.site_model.proofs.Ranges.{passed_two}
use Rattle.site_model.proofs.Codes.{refused_exactly, not_refused}
use Rattle.site_model.proofs.Points.{IsAt-passed}
use Rattle.site_model.proofs.Corners.{IsDraft-more_corner, Adds-more_corner, IsDraft-last_corner, Adds-last_corner}
use Rattle.site_model.proofs.Building.{IsFirstCode-enclosing, IsGood-clear, missing_some}
use Rattle.site_model.proofs.builder.SiteBuilder.add_corner.Goals as goal

pub returns-in-Err-clause-refused : goal.returns-in-Err-clause-refused
returns-in-Err-clause-refused c =
    let old = c.args.self.now in
    let first = passed_two (λ u v. IsFirstCode old (ACorner (Some u) (Some v)) c.in-Err.code) c.args.x c.args.y c.ranges.x c.ranges.y c.in-Err.ensures.code in
    refused_exactly old (ACorner (Some c.args.x) (Some c.args.y)) c.in-Err.code first

pub returns-then-encloses-clause-refused : goal.returns-then-encloses-clause-refused
returns-then-encloses-clause-refused c =
    refused_exactly c.args.self.now (ACorner (Some c.args.x) (Some c.args.y)) InObstacle
    (IsFirstCode-enclosing _ c.args.self.now c.args.x c.args.y c.in-Ok.corner _ _ c.self.view_is c.in-Ok.ensures.stands c.ranges.x c.ranges.y c.in-Ok.ensures.place c.as_slice.ensures.value c.encloses.ensures.answer c.if-encloses.true)

pub invariant_of-self-then-self-gt0 : goal.invariant_of-self-then-self-gt0
invariant_of-self-then-self-gt0 c =
    let good = IsGood-clear _ c.args.self.now c.args.x c.args.y c.in-Ok.corner _ _ c.self.view_is c.in-Ok.ensures.stands c.ranges.x c.ranges.y c.in-Ok.ensures.place c.as_slice.ensures.value c.encloses.ensures.answer c.if-encloses.false in
    let at = IsAt-passed c.args.x c.args.y c.in-Ok.corner c.ranges.x c.ranges.y c.in-Ok.ensures.place in
    let some = missing_some _ c.args.self.now c.args.x c.args.y c.self.view_is c.in-Ok.ensures.stands in
    let pushed = c.push_reserved.ensures.items ∙ ap (λ (cs : List Place). cs ++ c.in-Ok.corner ∷ []) c.encloses.ensures.items in
    record {
      draft = IsDraft-more_corner _ c.args.self.now c.args.x c.args.y c.in-Ok.corner c.push_reserved.new.self.items (c.self.inside.missing - 1) c.self.view_is c.self.invariant.draft good at pushed (omega arith) (omega arith);
      corners_fit = omega (arith, ap length pushed, length_push c.self.inside.corners.items c.in-Ok.corner, c.push_reserved.ensures.capacity, c.encloses.ensures.capacity, c.self.invariant.corners_fit);
      obstacle_fits = λ h. c.self.invariant.obstacle_fits (omega arith);
      table = c.self.invariant.table;
      numbered = c.self.invariant.numbered;
    }

pub returns-then-self-gt0-clause-good : goal.returns-then-self-gt0-clause-good
returns-then-self-gt0-clause-good c =
    IsGood-clear _ c.args.self.now c.args.x c.args.y c.in-Ok.corner _ _ c.self.view_is c.in-Ok.ensures.stands c.ranges.x c.ranges.y c.in-Ok.ensures.place c.as_slice.ensures.value c.encloses.ensures.answer c.if-encloses.false

pub returns-then-self-gt0-clause-adds : goal.returns-then-self-gt0-clause-adds
returns-then-self-gt0-clause-adds c =
    let at = IsAt-passed c.args.x c.args.y c.in-Ok.corner c.ranges.x c.ranges.y c.in-Ok.ensures.place in
    let some = missing_some _ c.args.self.now c.args.x c.args.y c.self.view_is c.in-Ok.ensures.stands in
    let pushed = c.push_reserved.ensures.items ∙ ap (λ (cs : List Place). cs ++ c.in-Ok.corner ∷ []) c.encloses.ensures.items in
    Adds-more_corner _ c.args.self.now c.args.x c.args.y c.in-Ok.corner c.push_reserved.new.self.items (c.self.inside.missing - 1) c.self.view_is at pushed (omega arith) (omega arith)

pub returns-then-self-gt0-clause-refused : goal.returns-then-self-gt0-clause-refused
returns-then-self-gt0-clause-refused c =
    not_refused c.args.self.now (ACorner (Some c.args.x) (Some c.args.y))
    (IsGood-clear _ c.args.self.now c.args.x c.args.y c.in-Ok.corner _ _ c.self.view_is c.in-Ok.ensures.stands c.ranges.x c.ranges.y c.in-Ok.ensures.place c.as_slice.ensures.value c.encloses.ensures.answer c.if-encloses.false)

pub invariant_of-self-2 : goal.invariant_of-self-2
invariant_of-self-2 c =
    let good = IsGood-clear _ c.args.self.now c.args.x c.args.y c.in-Ok.corner _ _ c.self.view_is c.in-Ok.ensures.stands c.ranges.x c.ranges.y c.in-Ok.ensures.place c.as_slice.ensures.value c.encloses.ensures.answer c.if-encloses.false in
    let at = IsAt-passed c.args.x c.args.y c.in-Ok.corner c.ranges.x c.ranges.y c.in-Ok.ensures.place in
    let some = missing_some _ c.args.self.now c.args.x c.args.y c.self.view_is c.in-Ok.ensures.stands in
    let pushed = c.push_reserved.ensures.items ∙ ap (λ (cs : List Place). cs ++ c.in-Ok.corner ∷ []) c.encloses.ensures.items in
    let whole = c.complete.ensures.obstacles ∙ ap (λ (cs : List Place). c.self.inside.obstacles.items ++ cs ∷ []) pushed in
    record {
      draft = IsDraft-last_corner _ c.args.self.now c.args.x c.args.y c.in-Ok.corner c.complete.new.obstacles.items c.complete.new.corners.items (c.self.inside.missing - 1) c.self.view_is c.self.invariant.draft good at whole c.complete.ensures.corners (omega arith) (omega arith);
      corners_fit = omega (arith, ap length c.complete.ensures.corners);
      obstacle_fits = λ h. absurd (omega arith);
      table = c.self.invariant.table;
      numbered = c.self.invariant.numbered;
    }

pub returns-clause-good : goal.returns-clause-good
returns-clause-good c =
    IsGood-clear _ c.args.self.now c.args.x c.args.y c.in-Ok.corner _ _ c.self.view_is c.in-Ok.ensures.stands c.ranges.x c.ranges.y c.in-Ok.ensures.place c.as_slice.ensures.value c.encloses.ensures.answer c.if-encloses.false

pub returns-clause-adds : goal.returns-clause-adds
returns-clause-adds c =
    let at = IsAt-passed c.args.x c.args.y c.in-Ok.corner c.ranges.x c.ranges.y c.in-Ok.ensures.place in
    let some = missing_some _ c.args.self.now c.args.x c.args.y c.self.view_is c.in-Ok.ensures.stands in
    let pushed = c.push_reserved.ensures.items ∙ ap (λ (cs : List Place). cs ++ c.in-Ok.corner ∷ []) c.encloses.ensures.items in
    let whole = c.complete.ensures.obstacles ∙ ap (λ (cs : List Place). c.self.inside.obstacles.items ++ cs ∷ []) pushed in
    Adds-last_corner _ c.args.self.now c.args.x c.args.y c.in-Ok.corner c.complete.new.obstacles.items c.complete.new.corners.items (c.self.inside.missing - 1) c.self.view_is at whole c.complete.ensures.corners (omega arith) (omega arith)

pub returns-clause-refused : goal.returns-clause-refused
returns-clause-refused c =
    not_refused c.args.self.now (ACorner (Some c.args.x) (Some c.args.y))
    (IsGood-clear _ c.args.self.now c.args.x c.args.y c.in-Ok.corner _ _ c.self.view_is c.in-Ok.ensures.stands c.ranges.x c.ranges.y c.in-Ok.ensures.place c.as_slice.ensures.value c.encloses.ensures.answer c.if-encloses.false)
