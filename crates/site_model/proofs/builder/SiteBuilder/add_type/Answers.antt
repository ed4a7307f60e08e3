use Rattle.std.proofs.Common.{◌≡◌, ◌++◌, [], ◌∷◌, arith}
use Rattle.std.proofs.lemmas.Grind.{common_steps}
use Rattle.cable_definitions.specs.Items.{IsGood}
use Rattle.site_model.specs.Building.{type_item}
use Rattle.site_model.specs.Drafts.{item_of_type}
use Rattle.site_model.proofs.Ranges.{passed_two}
use Rattle.site_model.proofs.Types.{IsDraft-pushed_type}
use Rattle.site_model.proofs.builder.SiteBuilder.add_type.Goals as goal

pub invariant_of-self-2 : goal.invariant_of-self-2
invariant_of-self-2 c =
    let old = c.args.self.now in
    let t = c.in-Ok.cable_type in
    let pushed : c.push.new.self.items ≡ c.self.inside.types.items ++ t ∷ [] = grind (arith, common_steps) in
    let good = passed_two (λ x y. IsGood old (type_item old.site.version x y c.args.loss)) c.args.capacity c.args.price c.ranges.capacity c.ranges.price c.in-Ok.ensures.good in
    let item = passed_two (λ x y. type_item old.site.version x y c.args.loss ≡ item_of_type t) c.args.capacity c.args.price c.ranges.capacity c.ranges.price c.in-Ok.ensures.item in
    record {
      draft = IsDraft-pushed_type _ old c.args.capacity c.args.price c.args.loss t c.push.new.self.items c.self.view_is c.self.invariant.draft good item pushed;
      corners_fit = c.self.invariant.corners_fit;
      obstacle_fits = c.self.invariant.obstacle_fits;
      table = c.self.invariant.table;
      numbered = c.self.invariant.numbered;
    }
