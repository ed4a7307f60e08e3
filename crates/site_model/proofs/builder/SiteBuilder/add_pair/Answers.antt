use Rattle.cable_definitions.specs.Items.{Draft}
use Rattle.site_model.proofs.Ruled.{IsPairTable-push}
use Rattle.std.proofs.Common.{length, ap, ◌≤◌, ◌≡◌, ◌++◌, [], ◌∷◌, arith}
use Rattle.std.proofs.lemmas.Grind.{common_steps}
use Rattle.site_model.specs.Building.{pair_item}
use Rattle.site_model.proofs.Pairs.{IsDraft-pushed_pair}
use Rattle.site_model.proofs.builder.SiteBuilder.add_pair.Goals as goal

pub invariant_of-self-2 : goal.invariant_of-self-2
invariant_of-self-2 c =
    let p = c.in-Ok.pair in
    let pushed : c.push.new.self.items ≡ c.self.inside.pairs.items ++ p ∷ [] = grind (arith, common_steps) in
    let found = c.in-Ok.ensures in
    let points_are = ap (λ (d : Draft). length d.site.points) c.self.view_is in
    let count : length c.args.self.now.site.points ≤ 256 = omega (arith, points_are, c.self.invariant.draft.points.count) in
    let draft = IsDraft-pushed_pair _ c.args.self.now (pair_item c.args.a.now c.args.b.now c.args.amount) p c.push.new.self.items c.self.view_is c.self.invariant.draft found.good found.first found.second found.item pushed in
    record {
      draft = draft;
      corners_fit = c.self.invariant.corners_fit;
      obstacle_fits = c.self.invariant.obstacle_fits;
      table = IsPairTable-push c.self.inside.rules.items c.enter.new.table.items c.self.inside.pairs.items c.push.new.self.items p (omega (arith, found.first, count)) (omega (arith, found.second, count)) draft.pairs.ruled_once c.self.invariant.table c.enter.ensures pushed;
      numbered = c.self.invariant.numbered;
    }
