use Rattle.std.proofs.Common.{refl, arith}
use Rattle.site_model.proofs.Drafts.{IsDraft-begins}
use Rattle.site_model.proofs.Ruled.{IsPairTable-none}
use Rattle.site_model.proofs.builder.SiteBuilder.new.Goals as goal

pub invariant_of-result : goal.invariant_of-result
invariant_of-result c =
    let table = c.in_ok-empty_table.ensures in
    rw (c.in_ok-with_capacity.ensures.items, c.in_ok-with_capacity-2.ensures.items, c.in_ok-with_capacity-3.ensures.empty, c.in_ok-with_capacity-4.ensures.items, c.new.ensures.items, c.new-2.ensures.items)
    (record {
      draft = IsDraft-begins c.args.version c.args.mode c.requires;
      corners_fit = omega arith;
      obstacle_fits = λ h. absurd (omega arith);
      table = IsPairTable-none c.in_ok-empty_table.field-0.items table.size table.empty;
      numbered = refl;
    })
