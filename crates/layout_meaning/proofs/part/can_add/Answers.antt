use Rattle.std.proofs.Common.{Bool, IsTrue, List, ◌↔◌, sym, subst}
use Rattle.cable_definitions.specs.declared.cable.Cable.{Cable}
use Rattle.layout_meaning.specs.Joining.{Joins}
use Rattle.layout_meaning.proofs.Refusals.{added_or_not}
use Rattle.layout_meaning.proofs.part.can_add.Goals as goal

pub returns : goal.returns
returns c =
    subst (λ (b : Bool). IsTrue b ↔ ((typed : List Cable) × Joins c.args.site.now c.args.part.now c.args.from c.args.to typed)) (sym c.is_ok.ensures.value)
    (added_or_not c.args.site.now c.args.part.now c.args.from c.args.to c.joining.result c.joining.ensures)
