use Rattle.std.proofs.Common.{◌≡◌, ◌∙◌, Some, None, sym, ap, of_z}
use Rattle.std.specs.Int.{w128}
use Rattle.cable_definitions.specs.Items.{AVersion}
use Rattle.site_text.specs.Item.{item_held, held_item}
use Rattle.site_text.proofs.Changed.{version_range, version_shape}
use Rattle.site_text.proofs.read.version_of.Goals as goal

pub returns-else-number-eq1-clause-code : goal.returns-else-number-eq1-clause-code
returns-else-number-eq1-clause-code c =
    let i = c.item_of.ensures in
    let n = c.in-Version-Some.number in
    let e : AVersion (Some n) ≡ held_item i.raw = ap AVersion (sym c.in-Version-Some.field-0-is) ∙ ap item_held (sym c.in-Version-Some.is) ∙ i.held_is in
    record { item = i.raw; item_of = i.item_of; first = version_range i.raw n e (λ k. c.if-number-eq1.false (ap (of_z w128) k)) }

pub returns-in-Version-None-clause-code : goal.returns-in-Version-None-clause-code
returns-in-Version-None-clause-code c =
    let i = c.item_of.ensures in
    let e : AVersion None ≡ held_item i.raw = ap AVersion (sym c.in-Version-None.field-0-is) ∙ ap item_held (sym c.in-Version-None.is) ∙ i.held_is in
    record { item = i.raw; item_of = i.item_of; first = version_shape i.raw e }
