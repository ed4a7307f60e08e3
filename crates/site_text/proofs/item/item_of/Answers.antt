use Rattle.std.proofs.Common.{sym, ◌∙◌, ap, ◌∷◌, subst, List, ℕ}
use Rattle.std.specs.Option.{option_copied}
use Rattle.cable_text.specs.Words.{rest_parts}
use Rattle.site_text.specs.Item.{IsSaid}
use Rattle.site_text.specs.declared.item.Item.TheVariants.{Stray}
use Rattle.site_text.proofs.Lines.{item_of_line}
use Rattle.site_text.proofs.Saying.{unknown}
use Rattle.site_text.proofs.item.item_of.Goals as goal

pub returns-in-Some : goal.returns-in-Some
returns-in-Some c =
    let here = ap (λ w. w ∷ rest_parts (option_copied c.cut.result.1)) c.in-Some.ensures.some in
    let P : List (List ℕ) → Type 0 = λ ws. IsSaid c.args.version ws c.item_after.result in
    item_of_line c.args.version c.args.text.now c.item_after.result c.requires (subst P (sym (c.cut.ensures ∙ here)) c.item_after.ensures)

pub returns-in-None : goal.returns-in-None
returns-in-None c =
    let P : List (List ℕ) → Type 0 = λ ws. IsSaid c.args.version ws Stray in
    item_of_line c.args.version c.args.text.now Stray c.requires (subst P (sym c.cut.ensures) (unknown c.args.version c.cut.result.0.now (rest_parts (option_copied c.cut.result.1)) c.in-None.ensures.none))
