use Rattle.std.proofs.Common.{◌≡◌, None, lit<, [], ◌∷◌, sym, ◌∙◌}
use Rattle.std.specs.Prelude.{codes}
use Rattle.serde_json.specs.Find.{get}
use Rattle.serde_json.specs.View.{view}
use Rattle.cable_definitions.specs.Items.{AType}
use Rattle.run_definitions.specs.Json.{whole, has_exactly}
use Rattle.site_json.proofs.Misshapen.{at_none, misshapen_in}
use Rattle.site_json.proofs.items.type_with_loss.Goals as goal

pub returns-in_err-capacity : goal.returns-in_err-capacity
returns-in_err-capacity c =
    let none : whole (get (codes "capacity") (view c.args.member.now)) ≡ None = sym c.whole_at.ensures ∙ c.in_err-capacity.was in
    at_none _ _ _ c.from_residual.ensures (misshapen_in (has_exactly (codes "capacity" ∷ codes "price" ∷ codes "loss" ∷ []) (view c.args.member.now)) (AType (whole (get (codes "capacity") (view c.args.member.now))) (whole (get (codes "price") (view c.args.member.now))) (whole (get (codes "loss") (view c.args.member.now)))) 0 (lit< tt) none)

pub returns-in_err-price : goal.returns-in_err-price
returns-in_err-price c =
    let none : whole (get (codes "price") (view c.args.member.now)) ≡ None = sym c.whole_at-2.ensures ∙ c.in_err-price.was in
    at_none _ _ _ c.from_residual-in_err-price.ensures (misshapen_in (has_exactly (codes "capacity" ∷ codes "price" ∷ codes "loss" ∷ []) (view c.args.member.now)) (AType (whole (get (codes "capacity") (view c.args.member.now))) (whole (get (codes "price") (view c.args.member.now))) (whole (get (codes "loss") (view c.args.member.now)))) 1 (lit< tt) none)

pub returns-in_err-loss : goal.returns-in_err-loss
returns-in_err-loss c =
    let none : whole (get (codes "loss") (view c.args.member.now)) ≡ None = sym c.whole_at-3.ensures ∙ c.in_err-loss.was in
    at_none _ _ _ c.from_residual-in_err-loss.ensures (misshapen_in (has_exactly (codes "capacity" ∷ codes "price" ∷ codes "loss" ∷ []) (view c.args.member.now)) (AType (whole (get (codes "capacity") (view c.args.member.now))) (whole (get (codes "price") (view c.args.member.now))) (whole (get (codes "loss") (view c.args.member.now)))) 2 (lit< tt) none)
