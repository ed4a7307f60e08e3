use Rattle.std.proofs.Common.{List, ℕ, Option, subst, IfSome, IfNone}
use Rattle.std.proofs.lemmas.Result.{IfOk-weaker}
use Rattle.cable_definitions.specs.declared.cable.Cable.{Cable}
use Rattle.cable_definitions.specs.Layout.{Least, HasNone}
use Rattle.plain_planner.specs.Choices.{Completes, IsBestTried}
use Rattle.plain_planner.proofs.Best.{none_at_all, least_of_all}
use Rattle.plain_planner.proofs.cheapest_layout.Goals as goal

pub returns-clause-none : goal.returns-clause-none
returns-clause-none c =
    let s = c.args.site.now in
    IfOk-weaker c.best_from.result (λ (best : Option (List Cable × ℕ)). IsBestTried s (Completes s c.new-chosen.result.items 0) best) (λ (best : Option (List Cable × ℕ)). IfNone best (HasNone s))
    (λ best h. none_at_all s best c.requires.one_type c.requires.no_bends (subst (λ (xs : List Cable). IsBestTried s (Completes s xs 0) best) c.new-chosen.ensures.items h)) c.best_from.ensures.best

pub returns-clause-least : goal.returns-clause-least
returns-clause-least c =
    let s = c.args.site.now in
    IfOk-weaker c.best_from.result (λ (best : Option (List Cable × ℕ)). IsBestTried s (Completes s c.new-chosen.result.items 0) best) (λ (best : Option (List Cable × ℕ)). IfSome best (λ b. Least s b.1))
    (λ best h. least_of_all s best c.requires.one_type c.requires.no_bends (subst (λ (xs : List Cable). IsBestTried s (Completes s xs 0) best) c.new-chosen.ensures.items h)) c.best_from.ensures.best
