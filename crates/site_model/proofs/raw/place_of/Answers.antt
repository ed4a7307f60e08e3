use Rattle.std.proofs.Common.{pos, neg_ℤ, [], ◌∷◌, Some, refl, arith}
use Rattle.cable_definitions.specs.Items.{coordinate}
use Rattle.site_model.proofs.Ranges.{All-IsWithin-not}
use Rattle.site_model.proofs.raw.place_of.Goals as goal

pub returns-in_err-x : goal.returns-in_err-x
returns-in_err-x c =
    rw c.from_residual.ensures
    (All-IsWithin-not (coordinate (Some c.args.x) ∷ coordinate (Some c.args.y) ∷ []) 0 c.args.x (neg_ℤ (pos 1000000)) (pos 1000000) (omega arith) refl c.ranges.x c.in_err-x.ensures)

pub returns-in_err-y : goal.returns-in_err-y
returns-in_err-y c =
    rw c.from_residual-in_err-y.ensures
    (All-IsWithin-not (coordinate (Some c.args.x) ∷ coordinate (Some c.args.y) ∷ []) 1 c.args.y (neg_ℤ (pos 1000000)) (pos 1000000) (omega arith) refl c.ranges.y c.in_err-y.ensures)
