use Rattle.std.proofs.Common.{Some, pos, refl, arith}
use Rattle.cable_definitions.specs.Items.{fields_of, AType}
use Rattle.site_model.proofs.Ranges.{All-IsWithin-not}
use Rattle.site_model.proofs.raw.type_of.Goals as goal

pub returns-in_err-capacity : goal.returns-in_err-capacity
returns-in_err-capacity c =
    rw c.from_residual.ensures
    (All-IsWithin-not (fields_of (AType (Some c.args.capacity) (Some c.args.price) (Some c.args.loss))) 0 c.args.capacity (pos 1) (pos 10000) (omega arith) refl c.ranges.capacity c.in_err-capacity.ensures)

pub returns-in_err-price : goal.returns-in_err-price
returns-in_err-price c =
    rw c.from_residual-in_err-price.ensures
    (All-IsWithin-not (fields_of (AType (Some c.args.capacity) (Some c.args.price) (Some c.args.loss))) 1 c.args.price (pos 0) (pos 1000000) (omega arith) refl c.ranges.price c.in_err-price.ensures)

pub returns-in_err-loss : goal.returns-in_err-loss
returns-in_err-loss c =
    rw c.from_residual-in_err-loss.ensures
    (All-IsWithin-not (fields_of (AType (Some c.args.capacity) (Some c.args.price) (Some c.args.loss))) 2 c.args.loss (pos 0) (pos 100) (omega arith) refl c.ranges.loss c.in_err-loss.ensures)
