use Rattle.std.proofs.Common.{◌≡◌, Some, slice_get, subst}
use Rattle.std.specs.Prelude.{IsTrue, ◌↔◌}
use Rattle.cable_definitions.specs.Row.{Row}
use Rattle.cable_definitions.specs.Tree.{CannotMeet}
use Rattle.node_reasons.specs.Node.{NodeParts}
use Rattle.node_reasons.proofs.rows.cannot_meet.Goals as goal

pub returns : goal.returns
returns c =
    subst (λ (n : NodeParts). (r : Row) → slice_get c.args.pool.now c.args.row ≡ Some r → IsTrue c.cannot_be_met.result ↔ CannotMeet n.site n.arcs n.marks r) c.node.view_is c.cannot_be_met.ensures
