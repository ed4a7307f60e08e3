use Rattle.std.specs.Prelude.{Ok, Err}
use Rattle.cable_rows.proofs.Pools.{searched_member}
use Rattle.cable_rows.proofs.pool.RowPool.has_arc.Goals as goal

pub returns-in-Ok : goal.returns-in-Ok
returns-in-Ok c = λ r e k. searched_member c.members.result.now r.members c.args.arc (Ok c.in-Ok.field-0) (c.members.ensures.members r e) (c.members.ensures.ascending r e) c.in-Ok.ensures.position

pub returns-in-Err : goal.returns-in-Err
returns-in-Err c = λ r e k. searched_member c.members.result.now r.members c.args.arc (Err c.in-Err.field-0) (c.members.ensures.members r e) (c.members.ensures.ascending r e) c.in-Err.ensures.position
