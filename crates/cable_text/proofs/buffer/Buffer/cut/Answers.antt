-- The bytes behind the line.
use Rattle.std.proofs.Common.{◌+◌, ◌<◌, ◌-◌, length, ap, drop, ◌∙◌, arith, length-take}
use Rattle.cable_text.proofs.Pending.{pending_cut}
use Rattle.cable_text.proofs.buffer.Buffer.cut.Goals as goal

pub returns-clause-pending : goal.returns-clause-pending
returns-clause-pending c =
    let b = c.self.inside in
    let view = ap (λ s. s.pending) c.self.view_is in
    let inside : c.args.len < b.end - b.start = omega (arith, ap length view, length-take (b.end - b.start) (drop b.start b.bytes.items), c.requires) in
    pending_cut b.bytes.items b.start b.end c.args.len inside ∙ ap (drop (c.args.len + 1)) view
