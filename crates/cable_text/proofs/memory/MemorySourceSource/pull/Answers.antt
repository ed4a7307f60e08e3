-- The piece that was copied stands at the front of the buffer.
use Rattle.std.proofs.Common.{drop, Some, ap, sym, ◌∙◌, arith}
use Rattle.std.proofs.lemmas.List.{drop-drop, take_rest}
use Rattle.cable_text.proofs.Held.{piece_given}
use Rattle.cable_text.proofs.memory.MemorySourceSource.pull.Goals as goal

pub returns-clause-bytes : goal.returns-clause-bytes
returns-clause-bytes c =
    let items = c.self.inside.bytes.items in
    let start = c.self.inside.start in
    let n = c.min-count.result in
    let whole = c.deref-2.ensures.value in
    let after = rw (whole, take_rest items start) at c.copy_from_slice.ensures.after in
    let least = rw (whole, take_rest items start) at c.min.ensures in
    let view = ap (λ s. s.left) c.self.view_is in
    (drop n (drop start items), sym view ∙ piece_given (drop start items) c.copy_from_slice.new.self c.args.buf.now n after (omega (arith, c.min-count.ensures, least)), ap Some (sym (drop-drop n start items)))
