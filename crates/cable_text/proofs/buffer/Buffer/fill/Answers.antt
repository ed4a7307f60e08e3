-- The bytes that were pulled stand behind those that were pending.
use Rattle.std.proofs.Common.{◌≡◌, ◌+◌, ◌-◌, length, take, drop, ap, ◌∙◌, arith, length-drop, ◌++◌}
use Rattle.std.proofs.lemmas.List.{take_at, take-append-le}
use Rattle.cable_text.specs.Lines.{to_come}
use Rattle.cable_text.proofs.buffer.Buffer.fill.Goals as goal

pub returns-clause-bytes : goal.returns-clause-bytes
returns-clause-bytes g c =
    let b = c.self.inside in
    let v = c.self.invariant in
    let x = c.pull_behind.new.storage in
    let items = c.rotate_left.new.self.items in
    let e = b.end - b.start in
    let n = c.in_ok-count.count in
    let size = c.pull_behind.auto.storage ∙ c.deref_mut.ensures.len in
    let all : take c.rotate_left.new.self.len (x ++ drop (length x) items) ≡ x = take_at x (drop (length x) items) _ size in
    let sum : e + n - 0 ≡ e + n = omega arith in
    let view = ap (λ s. s.pending) c.self.view_is in
    let front = ap (take e) (c.deref_mut.ensures.value ∙ c.rotate_left.ensures.items)
    ∙ take-append-le e (drop b.start b.bytes.items) (take b.start b.bytes.items) (omega (arith, length-drop b.start b.bytes.items, v.0, v.4)) ∙ view in
    rw (all, sum) (c.in_ok-count.ensures.bytes ∙ ap (λ xs. to_come xs (g.S.Source.state c.args.src.now).bytes) front)
