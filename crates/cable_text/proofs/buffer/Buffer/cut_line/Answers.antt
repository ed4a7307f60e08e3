-- The place of the newline among the pending bytes.
use Rattle.std.proofs.Common.{◌+◌, drop, ap, sym, ◌∙◌, arith, length-drop}
use Rattle.std.proofs.lemmas.List.{take_rest, get_or-drop}
use Rattle.cable_text.proofs.Pending.{HasNoNewline-behind, HasNoNewline-whole, IsCut-at}
use Rattle.cable_text.proofs.buffer.Buffer.cut_line.Goals as goal

pub returns-in-Some-clause-found : goal.returns-in-Some-clause-found
returns-in-Some-clause-found c =
    let p = c.args.self.now.pending in
    let from = c.args.from in
    let place = c.in-Some.place in
    let part = take_rest c.pending.result.now from ∙ ap (drop from) c.pending.ensures.bytes in
    let within = rw part at c.in-Some.ensures.within in
    let found = rw part at c.in-Some.ensures.found in
    let before = rw part at c.in-Some.ensures.before in
    IsCut-at p c.cut.new.self (from + place) (omega (arith, within, length-drop from p)) c.pending.ensures.room (sym (get_or-drop from p place 0) ∙ found)
    (HasNoNewline-behind p from place c.requires.within c.requires.before before) c.cut.ensures.text c.cut.ensures.pending

pub returns-in-None-clause-plain : goal.returns-in-None-clause-plain
returns-in-None-clause-plain c =
    let from = c.args.from in
    let part = take_rest c.pending.result.now from ∙ ap (drop from) c.pending.ensures.bytes in
    HasNoNewline-whole c.args.self.now.pending from c.requires.before (rw part at c.in-None.ensures.none)
