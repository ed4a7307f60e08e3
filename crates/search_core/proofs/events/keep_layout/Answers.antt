use Rattle.std.proofs.Common.{[], refl, sym, subst}
use Rattle.cable_definitions.specs.Core.{Found}
use Rattle.search_core.proofs.Stepping.{did-nothing, did-keep, finds-pool}
use Rattle.search_progress.specs.Progress.{HasFirstRoom}
use Rattle.search_core.proofs.FirstWork.{room-finds}
use Rattle.search_core.proofs.events.keep_layout.Goals as goal

pub returns-then-not-find-clause-did : goal.returns-then-not-find-clause-did
returns-then-not-find-clause-did c = λ arcs n h.
    did-nothing c.args.site.now arcs n c.args.progress.now _ (Found c.args.layout.now) (λ items possible. c.find.ensures.dearer c.if-not-find.true arcs n h possible.1) (c.find.ensures.same c.if-not-find.true)

pub returns-clause-did : goal.returns-clause-did
returns-clause-did c = λ arcs n h. did-keep c.args.site.now arcs n c.args.progress.now c.find.new.self c.args.layout.now (λ items. c.if-not-find.ensures.finds refl arcs n items h)

pub returns-clause-lists : goal.returns-clause-lists
returns-clause-lists c = λ arcs n h. finds-pool c.args.site.now arcs [] c.args.layout.now c.args.progress.now c.find.new.self (c.if-not-find.ensures.finds refl arcs n [] h)

pub returns-then-not-find-clause-room : goal.returns-then-not-find-clause-room
returns-then-not-find-clause-room c = λ arcs n h room. subst HasFirstRoom (sym (c.find.ensures.same c.if-not-find.true)) room

pub returns-clause-room : goal.returns-clause-room
returns-clause-room c = λ arcs n h room. room-finds c.args.site.now [] c.args.layout.now c.args.progress.now c.find.new.self (c.if-not-find.ensures.finds refl arcs n [] h) room
