use Rattle.std.proofs.Common.{[], sym, subst}
use Rattle.search_core.proofs.Stepping.{did-nothing, did-take, takes-pool}
use Rattle.cable_definitions.specs.Core.{Take}
use Rattle.search_progress.specs.Progress.{HasFirstRoom}
use Rattle.search_core.proofs.FirstWork.{room-takes}
use Rattle.search_core.proofs.events.take_node.Goals as goal

pub returns-in_default-clause-did : goal.returns-in_default-clause-did
returns-in_default-clause-did c = λ s arcs n h. did-nothing s arcs n c.args.progress.now _ (Take c.args.lane) (λ items. c.in_default.ensures.not_possible s arcs n items h) c.in_default.ensures.same

pub returns-clause-did : goal.returns-clause-did
returns-clause-did c = λ s arcs n h. did-take s arcs n c.args.progress.now c.take.new.self c.args.lane c.in-Some.node (λ items. c.in-Some.ensures.takes s arcs n items h) c.in-Some.ensures.node

pub returns-clause-lists : goal.returns-clause-lists
returns-clause-lists c = λ s arcs n h. takes-pool s arcs n [] c.args.lane c.args.progress.now c.take.new.self (c.in-Some.ensures.takes s arcs n [] h)

pub returns-in_default-clause-room : goal.returns-in_default-clause-room
returns-in_default-clause-room c = λ s arcs n h room. subst HasFirstRoom (sym c.in_default.ensures.same) room

pub returns-clause-room : goal.returns-clause-room
returns-clause-room c = λ s arcs n h room. room-takes s n [] c.args.lane c.args.progress.now c.take.new.self (c.in-Some.ensures.takes s arcs n [] h) room
