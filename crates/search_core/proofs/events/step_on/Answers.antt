use Rattle.search_core.proofs.Stepping.{never-by_take, never-by_found, ok-value}
use Rattle.search_core.proofs.events.step_on.Goals as goal

pub returns-in-Take-clause-called : goal.returns-in-Take-clause-called
returns-in-Take-clause-called g c = λ from to arc e act.
    absurd (never-by_take _ _ _ _ _ _ _ from to (c.take_node-step.ensures.did c.args.site.now c.args.arcs.now c.requires.searching.0 c.requires.searching.1) (ok-value _ _ e))

pub returns-in-Take-clause-lists : goal.returns-in-Take-clause-lists
returns-in-Take-clause-lists g c = c.take_node-step.ensures.lists c.args.site.now c.args.arcs.now c.requires.searching.0 c.requires.searching.1

pub returns-in-Found-clause-called : goal.returns-in-Found-clause-called
returns-in-Found-clause-called g c = λ from to arc e act.
    absurd (never-by_found _ _ _ _ _ _ _ from to (c.keep_layout-step.ensures.did c.args.arcs.now c.requires.searching.0 c.requires.searching.1) (ok-value _ _ e))

pub returns-in-Found-clause-lists : goal.returns-in-Found-clause-lists
returns-in-Found-clause-lists g c = c.keep_layout-step.ensures.lists c.args.arcs.now c.requires.searching.0 c.requires.searching.1

pub returns-in-Take-clause-floor : goal.returns-in-Take-clause-floor
returns-in-Take-clause-floor g c = λ from to n made e first h is.
    absurd (never-by_take _ _ _ _ _ _ _ from to (c.take_node-step.ensures.did c.args.site.now c.args.arcs.now c.requires.searching.0 c.requires.searching.1) (ok-value _ _ e))

pub returns-in-Found-clause-floor : goal.returns-in-Found-clause-floor
returns-in-Found-clause-floor g c = λ from to n made e first h is.
    absurd (never-by_found _ _ _ _ _ _ _ from to (c.keep_layout-step.ensures.did c.args.arcs.now c.requires.searching.0 c.requires.searching.1) (ok-value _ _ e))

pub returns-in-Take-clause-room : goal.returns-in-Take-clause-room
returns-in-Take-clause-room g c = c.take_node-step.ensures.room c.args.site.now c.args.arcs.now c.requires.searching.0 c.requires.searching.1 c.requires.room

pub returns-in-Found-clause-room : goal.returns-in-Found-clause-room
returns-in-Found-clause-room g c = c.keep_layout-step.ensures.room c.args.arcs.now c.requires.searching.0 c.requires.searching.1 c.requires.room
