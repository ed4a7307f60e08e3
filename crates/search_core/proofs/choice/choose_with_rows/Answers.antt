use Rattle.std.proofs.Common.{ℕ, ℤ, List, sym, subst}
use Rattle.cable_definitions.specs.Choice.{IsValue}
use Rattle.search_core.proofs.Lasting.{beaten-still}
use Rattle.search_core.proofs.Listing.{lists-points}
use Rattle.search_core.proofs.RaisedChoice.{closed-chosen, split-chosen, some-free, passed-small}
use Rattle.search_core.proofs.choice.choose_with_rows.Goals as goal

pub returns-in-Some-clause-chosen : goal.returns-in-Some-clause-chosen
returns-in-Some-clause-chosen g c =
    closed-chosen c.args.site.now c.args.arcs.now c.sharpen.new.pool c.args.decisions.now c.args.known c.args.parent c.sharpen.new.worth c.in_ok-weights.field-0 c.in_ok-closed.closed c.in-Some.choice
    c.requires.parent c.requires.parent_small c.in_ok-closed.ensures.raised c.in_ok-weights.ensures c.in_ok-closed.ensures.settled c.in-Some.is

pub free_arc-requires-clause-some_free : goal.free_arc-requires-clause-some_free
free_arc-requires-clause-some_free g c =
    some-free c.args.site.now c.args.arcs.now c.sharpen.new.pool c.args.decisions.now c.args.known _ c.sharpen.new.worth.value c.in_ok-closed.closed c.points-valid.ensures.valid c.requires.arcs
    c.requires.marks_count (lists-points c.args.site.now c.args.arcs.now c.args.pool.now c.sharpen.new.pool c.sharpen.ensures.lists c.requires.rows) c.in_ok-closed.ensures.settled c.in-None.is

pub returns-clause-chosen : goal.returns-clause-chosen
returns-clause-chosen g c =
    split-chosen c.args.site.now c.args.arcs.now c.sharpen.new.pool c.args.decisions.now c.args.known c.args.parent c.sharpen.new.worth c.in_ok-weights.field-0 c.in_ok-closed.closed c.free_arc.result
    c.rounded_bound.result c.requires.parent c.requires.parent_small c.in_ok-closed.ensures.raised c.in_ok-weights.ensures c.in_ok-closed.ensures.settled c.in-None.is c.free_arc.ensures
    c.rounded_bound.ensures.at_least c.rounded_bound.ensures.small c.rounded_bound.ensures.bound

pub returns-clause-small : goal.returns-clause-small
returns-clause-small g c =
    passed-small c.args.parent c.rounded_bound.result c.requires.parent c.requires.parent_small c.rounded_bound.ensures.small c.rounded_bound.ensures.at_least

pub returns-clause-last : goal.returns-clause-last
returns-clause-last g c = λ a e lawful.
    let first = c.in_ok-worth.ensures.raised in
    let then = c.in_ok-closed.ensures.raised in
    beaten-still c.args.site.now c.args.arcs.now c.args.pool.now c.args.pool.now c.sharpen.new.pool c.args.decisions.now c.args.last.now c.in_ok-worth.worth.weights c.in_ok-weights.field-0
    c.in_ok-worth.worth.value c.sharpen.new.worth.value (c.in_ok-worth.ensures.last lawful) first.is_value
    (subst (λ (ws : List (ℕ × ℤ)). IsValue c.args.site.now c.args.arcs.now c.sharpen.new.pool c.args.decisions.now ws c.sharpen.new.worth.value) (sym c.in_ok-weights.ensures) then.is_value)
    c.in_ok-closed.ensures.risen
