use Rattle.std.proofs.Common.{Some, sym, subst}
use Rattle.cable_definitions.specs.Choice.{AreLawful}
use Rattle.search_core.proofs.RaisedChoice.{settled-at, settled-there, none-lawful, bare-chosen, chosen-passed}
use Rattle.search_core.proofs.choice.choose.Goals as goal

pub returns-in-Some-clause-lawful : goal.returns-in-Some-clause-lawful
returns-in-Some-clause-lawful g c = subst (AreLawful c.args.pool.now) (sym c.clear.ensures) (none-lawful c.args.pool.now)

pub returns-in-Some-clause-chosen : goal.returns-in-Some-clause-chosen
returns-in-Some-clause-chosen g c =
    let s = c.args.site.now in
    let arcs = c.args.arcs.now in
    let rows = c.args.pool.now in
    let marks = c.args.decisions.now in
    let closed = Some c.in-Some.choice in
    let settled = settled-there s arcs rows marks c.new-node.result c.args.known _ closed c.new-node.ensures c.in-Some.ensures.settled in
    bare-chosen s arcs rows marks c.args.known c.args.parent c.weigh.result c.clear.new.self c.in-Some.choice c.weigh.ensures.value
    (settled-at s arcs rows marks c.args.known c.args.parent c.weigh.result c.rounded_bound-bare.result closed c.requires.parent c.requires.parent_small c.weigh.ensures.small c.rounded_bound-bare.ensures.bound
    c.rounded_bound-bare.ensures.at_least c.rounded_bound-bare.ensures.small settled)

pub returns-in-None-clause-chosen : goal.returns-in-None-clause-chosen
returns-in-None-clause-chosen g c =
    chosen-passed c.args.site.now c.args.arcs.now c.choose_with_rows.new.pool c.args.decisions.now c.args.known c.args.parent c.choose_with_rows.new.weights c.choose_with_rows.result c.requires.parent
    c.requires.parent_small c.choose_with_rows.ensures.chosen
