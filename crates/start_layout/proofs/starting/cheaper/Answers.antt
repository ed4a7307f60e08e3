use Rattle.start_layout.proofs.Comparing.{within_where_illegal, within_judged, one_of_two}
use Rattle.start_layout.proofs.starting.cheaper.Goals as goal

pub returns-in-None-clause-within : goal.returns-in-None-clause-within
returns-in-None-clause-within c = within_where_illegal c.args.site.now c.args.straight c.args.incumbent c.in-None.ensures.none

pub returns-in-Some-clause-within : goal.returns-in-Some-clause-within
returns-in-Some-clause-within c =
    within_judged c.args.site.now c.args.straight c.in-Some.straight c.lesser.result c.in-Some.ensures.some c.in-Some.ensures.same c.lesser.ensures.within

pub returns-in-Some-clause-incumbent : goal.returns-in-Some-clause-incumbent
returns-in-Some-clause-incumbent c =
    one_of_two c.args.site.now c.args.incumbent c.in-Some.straight c.lesser.result c.requires c.in-Some.ensures.some c.lesser.ensures.either
