use Rattle.std.proofs.lemmas.Result.{err_from_is_err_and}
use Rattle.serde_json.specs.Find.{as_array}
use Rattle.serde_json.specs.View.{view}
use Rattle.run_definitions.specs.Json.{raw_obstacle, raw_obstacles}
use Rattle.site_json.proofs.Leading.{Leads-more, Leads-end, Fails-more, Fails-front}
use Rattle.site_json.proofs.Joining.{joins_obstacles}
use Rattle.site_json.proofs.Refusing.{passed_on}
use Rattle.std.proofs.Common.{[]}
use Rattle.site_json.proofs.lists.add_obstacles.Goals as goal

pub returns-in_err-placed-clause-refused : goal.returns-in_err-placed-clause-refused
returns-in_err-placed-clause-refused c = λ code place broken e.
    let p = err_from_is_err_and c.from_residual.result c.from_residual.ensures.1 in
    Fails-more raw_obstacles joins_obstacles c.args.obstacles.now c.loop-member.member-index c.member-item.result c.args.builder.now c.loop-member.builder c.args.before c.loop-member.placed code place broken
    c.loop-member-test.true c.member-item.is c.loop-member.invariant.leads
    (Fails-front c.loop-member.builder c.loop-member.placed (raw_obstacle (as_array (view c.member-item.result))) [] code place broken
    (c.in_err-placed.ensures.refused code place broken (passed_on c.from_residual.result p.0 c.in_err-placed.field-0.0 _ p.1 p.2 e)))

pub loop-member-preserved : goal.loop-member-preserved
loop-member-preserved c = record {
  leads = Leads-more raw_obstacles joins_obstacles c.args.obstacles.now c.loop-member.member-index c.member-item.result c.args.builder.now c.loop-member.builder c.add_obstacle.new.builder c.args.before c.loop-member.placed c.in_ok-placed.placed
      c.loop-member-test.true c.member-item.is c.loop-member.invariant.leads
      (Leads-end c.loop-member.builder c.add_obstacle.new.builder c.loop-member.placed c.in_ok-placed.placed (raw_obstacle (as_array (view c.member-item.result))) c.in_ok-placed.ensures.leads);
  takes = c.in_ok-placed.ensures.takes;
}
