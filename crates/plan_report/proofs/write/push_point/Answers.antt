use Rattle.plan_report.proofs.Legal.{reported_joins}
use Rattle.plan_report.proofs.write.push_point.Goals as goal

pub load_into-requires-clause-points : goal.load_into-requires-clause-points
load_into-requires-clause-points g c = reported_joins c.args.flows.now.site c.args.flows.now.cables c.requires.cables
