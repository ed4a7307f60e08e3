use Rattle.plan_report.proofs.Legal.{legal_reported}
use Rattle.site_tests.proofs.reports.reported.Goals as goal

pub text_of-requires-clause-cables : goal.text_of-requires-clause-cables
text_of-requires-clause-cables g c = legal_reported c.args.site.now c.loop-from.layout c.in-Legal.ensures.0
