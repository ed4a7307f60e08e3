use Rattle.site_json.proofs.Excluding.{plan_fault_same}
use Rattle.site_json.proofs.laws.a_plan_fault_is_determined.Goals as goal

pub returns : goal.returns
returns c = plan_fault_same
