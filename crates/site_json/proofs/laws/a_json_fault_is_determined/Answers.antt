use Rattle.site_json.proofs.Excluding.{json_fault_same}
use Rattle.site_json.proofs.laws.a_json_fault_is_determined.Goals as goal

pub returns : goal.returns
returns c = json_fault_same
