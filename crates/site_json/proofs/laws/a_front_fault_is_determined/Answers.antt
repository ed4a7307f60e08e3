use Rattle.site_json.proofs.Excluding.{front_fault_same}
use Rattle.site_json.proofs.laws.a_front_fault_is_determined.Goals as goal

pub returns : goal.returns
returns c = front_fault_same
