use Rattle.site_json.proofs.Excluding.{front_no_fault}
use Rattle.site_json.proofs.laws.front_sites_have_no_fault.Goals as goal

pub returns : goal.returns
returns c = front_no_fault
