use Rattle.site_json.proofs.Excluding.{json_no_fault}
use Rattle.site_json.proofs.laws.json_sites_have_no_fault.Goals as goal

pub returns : goal.returns
returns c = json_no_fault
