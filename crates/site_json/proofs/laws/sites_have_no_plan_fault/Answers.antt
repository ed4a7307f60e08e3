use Rattle.site_json.proofs.Excluding.{site_no_fault}
use Rattle.site_json.proofs.laws.sites_have_no_plan_fault.Goals as goal

pub returns : goal.returns
returns c = site_no_fault
