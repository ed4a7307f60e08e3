use Rattle.site_json.proofs.Excluding.{site_same}
use Rattle.site_json.proofs.laws.bytes_determine_a_site.Goals as goal

pub returns : goal.returns
returns c = site_same
