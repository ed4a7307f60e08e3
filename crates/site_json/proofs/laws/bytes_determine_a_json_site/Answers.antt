use Rattle.site_json.proofs.Excluding.{json_same}
use Rattle.site_json.proofs.laws.bytes_determine_a_json_site.Goals as goal

pub returns : goal.returns
returns c = json_same
