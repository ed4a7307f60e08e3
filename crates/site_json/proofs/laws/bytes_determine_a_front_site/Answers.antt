use Rattle.site_json.proofs.Excluding.{front_same}
use Rattle.site_json.proofs.laws.bytes_determine_a_front_site.Goals as goal

pub returns : goal.returns
returns c = front_same
