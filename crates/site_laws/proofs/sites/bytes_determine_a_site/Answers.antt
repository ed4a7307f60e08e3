use Rattle.site_laws.proofs.Fronts.{one_in_front}
use Rattle.site_laws.proofs.sites.bytes_determine_a_site.Goals as goal

pub returns : goal.returns
returns c = one_in_front
