use Rattle.site_laws.proofs.Fronts.{site_items}
use Rattle.site_laws.proofs.sites.valid_sites_are_good_items.Goals as goal

pub returns : goal.returns
returns c = site_items
