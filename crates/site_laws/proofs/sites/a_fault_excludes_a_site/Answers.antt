use Rattle.site_laws.proofs.Fronts.{no_fault_in_front}
use Rattle.site_laws.proofs.sites.a_fault_excludes_a_site.Goals as goal

pub returns : goal.returns
returns c = no_fault_in_front
