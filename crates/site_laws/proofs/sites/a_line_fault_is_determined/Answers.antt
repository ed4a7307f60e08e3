use Rattle.site_laws.proofs.Runs.{line_fault_same}
use Rattle.site_laws.proofs.sites.a_line_fault_is_determined.Goals as goal

pub returns : goal.returns
returns c = line_fault_same
