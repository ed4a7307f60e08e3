use Rattle.site_laws.proofs.Building.{no_fault}
use Rattle.site_laws.proofs.items.good_items_have_no_fault.Goals as goal

pub returns : goal.returns
returns c = no_fault
