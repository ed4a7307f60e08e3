use Rattle.site_laws.proofs.Building.{item_fault_same}
use Rattle.site_laws.proofs.items.an_item_fault_is_determined.Goals as goal

pub returns : goal.returns
returns c = item_fault_same
