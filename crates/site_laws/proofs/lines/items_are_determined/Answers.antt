use Rattle.site_laws.proofs.LineItems.{next_item, next_rest}
use Rattle.site_laws.proofs.lines.items_are_determined.Goals as goal

pub returns-clause-item : goal.returns-clause-item
returns-clause-item c = next_item

pub returns-clause-rest : goal.returns-clause-rest
returns-clause-rest c = next_rest
