use Rattle.search_laws.proofs.Ending.{enough-unspent}
use Rattle.search_laws.proofs.ends.enough_is_never_spent.Goals as goal

pub returns : goal.returns
returns c = enough-unspent
