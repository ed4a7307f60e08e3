use Rattle.layout_laws.proofs.Ending.{leaves-by}
use Rattle.layout_laws.proofs.walks.leaving_a_set.Goals as goal

pub returns : goal.returns
returns c = leaves-by
