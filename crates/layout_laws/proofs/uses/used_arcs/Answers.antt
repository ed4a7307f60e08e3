use Rattle.layout_laws.proofs.Used.{sum_int-used_arcs}
use Rattle.layout_laws.proofs.uses.used_arcs.Goals as goal

pub returns : goal.returns
returns c = sum_int-used_arcs
