use Rattle.layout_laws.proofs.Sets.{power-le-loads_out_of}
use Rattle.layout_laws.proofs.loads.loads_out_of_sets.Goals as goal

pub returns : goal.returns
returns c = power-le-loads_out_of
