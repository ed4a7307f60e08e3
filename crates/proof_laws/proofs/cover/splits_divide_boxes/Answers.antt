use Rattle.proof_laws.proofs.Growing.{used-child, unused-child, one-child}
use Rattle.proof_laws.proofs.cover.splits_divide_boxes.Goals as goal

pub returns-clause-used : goal.returns-clause-used
returns-clause-used c = used-child

pub returns-clause-unused : goal.returns-clause-unused
returns-clause-unused c = unused-child

pub returns-clause-one_of : goal.returns-clause-one_of
returns-clause-one_of c = one-child
