use Rattle.document_laws.proofs.Going.{goes-same}
use Rattle.document_laws.proofs.reading.going_on_is_determined.Goals as goal

pub returns : goal.returns
returns c = λ s arcs r l next other valid. goes-same s valid arcs r l next other
