use Rattle.document_laws.proofs.Judged.{judged-same}
use Rattle.document_laws.proofs.judging.judging_is_determined.Goals as goal

pub returns : goal.returns
returns c = λ bytes s t cables others h k. let same = judged-same bytes s t cables others h k in (same.sites, same.lists)
