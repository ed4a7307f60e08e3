use Rattle.document_laws.proofs.Runs.{runs-agree, cause-ends, first-same}
use Rattle.document_laws.proofs.reading.reading_is_determined.Goals as goal

pub returns-clause-runs : goal.returns-clause-runs
returns-clause-runs c = λ s arcs r bytes lines others stop end left rest valid. runs-agree s arcs valid r bytes lines others stop end left rest

pub returns-clause-ends : goal.returns-clause-ends
returns-clause-ends c = λ s arcs stop end left rest further piece cause more. cause-ends s arcs stop end left rest further piece cause more

pub returns-clause-cause : goal.returns-clause-cause
returns-clause-cause c = first-same
