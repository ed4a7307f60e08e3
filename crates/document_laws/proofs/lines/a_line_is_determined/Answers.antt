use Rattle.document_laws.proofs.Decoding.{line-same}
use Rattle.document_laws.proofs.lines.a_line_is_determined.Goals as goal

pub returns : goal.returns
returns c = line-same
