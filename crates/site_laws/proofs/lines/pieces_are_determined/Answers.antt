use Rattle.site_laws.proofs.Pieces.{same_piece, same_rest, same_end}
use Rattle.site_laws.proofs.lines.pieces_are_determined.Goals as goal

pub returns-clause-piece : goal.returns-clause-piece
returns-clause-piece c = same_piece

pub returns-clause-line : goal.returns-clause-line
returns-clause-line c = same_rest

pub returns-clause-end : goal.returns-clause-end
returns-clause-end c = same_end
