use Rattle.std.proofs.Common.{ap, codes, ◌∷◌}
use Rattle.cable_definitions.specs.Text.{line, why_words}
use Rattle.cable_text.proofs.Writers.{written_as}
use Rattle.proof_lines.proofs.write.push_why.Goals as goal

pub returns-in-Power : goal.returns-in-Power
returns-in-Power g c = written_as c.push_reason-in-Power.ensures (ap (λ w. line (codes "dead" ∷ why_words w)) c.in-Power.is)
