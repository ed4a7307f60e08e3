use Rattle.std.proofs.Common.{length, sym, ap, ◌∙◌}
use Rattle.proof_checker.proofs.Acting.{marks_count}
use Rattle.proof_checker.proofs.works.mark_arcs.Goals as goal

pub returns-clause-count : goal.returns-clause-count
returns-clause-count c = ap length (c.decisions.ensures c.args.arcs.now (sym c.requires.tree_arcs)) ∙ marks_count c.args.arcs.now c.args.tree.now.nodes c.args.node
