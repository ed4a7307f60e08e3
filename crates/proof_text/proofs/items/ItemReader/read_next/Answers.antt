use Rattle.std.proofs.Common.{subst, arith}
use Rattle.proof_text.specs.declared.items.Next.{Next}
use Rattle.cable_text.specs.Lines.{ahead}
use Rattle.proof_text.specs.Items.{ReadsItemLine}
use Rattle.proof_text.proofs.WeightLines.{work_read, rest_refused}
use Rattle.proof_text.proofs.items.ItemReader.read_next.Goals as goal

pub read_work-requires-clause-room : goal.read_work-requires-clause-room
read_work-requires-clause-room g c =
    (subst (λ item. ReadsItemLine (ahead c.args.lines.now (g.S.Source.state c.args.src.now)) (ahead c.read_item.new.lines (g.S.Source.state c.read_item.new.src)) item c.read_item.new.members) c.in-Ok-Work.field-0-is c.in-Ok-Work.ensures.reads).1

pub returns-in-Ok-clause-reads : goal.returns-in-Ok-clause-reads
returns-in-Ok-clause-reads g c = (
  work_read (ahead c.args.lines.now (g.S.Source.state c.args.src.now)) (ahead c.read_item.new.lines (g.S.Source.state c.read_item.new.src)) (ahead c.read_work.new.lines (g.S.Source.state c.read_work.new.src)) c.in-Ok-Work.node c.in-Ok-Work.count c.read_work.new.weights c.in-Ok.act c.read_item.new.members
      (subst (λ item. ReadsItemLine (ahead c.args.lines.now (g.S.Source.state c.args.src.now)) (ahead c.read_item.new.lines (g.S.Source.state c.read_item.new.src)) item c.read_item.new.members) c.in-Ok-Work.field-0-is c.in-Ok-Work.ensures.reads) c.in-Ok.ensures.length c.in-Ok.ensures.reads,
  omega (arith, c.in-Ok.ensures.lines, c.in-Ok.ensures.length, c.in-Ok-Work.ensures.line.lines),
)

pub returns-in-Err-read_work-clause-refused : goal.returns-in-Err-read_work-clause-refused
returns-in-Err-read_work-clause-refused g c =
    rest_refused Next c.in-Err-read_work.fault (ahead c.args.lines.now (g.S.Source.state c.args.src.now)) (ahead c.read_item.new.lines (g.S.Source.state c.read_item.new.src)) c.args.lines.now.lines c.read_item.new.lines.lines c.in-Ok-Work.node c.in-Ok-Work.count c.read_item.new.members
    (subst (λ item. ReadsItemLine (ahead c.args.lines.now (g.S.Source.state c.args.src.now)) (ahead c.read_item.new.lines (g.S.Source.state c.read_item.new.src)) item c.read_item.new.members) c.in-Ok-Work.field-0-is c.in-Ok-Work.ensures.reads) c.in-Ok-Work.ensures.line.lines c.in-Err-read_work.ensures.refused
