use Rattle.candidate_cables.proofs.Numbering.{into_more, count_more}
use Rattle.candidate_cables.proofs.tables.all_into.Goals as goal

pub loop-q-preserved : goal.loop-q-preserved
loop-q-preserved c = record {
  count = count_more c.loop-q.into.items c.push.new.self.items c.loop-q.q c.in_ok-numbers_into.field-0 c.in_ok-push.ensures.items c.loop-q.invariant.count;
  are_into = into_more c.args.arcs.now c.loop-q.into.items c.push.new.self.items c.loop-q.q c.in_ok-numbers_into.field-0 c.in_ok-push.ensures.items c.loop-q.invariant.count c.loop-q.invariant.are_into c.in_ok-numbers_into.ensures;
}
