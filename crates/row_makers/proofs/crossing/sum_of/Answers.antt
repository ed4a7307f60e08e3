use Rattle.std.proofs.Common.{arith, ap, sym, ◌∙◌}
use Rattle.std.proofs.lemmas.List.{take_all}
use Rattle.row_makers.proofs.Rivals.{sum_read, sum_read-more, member_sum}
use Rattle.row_makers.proofs.crossing.sum_of.Goals as goal

pub loop-member-preserved : goal.loop-member-preserved
loop-member-preserved c =
    let more = sum_read-more c.args.shares.now c.args.members.now c.loop-member.member-index 0 c.get.result c.loop-member-test.true c.get.ensures.share in
    record {
      total_is = omega (arith, more, c.loop-member.invariant.total_is, c.from-total.ensures);
      small = omega (arith, c.loop-member.invariant.small, c.from-total.ensures, c.get.ensures.most);
    }

pub returns : goal.returns
returns c =
    let members = c.args.members.now in
    (c.loop-member.invariant.total_is ∙ ap (sum_read c.args.shares.now) (take_all c.loop-member.member-index members (omega (arith, c.loop-member-test.false))))
    ∙ sym (member_sum members c.args.shares.now c.requires.order)
