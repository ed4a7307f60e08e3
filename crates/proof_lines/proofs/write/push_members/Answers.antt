use Rattle.proof_lines.specs.Written.{spaced_number}
use Rattle.cable_text.proofs.Writers.{wrote_part, wrote_more}
use Rattle.proof_lines.proofs.write.push_members.Goals as goal

pub returns-in_err-push_member : goal.returns-in_err-push_member
returns-in_err-push_member g c =
    wrote_part spaced_number c.args.members.now c.loop-member.member-index _ c.loop-member-test.true c.from_residual.ensures.0 c.loop-member.invariant c.in_err-push_member.ensures

pub loop-member-preserved : goal.loop-member-preserved
loop-member-preserved g c = wrote_more spaced_number c.args.members.now c.loop-member.member-index _ c.loop-member-test.true c.loop-member.invariant c.in_ok-push_member.ensures
