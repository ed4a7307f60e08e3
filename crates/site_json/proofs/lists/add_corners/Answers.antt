use Rattle.std.proofs.Common.{◌+◌, arith}
use Rattle.std.proofs.lemmas.Result.{err_from_is_err_and}
use Rattle.site_json.proofs.Leading.{Leads-more, Fails-more}
use Rattle.site_json.proofs.Joining.{corners_of, joins_corners}
use Rattle.site_json.proofs.Steps.{TakesCorners-same}
use Rattle.site_json.proofs.Refusing.{passed_on}
use Rattle.site_json.proofs.lists.add_corners.Goals as goal

pub returns-in_err-add_corner-clause-refused : goal.returns-in_err-add_corner-clause-refused
returns-in_err-add_corner-clause-refused c = λ code place broken e.
    let p = err_from_is_err_and c.from_residual.result c.from_residual.ensures.1 in
    Fails-more corners_of joins_corners c.args.corners.now c.loop-member.member-index c.member-item.result c.args.builder.now c.loop-member.builder c.args.before c.loop-member.placed code place broken
    c.loop-member-test.true c.member-item.is c.loop-member.invariant.leads (c.in_err-add_corner.ensures.refused code place broken (passed_on c.from_residual.result p.0 c.in_err-add_corner.field-0.0 _ p.1 p.2 e))

pub loop-member-preserved : goal.loop-member-preserved
loop-member-preserved c = record {
  leads = Leads-more corners_of joins_corners c.args.corners.now c.loop-member.member-index c.member-item.result c.args.builder.now c.loop-member.builder c.add_corner.new.builder c.args.before c.loop-member.placed (c.loop-member.placed + 1)
      c.loop-member-test.true c.member-item.is c.loop-member.invariant.leads c.in_ok-add_corner.ensures.leads;
  takes = TakesCorners-same _ _ _ _ (omega (arith, c.loop-member.invariant.takes.missing_is)) c.in_ok-add_corner.ensures.takes;
}
