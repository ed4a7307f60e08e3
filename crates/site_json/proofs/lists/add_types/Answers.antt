use Rattle.std.proofs.Common.{◌+◌, arith}
use Rattle.std.proofs.lemmas.Result.{err_from_is_err_and}
use Rattle.run_definitions.specs.Json.{raw_types}
use Rattle.site_json.proofs.Leading.{Leads-more, Fails-more}
use Rattle.site_json.proofs.Joining.{joins_types}
use Rattle.site_json.proofs.Refusing.{passed_on}
use Rattle.site_json.proofs.lists.add_types.Goals as goal

pub returns-in_err-add_type-clause-refused : goal.returns-in_err-add_type-clause-refused
returns-in_err-add_type-clause-refused c = λ code place broken e.
    let p = err_from_is_err_and c.from_residual.result c.from_residual.ensures.1 in
    Fails-more (raw_types c.args.version) (joins_types c.args.version) c.args.types.now c.loop-member.member-index c.member-item.result c.args.builder.now c.loop-member.builder c.args.before c.loop-member.placed code place broken
    c.loop-member-test.true c.member-item.is c.loop-member.invariant.leads (c.in_err-add_type.ensures.refused code place broken (passed_on c.from_residual.result p.0 c.in_err-add_type.field-0.0 _ p.1 p.2 e))

pub loop-member-preserved : goal.loop-member-preserved
loop-member-preserved c = record {
  leads = Leads-more (raw_types c.args.version) (joins_types c.args.version) c.args.types.now c.loop-member.member-index c.member-item.result c.args.builder.now c.loop-member.builder c.add_type.new.builder c.args.before c.loop-member.placed (c.loop-member.placed + 1)
      c.loop-member-test.true c.member-item.is c.loop-member.invariant.leads c.in_ok-add_type.ensures.leads;
  takes = c.in_ok-add_type.ensures.takes;
  version = c.in_ok-add_type.ensures.version;
  types = omega (arith, c.loop-member.invariant.types, c.in_ok-add_type.ensures.grows);
}
