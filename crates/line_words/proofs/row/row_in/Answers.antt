use Rattle.std.proofs.Common.{subst}
use Rattle.line_words.specs.Words.{held}
use Rattle.line_words.specs.Members.{AreSpelled}
use Rattle.line_words.proofs.Rows.{bad_row}
use Rattle.line_words.proofs.row.row_in.Goals as goal

pub returns-clause-bad : goal.returns-clause-bad
returns-clause-bad c =
    bad_row (held c.args.words) (held c.in-Some.spelled) c.in-Some.kind c.last_member.result c.members_in.new.members c.in-Some.ensures.some c.last_member.ensures.field
    (subst (λ b. AreSpelled (held c.in-Some.spelled) c.last_member.result b c.members_in.new.members) c.if-fits.false c.in-Some-members_in.ensures.some)
