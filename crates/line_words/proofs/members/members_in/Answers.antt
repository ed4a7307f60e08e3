use Rattle.line_words.specs.Words.{held}
use Rattle.line_words.proofs.Spelled.{not_spelled, spelled_more}
use Rattle.line_words.proofs.members.members_in.Goals as goal

pub returns-in_default-number_of-clause-none : goal.returns-in_default-number_of-clause-none
returns-in_default-number_of-clause-none c =
    not_spelled (held c.args.words) (held c.loop-word.left) c.args.most c.loop-word.fits c.loop-word.members c.in-Some.word.now (held c.in-Some.rest) c.loop-word.invariant c.in-Some.ensures.word c.in_default-number_of.ensures.none

pub loop-word-preserved : goal.loop-word-preserved
loop-word-preserved c =
    spelled_more (held c.args.words) (held c.loop-word.left) (held c.in-Some.rest) c.args.most c.loop-word.fits c.add_member-fits.result c.loop-word.members c.add_member-fits.new.members c.in-Some.word.now c.in-Some-number_of.number
    c.loop-word.invariant c.in-Some.ensures.word c.in-Some-number_of.ensures.some c.add_member-fits.ensures.added c.add_member-fits.ensures.all_fit c.add_member-fits.ensures.none
