use Rattle.line_words.specs.Words.{held}
use Rattle.line_words.specs.Judged.{verdict_of}
use Rattle.line_words.proofs.Claims.{claim_good, bad_claim_line}
use Rattle.line_words.proofs.judging.claim_in.Goals as goal

pub returns-in-Some-claim_within-clause-good : goal.returns-in-Some-claim_within-clause-good
returns-in-Some-claim_within-clause-good c =
    let h = c.in-Some.ensures.some in
    let k = c.in-Some-claim_within.ensures.some h.0 h.2 in
    claim_good (held c.args.words) h.0 (verdict_of c.in-Some-claim_within.claim) h.1 k.0 k.1

pub returns-in-None-clause-bad : goal.returns-in-None-clause-bad
returns-in-None-clause-bad c =
    let h = c.in-Some.ensures.some in
    bad_claim_line (held c.args.words) h.0 h.1 (c.in-None.ensures.none h.0 h.2)
