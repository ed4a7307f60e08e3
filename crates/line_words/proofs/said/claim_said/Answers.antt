use Rattle.std.proofs.Common.{refl}
use Rattle.cable_definitions.specs.Refusal.{AnOptimal, AGap, AnOpen}
use Rattle.line_words.specs.Words.{held}
use Rattle.line_words.proofs.Shapes.{not_so, no_claim}
use Rattle.line_words.proofs.said.claim_said.Goals as goal

pub returns-in-Some-clause-some : goal.returns-in-Some-clause-some
returns-in-Some-clause-some c = let h = c.in-Some.ensures.some in (AnOptimal h.0, h.1, (h.0, refl, h.2))

pub returns-in-Some-numbers_after-clause-some : goal.returns-in-Some-numbers_after-clause-some
returns-in-Some-numbers_after-clause-some c = let h = c.in-Some-numbers_after.ensures.some in (AGap h.0 h.1, h.2, (h.0, h.1, refl, h.3, h.4))

pub returns-in-Some-open_said-clause-some : goal.returns-in-Some-open_said-clause-some
returns-in-Some-open_said-clause-some c = let h = c.in-Some-open_said.ensures.some in (AnOpen h.0 c.in-Some-open_said.name.now, h.1, (h.0, refl, h.2))

pub returns-clause-none : goal.returns-clause-none
returns-clause-none c = no_claim (held c.args.words) (not_so c.is_one.ensures c.if-is_one.false) c.in_default.ensures.none c.in_default-numbers_after.ensures.none c.in_default-open_said.ensures.none
