use Rattle.std.proofs.Common.{refl}
use Rattle.cable_definitions.specs.Refusal.{ASplit, ADeadRow, ADeadPair, ADeadLoad, ADeadLoop, ADeadPower}
use Rattle.line_words.specs.Words.{held}
use Rattle.line_words.proofs.Shapes.{not_so, no_act}
use Rattle.line_words.proofs.said.act_said.Goals as goal

pub returns-in-Some-clause-some : goal.returns-in-Some-clause-some
returns-in-Some-clause-some c = let h = c.in-Some.ensures.some in (ASplit h.0, h.1, (h.0, refl, h.2))

pub returns-in-Some-number_behind-clause-some : goal.returns-in-Some-number_behind-clause-some
returns-in-Some-number_behind-clause-some c = let h = c.in-Some-number_behind.ensures.some in (ADeadRow h.0, h.1, (h.0, refl, h.2))

pub returns-in-Some-number_behind-2-clause-some : goal.returns-in-Some-number_behind-2-clause-some
returns-in-Some-number_behind-2-clause-some c = let h = c.in-Some-number_behind-2.ensures.some in (ADeadLoad h.0, h.1, (h.0, refl, h.2))

pub returns-in-Some-number_behind-3-clause-some : goal.returns-in-Some-number_behind-3-clause-some
returns-in-Some-number_behind-3-clause-some c = let h = c.in-Some-number_behind-3.ensures.some in (ADeadLoop h.0, h.1, (h.0, refl, h.2))

pub returns-in-Some-number_behind-4-clause-some : goal.returns-in-Some-number_behind-4-clause-some
returns-in-Some-number_behind-4-clause-some c = let h = c.in-Some-number_behind-4.ensures.some in (ADeadPower h.0, h.1, (h.0, refl, h.2))

pub returns-in-Some-numbers_behind-clause-some : goal.returns-in-Some-numbers_behind-clause-some
returns-in-Some-numbers_behind-clause-some c = let h = c.in-Some-numbers_behind.ensures.some in (ADeadPair h.0 h.1, h.2, (h.0, h.1, refl, h.3, h.4))

pub returns-clause-none : goal.returns-clause-none
returns-clause-none c =
    no_act (held c.args.words) (not_so c.is_one.ensures c.if-is_one.false) (not_so c.is_one-2.ensures c.if-is_one-2.false) (not_so c.are_two.ensures c.if-are_two.false)
    c.in_default.ensures.none c.in_default-number_behind.ensures.none c.in_default-number_behind-2.ensures.none c.in_default-number_behind-3.ensures.none c.in_default-number_behind-4.ensures.none
    c.in_default-numbers_behind.ensures.none
