use Rattle.std.proofs.Common.{List, ℕ, IfNone, sym, subst}
use Rattle.run_definitions.specs.Words.{IsNoCommand}
use Rattle.cable_run.proofs.Asked.{four_texts}
use Rattle.cable_run.proofs.words.words_of.Goals as goal

pub returns-in-len4-clause-none : goal.returns-in-len4-clause-none
returns-in-len4-clause-none c =
    subst (λ (words : List (List ℕ)). IfNone c.drill_of.result (IsNoCommand words))
    (sym (four_texts c.args.words.now _ _ _ _ _ _ _ _ c.in-len4.len_at_least c.in-len4.len_below c.first-item-then-words-lt5.is c.second-item-then-words-lt5.is c.third-item-then-words-lt5.is c.fourth-item.is
    c.as_bytes-in-len4.ensures.value c.as_bytes-in-len4-2.ensures.value c.as_bytes-in-len4-3.ensures.value c.as_bytes-in-len4-4.ensures.value)) c.drill_of.ensures.none
