-- The first refusal behind a site, whole: a missing line, and a number out of its range; and for callers, that no cause comes before the first.
use Rattle.std.proofs.Common.{◌≡◌, ℕ, zero, suc, ◌<◌, List, [], ◌∷◌, ◌++◌, pos, true, inl, refl, arith, ap, sym}
use Rattle.std.proofs.lemmas.Int.{ints}
use Rattle.std.specs.Prelude.{codes, length, Some, All, not, ◌==◌}
use Rattle.std.specs.List.{AllPass}
use Rattle.cable_definitions.specs.Numeral.{numeral}
use Rattle.cable_definitions.specs.declared.claim.Cause.{Cause}
use Rattle.cable_definitions.specs.declared.claim.Cause.TheVariants.{Line, Form, Site, Row, Limit, Node, Weight, Arc, Dead, Full, Layout, Verdict}
use Rattle.cable_definitions.specs.Text.{IsWord, Piece, Whole, LongLine, CutLine, NoLine}
use Rattle.cable_definitions.specs.Refusal.{BudgetLine, IsLineAt, IsWithinLimits, line_spelling, AtBudget, reader_at, IsRefusedAfter, IsFoundByReading, cause_number}
use Rattle.cable_definitions.proofs.Sites.{fork}

-- no cause comes before the first
pub none_before_line : (c : Cause) → cause_number c < 1 → ⊥
none_before_line Line h = absurd (omega (arith, h))
none_before_line Form h = absurd (omega (arith, h))
none_before_line Site h = absurd (omega (arith, h))
none_before_line Row h = absurd (omega (arith, h))
none_before_line Limit h = absurd (omega (arith, h))
none_before_line Node h = absurd (omega (arith, h))
none_before_line Weight h = absurd (omega (arith, h))
none_before_line Arc h = absurd (omega (arith, h))
none_before_line Dead h = absurd (omega (arith, h))
none_before_line Full h = absurd (omega (arith, h))
none_before_line Layout h = absurd (omega (arith, h))
none_before_line Verdict h = absurd (omega (arith, h))

-- the input ends after the site: the line of the budget is missing
pub missing_budget : IsRefusedAfter fork [] AtBudget [] 9 9 Line
missing_budget = record { read_lines = []; reader = reader_at AtBudget; left = []; reads = (refl, refl); piece = NoLine; rest = []; next = (refl, refl); first = inl (record { holds = refl; least = λ c h. absurd (none_before_line c h) }); line_is = refl }

-- the line of a budget of 0 is of the form, and its number is out of its range
abbrev zero_budget : List ℕ
zero_budget = codes "budget 0"

-- it holds no newline
no_newline : AllPass (λ b. not (b == 10)) zero_budget
no_newline zero d l = refl
no_newline (suc zero) d l = refl
no_newline (suc (suc zero)) d l = refl
no_newline (suc (suc (suc zero))) d l = refl
no_newline (suc (suc (suc (suc zero)))) d l = refl
no_newline (suc (suc (suc (suc (suc zero))))) d l = refl
no_newline (suc (suc (suc (suc (suc (suc zero)))))) d l = refl
no_newline (suc (suc (suc (suc (suc (suc (suc zero))))))) d l = refl
no_newline (suc (suc (suc (suc (suc (suc (suc (suc k)))))))) d l = absurd (omega (arith, l))

-- a byte that is none of its letters is not in its first word
budget_without : (c : ℕ) → not (98 == c) ≡ true → not (117 == c) ≡ true → not (100 == c) ≡ true → not (103 == c) ≡ true → not (101 == c) ≡ true → not (116 == c) ≡ true
    → AllPass (λ b. not (b == c)) (codes "budget")
budget_without c e f g h i j zero d l = e
budget_without c e f g h i j (suc zero) d l = f
budget_without c e f g h i j (suc (suc zero)) d l = g
budget_without c e f g h i j (suc (suc (suc zero))) d l = h
budget_without c e f g h i j (suc (suc (suc (suc zero)))) d l = i
budget_without c e f g h i j (suc (suc (suc (suc (suc zero))))) d l = j
budget_without c e f g h i j (suc (suc (suc (suc (suc (suc k)))))) d l = absurd (omega (arith, l))

-- nor in its second
zero_without : (c : ℕ) → not (48 == c) ≡ true → AllPass (λ b. not (b == c)) (48 ∷ [])
zero_without c e zero d l = e
zero_without c e (suc k) d l = absurd (omega (arith, l))

-- so both are words
budget_is_word : IsWord (codes "budget")
budget_is_word = record { not_empty = λ e. absurd (omega (arith, ap length e)); no_space = budget_without 32 refl refl refl refl refl refl; no_newline = budget_without 10 refl refl refl refl refl refl }

zero_is_word : IsWord (48 ∷ [])
zero_is_word = record { not_empty = λ e. absurd (omega (arith, ap length e)); no_space = zero_without 32 refl; no_newline = zero_without 10 refl }

are_words : All IsWord (line_spelling (BudgetLine (pos 0)))
unfolding numeral
are_words zero d l = budget_is_word
are_words (suc zero) d l = zero_is_word
are_words (suc (suc k)) d l = absurd (omega (arith, l))

-- it is a line that may stand behind a site
line_is : (text : List ℕ) → zero_budget ≡ text → IsLineAt AtBudget text (BudgetLine (pos 0))
unfolding numeral
line_is text e = record { spelled = record { are_words = are_words; text_is = sym e; members = tt }; allowed = refl }

-- the text of a whole line
abbrev pub text_of : Piece → List ℕ
text_of (Whole text) = text
text_of LongLine = []
text_of CutLine = []
text_of NoLine = []

-- no lesser cause is found by reading it
none_before_limit : (c : Cause) → cause_number c < 5 → IsFoundByReading fork (reader_at AtBudget) (Whole zero_budget) c → ⊥
none_before_limit Line h f = absurd f
none_before_limit Form h f = f.2 (BudgetLine (pos 0)) (line_is f.0 (ap text_of f.1))
none_before_limit Site h f = absurd f
none_before_limit Row h f = absurd f
none_before_limit Limit h f = absurd (omega (arith, h))
none_before_limit Node h f = absurd (omega (arith, h))
none_before_limit Weight h f = absurd (omega (arith, h))
none_before_limit Arc h f = absurd (omega (arith, h))
none_before_limit Dead h f = absurd (omega (arith, h))
none_before_limit Full h f = absurd (omega (arith, h))
none_before_limit Layout h f = absurd (omega (arith, h))
none_before_limit Verdict h f = absurd (omega (arith, h))

-- its number is out of its range
beyond : ¬ (IsWithinLimits (BudgetLine (pos 0)))
beyond w = absurd (omega (arith, ints, (w.0 0 (record { value = Some (pos 0); least = pos 1; most = pos 50000 }) (omega arith) (pos 0) refl).0))

pub budget_refused : IsRefusedAfter fork [] AtBudget (zero_budget ++ 10 ∷ []) 9 9 Limit
budget_refused = record { read_lines = []; reader = reader_at AtBudget; left = zero_budget ++ 10 ∷ []; reads = (refl, refl); piece = Whole zero_budget; rest = []; next = (refl, no_newline, omega arith); first = inl (record { holds = (zero_budget, BudgetLine (pos 0), refl, line_is zero_budget refl, beyond); least = none_before_limit }); line_is = refl }
