-- The words of a line tell the line.
use Rattle.std.proofs.Common.{◌≡◌, ◌≢◌, ℕ, ◌+◌, ◌-◌, ℤ, pos, negsuc, List, [], ◌∷◌, map, sum, ◌==◌, refl, sym, ap, ◌∙◌, arith}
use Rattle.std.specs.Prelude.{if◌then◌else◌}
use Rattle.std.proofs.lemmas.Bool.{ne_eqb, cond-false}
use Rattle.cable_definitions.specs.declared.row.RowKind.{RowKind}
use Rattle.cable_definitions.specs.declared.row.RowKind.TheVariants.{Out, Flow, Inlet, Bend, Power, One, Cut}
use Rattle.cable_definitions.specs.Numeral.{numeral, spelling as spelled}
use Rattle.cable_definitions.specs.Text.{kind_word}
use Rattle.cable_definitions.specs.Refusal.{RawAct, ASplit, AStop, AFull, ADeadRow, ADeadPair, ADeadLoad, ADeadLoop, ADeadPower, ADeadCeiling, act_spelling, AnOptimal, AGap, AnOpen, AnInfeasible, DocLine, BudgetLine, RowLine, WorkLine, WeightLine, ActLine, LayoutLine, CableLine, ClaimLine, EndLine, line_spelling}
use Rattle.cable_text.specs.Number.{IsNumeral, IsDigit, value_after}
use Rattle.cable_text.proofs.Reading.{IsNumeral-numeral, value-numeral}

-- the number that a word spells
abbrev number_back : List ℕ → ℤ
number_back [] = pos 0
number_back (b ∷ bs) = if b == 45 then negsuc (value_after 0 bs - 1) else pos (value_after 0 (b ∷ bs))

natural_back : (w : List ℕ) → IsNumeral w → number_back w ≡ pos (value_after 0 w)
natural_back [] h = absurd (omega (arith, h.not_empty))
natural_back (b ∷ bs) h =
    let d : IsDigit b = h.digits 0 (omega arith) in
    let n : b ≢ 45 = λ e. absurd (omega (arith, d.0, e)) in
    cond-false (b == 45) (negsuc (value_after 0 bs - 1)) (pos (value_after 0 (b ∷ bs))) (ne_eqb b 45 n)

back : (z : ℤ) → number_back (spelled z) ≡ z
back (pos n) = natural_back (numeral n) (IsNumeral-numeral n) ∙ ap pos (value-numeral n)
back (negsuc n) =
    let e : value_after 0 (numeral (n + 1)) - 1 ≡ n = omega (arith, value-numeral (n + 1)) in
    ap negsuc e

backs : (zs : List ℤ) → map number_back (map spelled zs) ≡ zs
backs [] = refl
backs (z ∷ zs) = ap (λ y. y ∷ map number_back (map spelled zs)) (back z) ∙ ap (λ ys. z ∷ ys) (backs zs)

-- the kind whose word has this sum
abbrev kind_back : ℕ → RowKind
kind_back n = if n == 344 then Out else (if n == 440 then Flow else (if n == 540 then Inlet else (if n == 409 then Bend else (if n == 557 then Power else (if n == 322 then One else Cut)))))

kind_again : (kind : RowKind) → kind_back (sum (kind_word kind)) ≡ kind
kind_again Out = refl
kind_again Flow = refl
kind_again Inlet = refl
kind_again Bend = refl
kind_again Power = refl
kind_again One = refl
kind_again Cut = refl

-- lines from the words behind their first
abbrev budget_back : List (List ℕ) → DocLine
budget_back [] = EndLine
budget_back (w ∷ ws) = BudgetLine (number_back w)

abbrev layout_back : List (List ℕ) → DocLine
layout_back [] = EndLine
layout_back (w ∷ ws) = LayoutLine (number_back w)

abbrev row_back : List (List ℕ) → DocLine
row_back [] = EndLine
row_back (w ∷ ws) = RowLine (kind_back (sum w)) (map number_back ws)

abbrev work_back : List (List ℕ) → DocLine
work_back (v ∷ k ∷ ws) = WorkLine (number_back v) (number_back k)
work_back ws = EndLine

abbrev weight_back : List (List ℕ) → DocLine
weight_back (r ∷ w ∷ ws) = WeightLine (number_back r) (number_back w)
weight_back ws = EndLine

abbrev split_back : List (List ℕ) → DocLine
split_back [] = EndLine
split_back (a ∷ ws) = ActLine (ASplit (number_back a))

abbrev pair_back : List (List ℕ) → RawAct
pair_back (a ∷ b ∷ ws) = ADeadPair (number_back a) (number_back b)
pair_back ws = AStop

abbrev reason_back : ℕ → List (List ℕ) → RawAct
reason_back n [] = ADeadCeiling
reason_back n (w ∷ ws) =
    if n == 344 then ADeadRow (number_back w) else (if n == 428 then pair_back (w ∷ ws) else (if n == 416 then ADeadLoad (number_back w) else (if n == 442 then ADeadLoop (number_back w) else ADeadPower (number_back w))))

abbrev dead_back : List (List ℕ) → DocLine
dead_back [] = EndLine
dead_back (w ∷ ws) = ActLine (reason_back (sum w) ws)

abbrev cable_back : List (List ℕ) → DocLine
cable_back (a ∷ b ∷ t ∷ ws) = CableLine a b (number_back t)
cable_back ws = EndLine

abbrev optimal_back : List (List ℕ) → DocLine
optimal_back [] = EndLine
optimal_back (w ∷ ws) = ClaimLine (AnOptimal (number_back w))

abbrev gap_back : List (List ℕ) → DocLine
gap_back (c ∷ b ∷ ws) = ClaimLine (AGap (number_back c) (number_back b))
gap_back ws = EndLine

abbrev open_back : List (List ℕ) → DocLine
open_back (b ∷ s ∷ name ∷ ws) = ClaimLine (AnOpen (number_back b) name)
open_back ws = EndLine

-- the line whose first word has this sum
abbrev line_back : ℕ → List (List ℕ) → DocLine
line_back n ws =
    if n == 635 then budget_back ws else (if n == 344 then row_back ws else (if n == 451 then work_back ws else (if n == 219 then weight_back ws else (if n == 556 then split_back ws
    else (if n == 454 then ActLine AStop else (if n == 435 then ActLine AFull else (if n == 398 then dead_back ws else (if n == 670 then layout_back ws else (if n == 503 then cable_back ws
    else (if n == 758 then optimal_back ws else (if n == 312 then gap_back ws else (if n == 434 then open_back ws else (if n == 1042 then ClaimLine AnInfeasible else EndLine)))))))))))))

abbrev decode : List (List ℕ) → DocLine
decode [] = EndLine
decode (w ∷ ws) = line_back (sum w) ws

decode_act : (act : RawAct) → decode (act_spelling act) ≡ ActLine act
decode_act (ASplit a) = ap (λ z. ActLine (ASplit z)) (back a)
decode_act AStop = refl
decode_act AFull = refl
decode_act (ADeadRow r) = ap (λ z. ActLine (ADeadRow z)) (back r)
decode_act (ADeadPair a b) = ap (λ z. ActLine (ADeadPair z (number_back (spelled b)))) (back a) ∙ ap (λ z. ActLine (ADeadPair a z)) (back b)
decode_act (ADeadLoad p) = ap (λ z. ActLine (ADeadLoad z)) (back p)
decode_act (ADeadLoop p) = ap (λ z. ActLine (ADeadLoop z)) (back p)
decode_act (ADeadPower p) = ap (λ z. ActLine (ADeadPower z)) (back p)
decode_act ADeadCeiling = refl

decode_again : (l : DocLine) → decode (line_spelling l) ≡ l
decode_again (BudgetLine n) = ap BudgetLine (back n)
decode_again (RowLine kind members) = ap (λ k. RowLine k (map number_back (map spelled members))) (kind_again kind) ∙ ap (RowLine kind) (backs members)
decode_again (WorkLine v k) = ap (λ z. WorkLine z (number_back (spelled k))) (back v) ∙ ap (WorkLine v) (back k)
decode_again (WeightLine r w) = ap (λ z. WeightLine z (number_back (spelled w))) (back r) ∙ ap (WeightLine r) (back w)
decode_again (ActLine act) = decode_act act
decode_again (LayoutLine k) = ap LayoutLine (back k)
decode_again (CableLine a b t) = ap (CableLine a b) (back t)
decode_again (ClaimLine (AnOptimal c)) = ap (λ z. ClaimLine (AnOptimal z)) (back c)
decode_again (ClaimLine (AGap c b)) = ap (λ z. ClaimLine (AGap z (number_back (spelled b)))) (back c) ∙ ap (λ z. ClaimLine (AGap c z)) (back b)
decode_again (ClaimLine (AnOpen b name)) = ap (λ z. ClaimLine (AnOpen z name)) (back b)
decode_again (ClaimLine AnInfeasible) = refl
decode_again EndLine = refl

-- two lines of one spelling are one
pub same_line : (l m : DocLine) → line_spelling l ≡ line_spelling m → l ≡ m
same_line l m e = sym (decode_again l) ∙ ap decode e ∙ decode_again m

-- a line has words
pub some_words : (l : DocLine) → line_spelling l ≢ []
some_words (BudgetLine n) e = cc
some_words (RowLine kind members) e = cc
some_words (WorkLine v k) e = cc
some_words (WeightLine r w) e = cc
some_words (ActLine (ASplit a)) e = cc
some_words (ActLine AStop) e = cc
some_words (ActLine AFull) e = cc
some_words (ActLine (ADeadRow r)) e = cc
some_words (ActLine (ADeadPair a b)) e = cc
some_words (ActLine (ADeadLoad p)) e = cc
some_words (ActLine (ADeadLoop p)) e = cc
some_words (ActLine (ADeadPower p)) e = cc
some_words (ActLine ADeadCeiling) e = cc
some_words (LayoutLine k) e = cc
some_words (CableLine a b t) e = cc
some_words (ClaimLine (AnOptimal c)) e = cc
some_words (ClaimLine (AGap c b)) e = cc
some_words (ClaimLine (AnOpen b name)) e = cc
some_words (ClaimLine AnInfeasible) e = cc
some_words EndLine e = cc
