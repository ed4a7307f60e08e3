-- A line of a document is told by its words: they are decoded.
use Rattle.std.proofs.Common.{◌≡◌, ◌≢◌, ℕ, ◌+◌, ◌-◌, ℤ, pos, negsuc, List, [], ◌∷◌, map, drop, get_or, false, cond, ◌==◌, refl, sym, ap, ◌∙◌, arith}
use Rattle.std.specs.List.{sum}
use Rattle.std.proofs.lemmas.Bool.{ne_eqb}
use Rattle.cable_definitions.specs.declared.row.RowKind.{RowKind}
use Rattle.cable_definitions.specs.declared.row.RowKind.TheVariants.{Out, Flow, Inlet, Bend, Power, One, Cut}
use Rattle.cable_definitions.specs.Numeral.{numeral, spelling as spelled}
use Rattle.cable_definitions.specs.Text.{kind_word}
use Rattle.cable_definitions.specs.Refusal.{RawAct, ASplit, AStop, AFull, ADeadRow, ADeadPair, ADeadLoad, ADeadLoop, ADeadPower, ADeadCeiling, RawClaim, AnOptimal, AGap, AnOpen, AnInfeasible, DocLine, BudgetLine, RowLine, WorkLine, WeightLine, ActLine, LayoutLine, CableLine, ClaimLine, EndLine, line_spelling, IsSpelled}
use Rattle.cable_text.specs.Number.{value_after}
use Rattle.cable_text.proofs.Reading.{value-numeral, IsNumeral-numeral}
use Rattle.site_laws.proofs.Words.{same_words}

-- ---- a number is read back from its spelling
abbrev read : List ℕ → ℤ
read w = cond (get_or w 0 0 == 45) (negsuc (value_after 0 (drop 1 w) - 1)) (pos (value_after 0 w))

-- a numeral begins with a digit
no_minus : (n : ℕ) → (get_or (numeral n) 0 0 == 45) ≡ false
no_minus n =
    let h = IsNumeral-numeral n in
    let d = h.digits 0 h.not_empty in
    ne_eqb (get_or (numeral n) 0 0) 45 (λ e. absurd (omega (arith, d.0, e)))

read-spelled : (z : ℤ) → read (spelled z) ≡ z
read-spelled (pos n) = ap (λ b. cond b (negsuc (value_after 0 (drop 1 (numeral n)) - 1)) (pos (value_after 0 (numeral n)))) (no_minus n) ∙ ap pos (value-numeral n)
read-spelled (negsuc n) = ap (λ k. negsuc (k - 1)) (value-numeral (n + 1)) ∙ ap negsuc (let e : n + 1 - 1 ≡ n = omega arith in e)

all_read : (zs : List ℤ) → map read (map spelled zs) ≡ zs
all_read [] = refl
all_read (z ∷ zs) = ap (λ y. y ∷ map read (map spelled zs)) (read-spelled z) ∙ ap (λ ys. z ∷ ys) (all_read zs)

-- ---- a word is told by the sum of its bytes
-- the number of a word
abbrev number_at : List (List ℕ) → ℕ → ℤ
number_at ws i = read (get_or ws i [])

-- the sum of a word's bytes
abbrev sum_at : List (List ℕ) → ℕ → ℕ
sum_at ws i = sum (get_or ws i [])

-- the kind of a word
abbrev kind_from : ℕ → RowKind
kind_from n =
    cond (n == 344) Out (cond (n == 440) Flow (cond (n == 540) Inlet (cond (n == 409) Bend (cond (n == 557) Power (cond (n == 322) One Cut)))))

kind-read : (kind : RowKind) → kind_from (sum (kind_word kind)) ≡ kind
kind-read Out = refl
kind-read Flow = refl
kind-read Inlet = refl
kind-read Bend = refl
kind-read Power = refl
kind-read One = refl
kind-read Cut = refl

-- the reason of a node that is dead
abbrev dead_from : List (List ℕ) → ℕ → RawAct
dead_from ws n =
    cond (n == 344) (ADeadRow (number_at ws 2)) (cond (n == 428) (ADeadPair (number_at ws 2) (number_at ws 3)) (cond (n == 416) (ADeadLoad (number_at ws 2))
    (cond (n == 442) (ADeadLoop (number_at ws 2)) (cond (n == 557) (ADeadPower (number_at ws 2)) ADeadCeiling))))

-- the line whose first word has this sum
abbrev line_from : List (List ℕ) → ℕ → DocLine
line_from ws n =
    cond (n == 635) (BudgetLine (number_at ws 1)) (cond (n == 344) (RowLine (kind_from (sum_at ws 1)) (map read (drop 2 ws)))
    (cond (n == 451) (WorkLine (number_at ws 1) (number_at ws 2)) (cond (n == 219) (WeightLine (number_at ws 1) (number_at ws 2))
    (cond (n == 556) (ActLine (ASplit (number_at ws 1))) (cond (n == 454) (ActLine AStop) (cond (n == 435) (ActLine AFull)
    (cond (n == 398) (ActLine (dead_from ws (sum_at ws 1))) (cond (n == 670) (LayoutLine (number_at ws 1))
    (cond (n == 503) (CableLine (get_or ws 1 []) (get_or ws 2 []) (number_at ws 3))
    (cond (n == 758) (ClaimLine (AnOptimal (number_at ws 1))) (cond (n == 312) (ClaimLine (AGap (number_at ws 1) (number_at ws 2)))
    (cond (n == 434) (ClaimLine (AnOpen (number_at ws 1) (get_or ws 3 []))) (cond (n == 1042) (ClaimLine AnInfeasible) EndLine)))))))))))))

abbrev decode : List (List ℕ) → DocLine
decode ws = line_from ws (sum_at ws 0)

decode_act : (act : RawAct) → decode (line_spelling (ActLine act)) ≡ ActLine act
decode_act (ASplit a) = ap (λ z. ActLine (ASplit z)) (read-spelled a)
decode_act AStop = refl
decode_act AFull = refl
decode_act (ADeadRow r) = ap (λ z. ActLine (ADeadRow z)) (read-spelled r)
decode_act (ADeadPair a b) = ap (λ z. ActLine (ADeadPair z (read (spelled b)))) (read-spelled a) ∙ ap (λ z. ActLine (ADeadPair a z)) (read-spelled b)
decode_act (ADeadLoad p) = ap (λ z. ActLine (ADeadLoad z)) (read-spelled p)
decode_act (ADeadLoop p) = ap (λ z. ActLine (ADeadLoop z)) (read-spelled p)
decode_act (ADeadPower p) = ap (λ z. ActLine (ADeadPower z)) (read-spelled p)
decode_act ADeadCeiling = refl

decode_claim : (claim : RawClaim) → decode (line_spelling (ClaimLine claim)) ≡ ClaimLine claim
decode_claim (AnOptimal c) = ap (λ z. ClaimLine (AnOptimal z)) (read-spelled c)
decode_claim (AGap c b) = ap (λ z. ClaimLine (AGap z (read (spelled b)))) (read-spelled c) ∙ ap (λ z. ClaimLine (AGap c z)) (read-spelled b)
decode_claim (AnOpen b name) = ap (λ z. ClaimLine (AnOpen z name)) (read-spelled b)
decode_claim AnInfeasible = refl

decode-spelling : (l : DocLine) → decode (line_spelling l) ≡ l
decode-spelling (BudgetLine n) = ap BudgetLine (read-spelled n)
decode-spelling (RowLine kind members) = ap (λ k. RowLine k (map read (map spelled members))) (kind-read kind) ∙ ap (RowLine kind) (all_read members)
decode-spelling (WorkLine v k) = ap (λ z. WorkLine z (read (spelled k))) (read-spelled v) ∙ ap (WorkLine v) (read-spelled k)
decode-spelling (WeightLine r w) = ap (λ z. WeightLine z (read (spelled w))) (read-spelled r) ∙ ap (WeightLine r) (read-spelled w)
decode-spelling (ActLine act) = decode_act act
decode-spelling (LayoutLine k) = ap LayoutLine (read-spelled k)
decode-spelling (CableLine a b t) = ap (CableLine a b) (read-spelled t)
decode-spelling (ClaimLine claim) = decode_claim claim
decode-spelling EndLine = refl

-- ---- so one line has one list of words
-- a line has words
act_some : (act : RawAct) → line_spelling (ActLine act) ≢ []
act_some (ASplit a) e = cc
act_some AStop e = cc
act_some AFull e = cc
act_some (ADeadRow r) e = cc
act_some (ADeadPair a b) e = cc
act_some (ADeadLoad p) e = cc
act_some (ADeadLoop p) e = cc
act_some (ADeadPower p) e = cc
act_some ADeadCeiling e = cc

claim_some : (claim : RawClaim) → line_spelling (ClaimLine claim) ≢ []
claim_some (AnOptimal c) e = cc
claim_some (AGap c b) e = cc
claim_some (AnOpen b name) e = cc
claim_some AnInfeasible e = cc

pub line-some : (l : DocLine) → line_spelling l ≢ []
line-some (BudgetLine n) e = cc
line-some (RowLine kind members) e = cc
line-some (WorkLine v k) e = cc
line-some (WeightLine r w) e = cc
line-some (ActLine act) e = act_some act e
line-some (LayoutLine k) e = cc
line-some (CableLine a b t) e = cc
line-some (ClaimLine claim) e = claim_some claim e
line-some EndLine e = cc

-- a text spells one line
pub line-same : (text : List ℕ) (l other : DocLine) → IsSpelled text l → IsSpelled text other → l ≡ other
line-same text l other h k =
    let same : line_spelling l ≡ line_spelling other = same_words (line_spelling l) (line_spelling other) (line-some l) (line-some other) h.are_words k.are_words (sym h.text_is ∙ k.text_is) in
    sym (decode-spelling l) ∙ ap decode same ∙ decode-spelling other
