-- How many lines stand in a document at most, up to where a reader goes on.
use Rattle.std.proofs.Common.{◌≡◌, ℕ, zero, suc, ◌+◌, ◌-◌, ◌*◌, ◌≤◌, ◌<◌, ◌⊎◌, ⊎_elim, ℤ, pos, negsuc, List, [], ◌∷◌, ◌++◌, length, Some, refl, sym, ap, ◌∙◌, subst, arith}
use Rattle.std.specs.Prelude.{All, IsTrue, nat_abs, ◌≤ℤ◌}
use Rattle.std.proofs.lemmas.Int.{ints}
use Rattle.std.proofs.lemmas.List.{length-append}
use Rattle.std.proofs.lemmas.List.Elements.{All-head, All-tail}
use Rattle.std.proofs.lemmas.Bool.{cases_order}
use Rattle.cable_definitions.specs.declared.cable.Arc.{Arc as CandidateArc}
use Rattle.cable_definitions.specs.declared.cable.Cable.{Cable}
use Rattle.cable_definitions.specs.declared.claim.Cause.TheVariants.{Limit}
use Rattle.cable_definitions.specs.Site.{Site}
use Rattle.cable_definitions.specs.Text.{Whole}
use Rattle.cable_definitions.specs.Items.{Field, within, IsWithin}
use Rattle.cable_definitions.specs.Row.{Row}
use Rattle.cable_definitions.specs.Tree.{ProofState}
use Rattle.cable_definitions.specs.Refusal.{DocLine, BudgetLine, RowLine, WorkLine, WeightLine, ActLine, LayoutLine, CableLine, ClaimLine, EndLine, IsWithinLimits, Phase, AtBudget, AtItem, AtWeights, AtCables, AtLast, Past, AtJudged, AtAnyCables, Reader, reader_at, is_allowed, row_from, IsReadable, GoesOn, ReadsLines}

-- ---- numbers within their ranges
-- what isn't false of two numbers is true
not_false : (a b : ℕ) → ¬ (¬ (a ≤ b)) → a ≤ b
not_false a b h =
    ⊎_elim (λ (e : a ≡ b). omega (arith, e)) (λ (w : (a < b) ⊎ (b < a)). ⊎_elim (λ (l : a < b). omega (arith, l)) (λ (l : b < a). absurd (h (λ k. omega (arith, l, k)))) w) (cases_order a b)

in_range : (z : ℤ) (least most : ℕ) → pos least ≤ℤ z → z ≤ℤ pos most → nat_abs z ≤ most
in_range (pos n) least most low high = omega (arith, ints, high)
in_range (negsuc n) least most low high = absurd (omega (arith, ints, low))

field_within : (z : ℤ) (least most : ℕ) → IsWithin (within (Some z) (pos least) (pos most)) → nat_abs z ≤ most
field_within z least most h = let w = h z refl in in_range z least most w.0 w.1

one_within : (z : ℤ) (least most : ℕ) (fields : List Field) → All IsWithin (within (Some z) (pos least) (pos most) ∷ fields) → nat_abs z ≤ most
one_within z least most fields h = field_within z least most (All-head IsWithin (within (Some z) (pos least) (pos most)) fields h)

-- the number of weights
abbrev count_field : ℤ → Field
count_field k = within (Some k) (pos 0) (pos 1024)

-- ---- one line
-- a reader that has read so many lines, by where it stands
abbrev pub IsShort : Phase → ℕ → ℕ → ℕ → ℕ → Type 0
IsShort AtBudget n rows works m = (rows ≡ 0) × (works ≡ 0) × (m ≡ 0)
IsShort AtItem n rows works m = (n ≤ 50000) × (rows ≤ 16384) × (works ≤ n) × (m ≤ 1 + rows + 1026 * works)
IsShort (AtWeights v k weights) n rows works m = (n ≤ 50000) × (rows ≤ 16384) × (works ≤ n) × (m + k ≤ 1026 + rows + 1026 * works)
IsShort (AtCables k) n rows works m = m + k ≤ 51400000
IsShort AtLast n rows works m = m ≤ 51400001
IsShort Past n rows works m = m ≤ 51400002
IsShort AtJudged n rows works m = ⊥
IsShort (AtAnyCables k) n rows works m = ⊥

abbrev pub IsShortAt : Reader → ℕ → Type 0
IsShortAt r m = IsShort r.phase r.budget (length r.kept.rows) r.kept.works m

-- the reader after a line
next_short : (next e : Reader) (m : ℕ) → next ≡ e → IsShortAt e m → IsShortAt next m
next_short next e m same h = let P : Reader → Type 0 = λ r. IsShortAt r m in subst P (sym same) h

one_row : (old new : List Row) (row : Row) → new ≡ old ++ row ∷ [] → length new ≡ length old + 1
one_row old new row e = ap length e ∙ length-append old (row ∷ [])

line_short : (s : Site) (arcs : List CandidateArc) (phase : Phase) (n : ℕ) (kept : ProofState) (cables : List Cable) (l : DocLine) (next : Reader) (m : ℕ) → IsTrue (is_allowed phase l) → ¬ (¬ (IsWithinLimits l))
    → GoesOn s arcs (record { phase = phase; budget = n; kept = kept; cables = cables }) l next → IsShort phase n (length kept.rows) kept.works m → IsShortAt next (m + 1)
line_short s arcs AtBudget n kept cables (BudgetLine z) next m allowed limits goes short =
    let most : nat_abs z ≤ 50000 = not_false (nat_abs z) 50000 (λ none. limits (λ w. none (one_within z 1 50000 [] w.0))) in
    next_short next (record { phase = AtItem; budget = nat_abs z; kept = kept; cables = cables }) (m + 1) goes
    (most, omega (arith, short.0), omega (arith, short.1), omega (arith, short.2))
line_short s arcs AtBudget n kept cables l next m allowed limits goes short = absurd (cc)
line_short s arcs AtItem n kept cables (RowLine kind members) next m allowed limits goes short =
    let rows = one_row kept.rows goes.0.rows (row_from kind members) goes.1.rows in
    let most = goes.1.rows_count in
    let works = goes.1.works in
    next_short next (record { phase = AtItem; budget = n; kept = goes.0; cables = cables }) (m + 1) goes.2
    (short.0, most, omega (arith, works, short.2), omega (arith, works, rows, short.3))
line_short s arcs AtItem n kept cables (WorkLine v k) next m allowed limits goes short =
    let most : nat_abs k ≤ 1024 = not_false (nat_abs k) 1024 (λ none. limits (λ w. none (let h = field_within k 0 1024 (All-head IsWithin (count_field k) [] (All-tail IsWithin (within (Some v) (pos 1) (pos 100001)) (count_field k ∷ []) w.0)) in omega (arith, h)))) in
    next_short next (record { phase = AtWeights (nat_abs v) (nat_abs k) []; budget = n; kept = kept; cables = cables }) (m + 1) goes
    (short.0, short.1, short.2, omega (arith, most, short.3))
line_short s arcs AtItem n kept cables (LayoutLine k) next m allowed limits goes short =
    let most : nat_abs k ≤ 256 = not_false (nat_abs k) 256 (λ none. limits (λ w. none (one_within k 0 256 [] w.0))) in
    next_short next (record { phase = AtCables (nat_abs k); budget = n; kept = kept; cables = cables }) (m + 1) goes
    (omega (arith, most, short.0, short.1, short.2, short.3))
line_short s arcs AtItem n kept cables l next m allowed limits goes short = absurd (cc)
line_short s arcs (AtWeights v (suc k) weights) n kept cables (WeightLine r w) next m allowed limits goes short =
    next_short next (record { phase = AtWeights v (suc k - 1) (weights ++ (nat_abs r, w) ∷ []); budget = n; kept = kept; cables = cables }) (m + 1) goes
    (short.0, short.1, short.2, omega (arith, short.3))
line_short s arcs (AtWeights v zero weights) n kept cables (ActLine act) next m allowed limits goes short =
    let worked = goes.4 in
    let rows : length goes.2.rows ≡ length kept.rows = ap length worked.rows in
    let works = worked.works in
    let more = worked.within_budget in
    next_short next (record { phase = AtItem; budget = n; kept = goes.2; cables = cables }) (m + 1) goes.5
    (short.0, omega (arith, rows, short.1), omega (arith, works, more), omega (arith, works, rows, short.3))
line_short s arcs (AtWeights v (suc k) weights) n kept cables l next m allowed limits goes short = absurd (cc)
line_short s arcs (AtWeights v zero weights) n kept cables l next m allowed limits goes short = absurd (cc)
line_short s arcs (AtCables (suc k)) n kept cables (CableLine a b t) next m allowed limits goes short =
    next_short next (record { phase = AtCables (suc k - 1); budget = n; kept = kept; cables = cables ++ goes.0 ∷ [] }) (m + 1) goes.2 (omega (arith, short))
line_short s arcs (AtCables zero) n kept cables (ClaimLine claim) next m allowed limits goes short =
    next_short next (record { phase = AtLast; budget = n; kept = kept; cables = cables }) (m + 1) goes (omega (arith, short))
line_short s arcs (AtCables (suc k)) n kept cables l next m allowed limits goes short = absurd (cc)
line_short s arcs (AtCables zero) n kept cables l next m allowed limits goes short = absurd (cc)
line_short s arcs AtLast n kept cables EndLine next m allowed limits goes short =
    next_short next (record { phase = Past; budget = n; kept = kept; cables = cables }) (m + 1) goes (omega (arith, short))
line_short s arcs AtLast n kept cables l next m allowed limits goes short = absurd (cc)
line_short s arcs Past n kept cables l next m allowed limits goes short = absurd (cc)
line_short s arcs AtJudged n kept cables l next m allowed limits goes short = absurd short
line_short s arcs (AtAnyCables k) n kept cables l next m allowed limits goes short = absurd short

-- ---- any number of lines
limits_of : (s : Site) (r : Reader) (text : List ℕ) (l : DocLine) → IsReadable s r (Whole text) l → ¬ (¬ (IsWithinLimits l))
limits_of s r text l h none = h.none_found Limit (h.text, l, h.piece_is, h.line_is, none)

lines_short : (s : Site) (arcs : List CandidateArc) (r e : Reader) (bytes rest : List ℕ) (ls : List DocLine) (m : ℕ) → ReadsLines s arcs r bytes ls e rest → IsShortAt r m → IsShortAt e (m + length ls)
lines_short s arcs r e bytes rest [] m h short =
    let P : ℕ → Type 0 = λ k. IsShortAt e k in
    subst P (omega arith) (next_short e r m h.0 short)
lines_short s arcs r e bytes rest (l ∷ ls) m h short =
    let one = line_short s arcs r.phase r.budget r.kept r.cables l h.2 m h.4.line_is.allowed (limits_of s r h.0 l h.4) h.6 short in
    let all = lines_short s arcs h.2 e h.1 rest ls (m + 1) h.7 one in
    let P : ℕ → Type 0 = λ k. IsShortAt e k in
    subst P (omega arith) all

all_short : (phase : Phase) (n rows works m : ℕ) → IsShort phase n rows works m → m ≤ 51400002
all_short AtBudget n rows works m h = omega (arith, h.2)
all_short AtItem n rows works m h = omega (arith, h.0, h.1, h.2, h.3)
all_short (AtWeights v k weights) n rows works m h = omega (arith, h.0, h.1, h.2, h.3)
all_short (AtCables k) n rows works m h = omega (arith, h)
all_short AtLast n rows works m h = omega (arith, h)
all_short Past n rows works m h = h
all_short AtJudged n rows works m h = absurd h
all_short (AtAnyCables k) n rows works m h = absurd h

-- a reader behind a site reads few lines
pub few_lines : (s : Site) (arcs : List CandidateArc) (e : Reader) (bytes rest : List ℕ) (ls : List DocLine) → ReadsLines s arcs (reader_at AtBudget) bytes ls e rest → length ls ≤ 51400002
few_lines s arcs e bytes rest ls h =
    let short = lines_short s arcs (reader_at AtBudget) e bytes rest ls 0 h (refl, refl, refl) in
    let most = all_short e.phase e.budget (length e.kept.rows) e.kept.works (0 + length ls) short in
    omega (arith, most)
