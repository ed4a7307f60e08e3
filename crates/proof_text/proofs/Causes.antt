-- What a reader finds by reading a line: a cause, or none.
use Rattle.std.proofs.Common.{◌≡◌, ◌≢◌, ℕ, zero, suc, ◌<◌, List, [], false, refl, sym, ap, ◌∙◌, subst, arith, All}
use Rattle.std.specs.Prelude.{IsTrue}
use Rattle.std.proofs.lemmas.Bool.{not_from_false}
use Rattle.cable_definitions.specs.declared.claim.Cause.{Cause}
use Rattle.cable_definitions.specs.declared.claim.Cause.TheVariants.{Line, Form, Site as SiteCause, Row, Limit, Node, Weight, Arc, Dead, Full, Layout, Verdict}
use Rattle.cable_definitions.specs.Site.{Site}
use Rattle.cable_definitions.specs.Text.{IsWord, words, Piece, Whole, NoLine}
use Rattle.cable_definitions.specs.Refusal.{DocLine, line_spelling, IsSpelled, IsWithinLimits, Phase, AtBudget, AtItem, AtWeights, AtCables, AtLast, Past, AtJudged, AtAnyCables, Reader, is_allowed, may_end, IsLineAt, NamesHold, IsBroken, IsFoundByReading, IsLeastCause, IsReadable, cause_number}
use Rattle.cable_definitions.proofs.Refusals.{text_of, none_before_line}
use Rattle.cable_text.proofs.Splitting.{words_injective}
use Rattle.line_words.specs.Words.{IsCut}
use Rattle.line_words.specs.Judged.{IsStanding, IsGoodLine, IsBad}
use Rattle.line_words.proofs.Decoding.{same_line, some_words}

-- ---- lines and their words
-- a text spells one line
pub one_line : (text : List ℕ) (l m : DocLine) → IsSpelled text l → IsSpelled text m → l ≡ m
one_line text l m h k = same_line l m (words_injective (line_spelling l) (line_spelling m) (some_words l) (some_words m) h.are_words k.are_words (sym h.text_is ∙ k.text_is))

-- the words that were cut stand as the line that the text is
pub standing_of : (phase : Phase) (text : List ℕ) (ws : List (List ℕ)) (l : DocLine) → IsCut text ws → IsLineAt phase text l → IsStanding phase ws l
standing_of phase text ws l cut h = record {
  words_are = sym (cut.no_others (line_spelling l) (some_words l) (record { are_words = h.spelled.are_words; text_is = h.spelled.text_is }));
  members = h.spelled.members;
  allowed = h.allowed;
}

-- and the text is the line as which they stand
pub line_of : (phase : Phase) (text : List ℕ) (ws : List (List ℕ)) (l : DocLine) → IsCut text ws → IsStanding phase ws l → IsLineAt phase text l
line_of phase text ws l cut h =
    let some : ws ≢ [] = λ e. some_words l (sym h.words_are ∙ e) in
    let of = cut.of_words some in
    record { spelled = record { are_words = subst (All IsWord) h.words_are of.are_words; text_is = of.text_is ∙ ap words h.words_are; members = h.members }; allowed = h.allowed }

-- ---- the least cause
line_moved : (phase : Phase) (text other : List ℕ) (l : DocLine) → Whole text ≡ Whole other → IsLineAt phase text l → IsLineAt phase other l
line_moved phase text other l e h = let P : List ℕ → Type 0 = λ t. IsLineAt phase t l in subst P (ap text_of e) h

-- a line that is broken
pub first_line : (s : Site) (r : Reader) (piece : Piece) → IsBroken r.phase piece → IsLeastCause (IsFoundByReading s r piece) Line
first_line s r piece h = record { holds = h; least = λ c lt. absurd (none_before_line c lt) }

pub first_missing : (s : Site) (r : Reader) → may_end r.phase ≡ false → IsLeastCause (IsFoundByReading s r NoLine) Line
first_missing s r e = first_line s r NoLine (not_from_false (may_end r.phase) e)

-- a whole line isn't broken, and no other cause comes before the second
none_before_form : (s : Site) (r : Reader) (text : List ℕ) (c : Cause) → cause_number c < 2 → ¬ (IsFoundByReading s r (Whole text) c)
none_before_form s r text Line h f = f
none_before_form s r text Form h f = absurd (omega (arith, h))
none_before_form s r text SiteCause h f = absurd (omega (arith, h))
none_before_form s r text Row h f = absurd (omega (arith, h))
none_before_form s r text Limit h f = absurd (omega (arith, h))
none_before_form s r text Node h f = absurd (omega (arith, h))
none_before_form s r text Weight h f = absurd (omega (arith, h))
none_before_form s r text Arc h f = absurd (omega (arith, h))
none_before_form s r text Dead h f = absurd (omega (arith, h))
none_before_form s r text Full h f = absurd (omega (arith, h))
none_before_form s r text Layout h f = absurd (omega (arith, h))
none_before_form s r text Verdict h f = absurd (omega (arith, h))

-- a line that may not stand there
pub first_form : (s : Site) (r : Reader) (text : List ℕ) → ((l : DocLine) → ¬ (IsLineAt r.phase text l)) → IsLeastCause (IsFoundByReading s r (Whole text)) Form
first_form s r text none = record { holds = (text, refl, none); least = none_before_form s r text }

-- before the limits nothing is found of a line that may stand there
none_before_limit : (s : Site) (r : Reader) (text : List ℕ) (l : DocLine) → IsLineAt r.phase text l → (c : Cause) → cause_number c < 5 → ¬ (IsFoundByReading s r (Whole text) c)
none_before_limit s r text l at Line h f = f
none_before_limit s r text l at Form h f = f.2 l (line_moved r.phase text f.0 l f.1 at)
none_before_limit s r text l at SiteCause h f = f
none_before_limit s r text l at Row h f = f
none_before_limit s r text l at Limit h f = absurd (omega (arith, h))
none_before_limit s r text l at Node h f = absurd (omega (arith, h))
none_before_limit s r text l at Weight h f = absurd (omega (arith, h))
none_before_limit s r text l at Arc h f = absurd (omega (arith, h))
none_before_limit s r text l at Dead h f = absurd (omega (arith, h))
none_before_limit s r text l at Full h f = absurd (omega (arith, h))
none_before_limit s r text l at Layout h f = absurd (omega (arith, h))
none_before_limit s r text l at Verdict h f = absurd (omega (arith, h))

-- a number beyond its limits
pub first_limit : (s : Site) (r : Reader) (text : List ℕ) (l : DocLine) → IsLineAt r.phase text l → ¬ (IsWithinLimits l) → IsLeastCause (IsFoundByReading s r (Whole text)) Limit
first_limit s r text l at none = record { holds = (text, l, refl, at, none); least = none_before_limit s r text l at }

-- what is found of the line is found of it as it was read
no_limit : (s : Site) (r : Reader) (text : List ℕ) (l : DocLine) → IsLineAt r.phase text l → IsWithinLimits l → ¬ (IsFoundByReading s r (Whole text) Limit)
no_limit s r text l at limits f =
    let moved = line_moved r.phase text f.0 l f.2 at in
    f.4 (subst IsWithinLimits (one_line f.0 l f.1 moved.spelled f.3.spelled) limits)

no_layout : (s : Site) (r : Reader) (text : List ℕ) (l : DocLine) → IsLineAt r.phase text l → NamesHold s r l → ¬ (IsFoundByReading s r (Whole text) Layout)
no_layout s r text l at names f =
    let moved = line_moved r.phase text f.0 l f.2 at in
    f.4 (subst (λ m. NamesHold s r m) (one_line f.0 l f.1 moved.spelled f.3.spelled) names)

-- before the names nothing is found of a line within its limits
none_before_layout : (s : Site) (r : Reader) (text : List ℕ) (l : DocLine) → IsLineAt r.phase text l → IsWithinLimits l → (c : Cause) → cause_number c < 11 → ¬ (IsFoundByReading s r (Whole text) c)
none_before_layout s r text l at limits Line h f = f
none_before_layout s r text l at limits Form h f = f.2 l (line_moved r.phase text f.0 l f.1 at)
none_before_layout s r text l at limits SiteCause h f = f
none_before_layout s r text l at limits Row h f = f
none_before_layout s r text l at limits Limit h f = no_limit s r text l at limits f
none_before_layout s r text l at limits Node h f = f
none_before_layout s r text l at limits Weight h f = f
none_before_layout s r text l at limits Arc h f = f
none_before_layout s r text l at limits Dead h f = f
none_before_layout s r text l at limits Full h f = f
none_before_layout s r text l at limits Layout h f = absurd (omega (arith, h))
none_before_layout s r text l at limits Verdict h f = absurd (omega (arith, h))

-- names that don't hold
pub first_layout : (s : Site) (r : Reader) (text : List ℕ) (l : DocLine) → IsLineAt r.phase text l → IsWithinLimits l → ¬ (NamesHold s r l) → IsLeastCause (IsFoundByReading s r (Whole text)) Layout
first_layout s r text l at limits none = record { holds = (text, l, refl, at, none); least = none_before_layout s r text l at limits }

-- nothing is found of a line within its limits whose names hold
pub readable : (s : Site) (r : Reader) (text : List ℕ) (l : DocLine) → IsLineAt r.phase text l → IsWithinLimits l → NamesHold s r l → IsReadable s r (Whole text) l
readable s r text l at limits names = record { text = text; piece_is = refl; line_is = at; none_found = none }
  where
    none : (c : Cause) → ¬ (IsFoundByReading s r (Whole text) c)
    none Line f = f
    none Form f = f.2 l (line_moved r.phase text f.0 l f.1 at)
    none SiteCause f = f
    none Row f = f
    none Limit f = no_limit s r text l at limits f
    none Node f = f
    none Weight f = f
    none Arc f = f
    none Dead f = f
    none Full f = f
    none Layout f = no_layout s r text l at names f
    none Verdict f = f

-- ---- the same of the words that were cut
pub good_readable : (s : Site) (r : Reader) (phase : Phase) (text : List ℕ) (ws : List (List ℕ)) (l : DocLine) → r.phase ≡ phase → IsCut text ws → IsGoodLine phase ws l → NamesHold s r l → IsReadable s r (Whole text) l
good_readable s r phase text ws l e cut h names =
    let P : Phase → Type 0 = λ p. IsLineAt p text l in
    readable s r text l (subst P (sym e) (line_of phase text ws l cut h.standing)) h.limits names

bad_here : (s : Site) (r : Reader) (text : List ℕ) (ws : List (List ℕ)) (cause : Cause) → IsCut text ws → IsBad r.phase ws cause → IsLeastCause (IsFoundByReading s r (Whole text)) cause
bad_here s r text ws Line cut h = absurd h
bad_here s r text ws Form cut h = first_form s r text (λ l at. h l (standing_of r.phase text ws l cut at))
bad_here s r text ws SiteCause cut h = absurd h
bad_here s r text ws Row cut h = absurd h
bad_here s r text ws Limit cut h = first_limit s r text h.0 (line_of r.phase text ws h.0 cut h.1) h.2
bad_here s r text ws Node cut h = absurd h
bad_here s r text ws Weight cut h = absurd h
bad_here s r text ws Arc cut h = absurd h
bad_here s r text ws Dead cut h = absurd h
bad_here s r text ws Full cut h = absurd h
bad_here s r text ws Layout cut h = absurd h
bad_here s r text ws Verdict cut h = absurd h

pub bad_refused : (s : Site) (r : Reader) (phase : Phase) (text : List ℕ) (ws : List (List ℕ)) (cause : Cause) → r.phase ≡ phase → IsCut text ws → IsBad phase ws cause → IsLeastCause (IsFoundByReading s r (Whole text)) cause
bad_refused s r phase text ws cause e cut h = let P : Phase → Type 0 = λ p. IsBad p ws cause in bad_here s r text ws cause cut (subst P (sym e) h)

-- where the input may end, no line may stand
pub no_line_past : (phase : Phase) (l : DocLine) → IsTrue (may_end phase) → ¬ (IsTrue (is_allowed phase l))
no_line_past AtBudget l h a = cc
no_line_past AtItem l h a = cc
no_line_past (AtWeights v k weights) l h a = cc
no_line_past (AtCables k) l h a = cc
no_line_past AtLast l h a = cc
no_line_past Past l h a = cc
no_line_past AtJudged l h a = cc
no_line_past (AtAnyCables zero) l h a = cc
no_line_past (AtAnyCables (suc k)) l h a = cc
