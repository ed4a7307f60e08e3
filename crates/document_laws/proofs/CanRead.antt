-- Lines that a reader goes on after, one after another to the end of a document.
use Rattle.std.proofs.Common.{◌≡◌, ℕ, ◌≤◌, List, [], ◌∷◌, ◌++◌, length, IsTrue, refl, ◌∙◌, subst, append_assoc}
use Rattle.std.specs.Prelude.{All}
use Rattle.cable_definitions.specs.declared.cable.Arc.{Arc as CandidateArc}
use Rattle.cable_definitions.specs.declared.claim.Cause.{Cause}
use Rattle.cable_definitions.specs.declared.claim.Cause.TheVariants.{Line, Form, Limit, Layout}
use Rattle.cable_definitions.specs.Site.{Site}
use Rattle.cable_definitions.specs.Text.{words, line, IsWord, Whole}
use Rattle.cable_definitions.specs.Refusal.{DocLine, line_spelling, IsSpelled, HasMembers, IsWithinLimits, Reader, is_allowed, IsLineAt, NamesHold, IsFoundByReading, IsFoundByFeeding, IsReadable, GoesOn, ReadsLines}
use Rattle.document_laws.proofs.Words.{words_plain}
use Rattle.document_laws.proofs.Decoding.{line-same}

-- a line that a reader goes on after
pub record CanRead (s : Site) (arcs : List CandidateArc) (r : Reader) (l : DocLine) (next : Reader) : Type 0 where
  pub are_words : All IsWord (line_spelling l)
  pub short : length (words (line_spelling l)) ≤ 4096
  pub members : HasMembers l
  pub allowed : IsTrue (is_allowed r.phase l)
  pub within : IsWithinLimits l
  pub names : NamesHold s r l
  pub none_found : (cause : Cause) → ¬ (IsFoundByFeeding s arcs r l cause)
  pub goes_on : GoesOn s arcs r l next

line_at : (s : Site) (arcs : List CandidateArc) (r : Reader) (l : DocLine) (next : Reader) → CanRead s arcs r l next → IsLineAt r.phase (words (line_spelling l)) l
line_at s arcs r l next c = record { spelled = record { are_words = c.are_words; text_is = refl; members = c.members }; allowed = c.allowed }

-- a text with its newline is one
same_text : (text other : List ℕ) → Whole text ≡ Whole other → text ≡ other
same_text text other e = cc

-- no cause is found by reading it
none_by_reading : (s : Site) (arcs : List CandidateArc) (r : Reader) (l : DocLine) (next : Reader) → CanRead s arcs r l next → (cause : Cause) → ¬ (IsFoundByReading s r (Whole (words (line_spelling l))) cause)
none_by_reading s arcs r l next c Line h = h
none_by_reading s arcs r l next c Form (text, e, none) =
    none l (subst (λ (bytes : List ℕ). IsLineAt r.phase bytes l) (same_text (words (line_spelling l)) text e) (line_at s arcs r l next c))
none_by_reading s arcs r l next c Limit (text, other, e, at, beyond) =
    let there = subst (λ (bytes : List ℕ). IsSpelled bytes l) (same_text (words (line_spelling l)) text e) (line_at s arcs r l next c).spelled in
    beyond (subst IsWithinLimits (line-same text l other there at.spelled) c.within)
none_by_reading s arcs r l next c Layout (text, other, e, at, unnamed) =
    let there = subst (λ (bytes : List ℕ). IsSpelled bytes l) (same_text (words (line_spelling l)) text e) (line_at s arcs r l next c).spelled in
    unnamed (subst (NamesHold s r) (line-same text l other there at.spelled) c.names)
none_by_reading s arcs r l next c cause h = absurd h

readable : (s : Site) (arcs : List CandidateArc) (r : Reader) (l : DocLine) (next : Reader) → CanRead s arcs r l next → IsReadable s r (Whole (words (line_spelling l))) l
readable s arcs r l next c = record { text = words (line_spelling l); piece_is = refl; line_is = line_at s arcs r l next c; none_found = none_by_reading s arcs r l next c }

-- it stands in front of the lines of a run
pub first-line : (s : Site) (arcs : List CandidateArc) (r next end : Reader) (l : DocLine) (ls : List DocLine) (bytes after rest : List ℕ)
    → CanRead s arcs r l next → bytes ≡ line (line_spelling l) ++ after → ReadsLines s arcs next after ls end rest → ReadsLines s arcs r bytes (l ∷ ls) end rest
first-line s arcs r next end l ls bytes after rest c e reads = (
  words (line_spelling l),
  after,
  next,
  (e ∙ append_assoc (words (line_spelling l)) (10 ∷ []) after, words_plain (line_spelling l) c.are_words, c.short),
  readable s arcs r l next c,
  c.none_found,
  c.goes_on,
  reads,
)

-- a run over these lines to this reader and to the end of the bytes
pub record ReadsAll (s : Site) (arcs : List CandidateArc) (r : Reader) (bytes : List ℕ) (lines : List DocLine) (end : Reader) : Type 0 where
  pub reads : ReadsLines s arcs r bytes lines end []

-- a line more in front of it
pub reads-first : (s : Site) (arcs : List CandidateArc) (r next : Reader) (l : DocLine) (bytes after : List ℕ) (lines : List DocLine) (end : Reader)
    → CanRead s arcs r l next → bytes ≡ line (line_spelling l) ++ after → ReadsAll s arcs next after lines end → ReadsAll s arcs r bytes (l ∷ lines) end
reads-first s arcs r next l bytes after lines end c e w = record { reads = first-line s arcs r next end l lines bytes after [] c e w.reads }
