-- From the lines of a source to what a reader of a document does.
use Rattle.std.proofs.Common.{◌≡◌, ℕ, List, [], ◌∷◌, ◌++◌, Option, Some, None, Result, Ok, Err, false, refl, sym, ap, ◌∙◌, subst, append_assoc}
use Rattle.std.specs.Prelude.{IsTrue, IfNone}
use Rattle.cable_definitions.specs.declared.cable.Arc.{Arc as CandidateArc}
use Rattle.cable_definitions.specs.declared.claim.Cause.{Cause}
use Rattle.cable_definitions.specs.declared.claim.Refusal.{Refusal}
use Rattle.cable_definitions.specs.declared.claim.Cause.TheVariants.{Line as LineCause, Form}
use Rattle.cable_definitions.specs.Site.{Site}
use Rattle.cable_definitions.specs.Text.{words, line, Piece, Whole, LongLine, CutLine, NoLine}
use Rattle.cable_definitions.specs.Refusal.{DocLine, line_spelling, Phase, Reader, IsReadable, IsFoundByReading, IsFoundByFeeding, IsLeastCause, GoesOn, NamesHold, may_end}
use Rattle.cable_definitions.specs.Stream.{StreamState, FaultsRose, FaultsOnlyRise, GivesFront, IsAtEnd}
use Rattle.cable_text.specs.declared.fault.Line.{Line}
use Rattle.cable_text.specs.declared.fault.Line.TheVariants.{Text, End}
use Rattle.cable_text.specs.declared.fault.LineFault.{LineFault}
use Rattle.cable_text.specs.declared.fault.LineFault.TheVariants.{TooLong, NoNewline}
use Rattle.cable_text.specs.Lines.{ahead, StandsNext, LinesState, ReadsLine, ReadsPiece}
use Rattle.line_words.specs.Words.{IsCut}
use Rattle.line_words.specs.Judged.{IsStanding, IsGoodLine, IsBad}
use Rattle.proof_text.specs.declared.fault.ItemFault.TheVariants.{Refused}
use Rattle.proof_text.specs.Reading.{line_number_after, ReadsTo, ReadsDocLine, RefusedAfter, ReadsOneLine}
use Rattle.line_words.proofs.Decoding.{some_words}
use Rattle.proof_text.proofs.Causes.{first_line, first_missing, first_form, no_line_past, good_readable, bad_refused}

-- a refusal at the next line
pub refused_next : (s : Site) (r : Reader) (before after : Option (List ℕ)) (piece : Piece) (lines number : ℕ) (cause : Cause) → number ≡ line_number_after lines 1 → StandsNext before piece after → IsLeastCause (IsFoundByReading s r piece) cause → RefusedAfter s r before lines (record { line = number; cause = cause })
refused_next s r None after piece lines number cause e found first = tt
refused_next s r (Some bytes) after piece lines number cause e found first = record { read_lines = []; reader = r; left = bytes; reads = λ arcs. (refl, refl); piece = piece; rest = found.0; next = found.1; first = first; line_is = e }

-- one line that isn't fed
pub reads_one : (s : Site) (r : Reader) (before after : Option (List ℕ)) (text : List ℕ) (l : DocLine) (next : Reader) → StandsNext before (Whole text) after → IsReadable s r (Whole text) l
    → ((arcs : List CandidateArc) (cause : Cause) → ¬ (IsFoundByFeeding s arcs r l cause)) → ((arcs : List CandidateArc) → GoesOn s arcs r l next) → ReadsTo s r before after (l ∷ []) next
reads_one s r None after text l next found good unfed goes = found
reads_one s r (Some bytes) after text l next found good unfed goes = (found.0, found.2, λ arcs. (text, found.0, next, found.1, good, unfed arcs, goes arcs, (refl, refl)))

-- the text of a line in front
pub gives_line : (before after : Option (List ℕ)) (text whole : List ℕ) → StandsNext before (Whole text) after → whole ≡ text ++ 10 ∷ [] → GivesFront before after whole
gives_line None after text whole found e = found
gives_line (Some bytes) after text whole found e =
    (found.0, found.1.0 ∙ sym (append_assoc text (10 ∷ []) found.0) ∙ ap (λ front. front ++ found.0) (sym e), found.2)

-- the line of words as which a text stands
pub line_text : (phase : Phase) (text : List ℕ) (ws : List (List ℕ)) (l : DocLine) → IsCut text ws → IsStanding phase ws l → line (line_spelling l) ≡ text ++ 10 ∷ []
line_text phase text ws l cut h =
    let of = cut.of_words (λ e. some_words l (sym h.words_are ∙ e)) in
    ap (λ t. t ++ 10 ∷ []) (sym (of.text_is ∙ ap words h.words_are))

-- a call that reads one line, and refuses it
pub refused_line : {A : Type 0} {StandsSo : Site → Reader → Type 0} {old new : LinesState} {a b : StreamState} {refusal : Refusal} → FaultsOnlyRise a b → ((s : Site) (r : Reader) → StandsSo s r → RefusedAfter s r (ahead old a) old.lines refusal)
    → ReadsOneLine {A = A} (Err (Refused refusal)) StandsSo old new a b
refused_line count h = record { no_fault = tt; number = tt; lines = tt; refused = h; read = tt; count = count }

-- where no fault was kept
pub none_kept : {P : Type 0} (kept : Option LineFault) → kept ≡ None → IfNone kept P → P
none_kept None e p = p
none_kept (Some fault) e p = absurd (cc)

-- what a call for the next line that has this answer finds
module _ {old new : LinesState} {a b : StreamState} {result : Result Line LineFault} (h : ReadsLine old new a b result) where
  piece_at : (other : Result Line LineFault) → result ≡ other → ReadsPiece (ahead old a) (ahead new b) new.text (FaultsRose a b) other
  piece_at other e = let P : Result Line LineFault → Type 0 = λ r. ReadsPiece (ahead old a) (ahead new b) new.text (FaultsRose a b) r in subst P e h.piece

  -- the refusals of lines that are missing, too long or unended, and of one where the input may end
  pub refused_end : result ≡ Ok End → (s : Site) (r : Reader) → may_end r.phase ≡ false → RefusedAfter s r (ahead old a) old.lines (record { line = new.number; cause = LineCause })
  refused_end e s r m = refused_next s r (ahead old a) (ahead new b) NoLine old.lines new.number LineCause h.number (piece_at (Ok End) e) (first_missing s r m)

  pub refused_long : result ≡ Err TooLong → (s : Site) (r : Reader) → RefusedAfter s r (ahead old a) old.lines (record { line = new.number; cause = LineCause })
  refused_long e s r = refused_next s r (ahead old a) (ahead new b) LongLine old.lines new.number LineCause h.number (piece_at (Err TooLong) e) (first_line s r LongLine tt)

  pub refused_cut : result ≡ Err NoNewline → (s : Site) (r : Reader) → RefusedAfter s r (ahead old a) old.lines (record { line = new.number; cause = LineCause })
  refused_cut e s r = refused_next s r (ahead old a) (ahead new b) CutLine old.lines new.number LineCause h.number (piece_at (Err NoNewline) e) (first_line s r CutLine tt)

  pub refused_text : result ≡ Ok Text → (s : Site) (r : Reader) → IsTrue (may_end r.phase) → RefusedAfter s r (ahead old a) old.lines (record { line = new.number; cause = Form })
  refused_text e s r m =
      let p = piece_at (Ok Text) e in
      refused_next s r (ahead old a) (ahead new b) (Whole new.text) old.lines new.number Form h.number p.0 (first_form s r new.text (λ l at. no_line_past r.phase l m at.allowed))

-- ---- a line that was found, and whose words were cut
-- it is read
pub goes_one : (s : Site) (r : Reader) (phase : Phase) (before after : Option (List ℕ)) (text cut_text : List ℕ) (ws : List (List ℕ)) (l : DocLine) (next : Reader) → StandsNext before (Whole text) after → cut_text ≡ text → IsCut cut_text ws → IsGoodLine phase ws l
    → r.phase ≡ phase → NamesHold s r l → ((arcs : List CandidateArc) (cause : Cause) → ¬ (IsFoundByFeeding s arcs r l cause)) → ((arcs : List CandidateArc) → GoesOn s arcs r l next) → ReadsTo s r before after (l ∷ []) next
goes_one s r phase before after text cut_text ws l next found same cut good e names unfed goes =
    reads_one s r before after text l next found (good_readable s r phase text ws l e (subst (λ t. IsCut t ws) same cut) good names) unfed goes

-- it is refused
pub refused_here : (s : Site) (r : Reader) (phase : Phase) (before after : Option (List ℕ)) (text cut_text : List ℕ) (ws : List (List ℕ)) (lines number : ℕ) (cause : Cause) → StandsNext before (Whole text) after → cut_text ≡ text → IsCut cut_text ws → IsBad phase ws cause
    → r.phase ≡ phase → number ≡ line_number_after lines 1 → RefusedAfter s r before lines (record { line = number; cause = cause })
refused_here s r phase before after text cut_text ws lines number cause found same cut bad e n =
    refused_next s r before after (Whole text) lines number cause n found (bad_refused s r phase text ws cause e (subst (λ t. IsCut t ws) same cut) bad)

-- its text
pub line_given : (phase : Phase) (before after : Option (List ℕ)) (text cut_text : List ℕ) (ws : List (List ℕ)) (l : DocLine) (whole : List ℕ) → StandsNext before (Whole text) after → cut_text ≡ text → IsCut cut_text ws → IsStanding phase ws l → whole ≡ line (line_spelling l) → GivesFront before after whole
line_given phase before after text cut_text ws l whole found same cut standing e =
    gives_line before after text whole found (e ∙ line_text phase text ws l (subst (λ t. IsCut t ws) same cut) standing)

-- a line that is fed
pub line_of_good : (s : Site) (r : Reader) (phase : Phase) (before after : Option (List ℕ)) (text cut_text : List ℕ) (ws : List (List ℕ)) (l : DocLine) → StandsNext before (Whole text) after → cut_text ≡ text → IsCut cut_text ws → IsGoodLine phase ws l
    → r.phase ≡ phase → NamesHold s r l → ReadsDocLine s r before after l
line_of_good s r phase before after text cut_text ws l found same cut good e names =
    (text, good_readable s r phase text ws l e (subst (λ t. IsCut t ws) same cut) good names, found)

-- the end of the input stays the end
pub end_same : (before after : Option (List ℕ)) → StandsNext before NoLine after → after ≡ before
end_same None after found = found
end_same (Some bytes) after found = found.2 ∙ ap Some (found.1.1 ∙ sym found.1.0)

pub end_there : (before after : Option (List ℕ)) → after ≡ before → IsAtEnd before → IsAtEnd after
end_there before after e h = subst IsAtEnd (sym e) h
