-- Inputs in lines and in JSON, by their first byte.
use Rattle.std.proofs.Common.{◌≡◌, ℕ, List, [], ◌∷◌, ◌++◌, Option, Some, None, inr, false, take, refl, sym, ap, ◌∙◌, subst, arith, length}
use Rattle.std.specs.Prelude.{◌↔◌, slice_get, Ok, Err, Result, ◌<◌, ◌+◌, ◌^◌, ◌≢◌, ◌≤◌, Bool, IfNone}
use Rattle.std.proofs.lemmas.Option.{none-some}
use Rattle.std.proofs.lemmas.List.{nil_from_length, length-append}
use Rattle.cable_definitions.specs.declared.site.SiteCode.{SiteCode}
use Rattle.cable_definitions.specs.declared.site.SiteCode.TheVariants.{TooLong}
use Rattle.cable_definitions.specs.Stream.{StreamState, FaultsRose, GivesFront, IsAtEnd}
use Rattle.cable_text.specs.Lines.{to_come, ahead, LinesState, PeeksByte, IsLonger, StandsNext, ReadsLine, ReadsPiece, next_number}
use Rattle.cable_text.specs.declared.fault.Line.{Line}
use Rattle.cable_text.specs.declared.fault.Line.TheVariants.{Text, End}
use Rattle.cable_text.specs.declared.fault.LineFault.{LineFault}
use Rattle.cable_text.specs.declared.fault.LineFault.TheVariants.{TooLong as LongFault, NoNewline, Read}
use Rattle.site_text.specs.Reading.{lines_after}
use Rattle.cable_definitions.specs.Items.{IsLineFault}
use Rattle.cable_definitions.specs.Document.{IsFaultAfter, code_after}
use Rattle.cable_definitions.specs.Text.{site_lines, line_count, Piece, Whole, LongLine, CutLine, NoLine, IsNext}
use Rattle.cable_definitions.specs.Site.{Site, IsValid}
use Rattle.site_model.specs.declared.fault.SiteFault.{SiteFault}
use Rattle.site_model.specs.declared.fault.SiteFault.TheVariants.{Refused}
use Rattle.run_definitions.specs.Bytes.{IsLineForm, IsJsonFault, IsWholeLineFault}

some_of : {A : Type 0} → (a b : A) → Some a ≡ Some b → a ≡ b
some_of a b e = cc

head_of : (a b : ℕ) → a ∷ [] ≡ b ∷ [] → a ≡ b
head_of a b e = cc

first_byte : (b : ℕ) (pending : List ℕ) (left : Option (List ℕ)) (bytes : List ℕ) → slice_get pending 0 ≡ Some b → to_come pending left ≡ Some bytes → take 1 bytes ≡ b ∷ []
first_byte b [] left bytes s a = absurd (none-some b s)
first_byte b (c ∷ pending) None bytes s a = absurd (none-some bytes a)
first_byte b (c ∷ pending) (Some left) bytes s a = sym (ap (take 1) (some_of _ bytes a)) ∙ ap (λ x. x ∷ []) (some_of c b s)

no_byte : (old : Option (List ℕ)) (bytes : List ℕ) → IsAtEnd old → old ≡ Some bytes → bytes ≡ []
no_byte None bytes h a = absurd (none-some bytes a)
no_byte (Some told) bytes h a = sym (some_of told bytes a) ∙ h

nothing_taken : (bytes : List ℕ) → bytes ≡ [] → take 1 bytes ≡ 115 ∷ [] → ⊥
nothing_taken [] e f = absurd (omega (arith, ap length f))
nothing_taken (b ∷ bytes) e f = absurd (omega (arith, ap length e))

-- the byte that a look at an input finds tells its form
pub form_of : (old new : LinesState) (left_old left_new : StreamState) (first : Option ℕ) (bytes : List ℕ) → PeeksByte old new left_old left_new (Ok first)
    → ahead old left_old ≡ Some bytes → (first ≡ Some 115) ↔ IsLineForm bytes
form_of old new left_old left_new (Some b) bytes p a =
    let found = first_byte b new.pending left_new.bytes bytes p.0 (p.1 ∙ a) in
    (λ e. found ∙ ap (λ x. x ∷ []) (some_of b 115 e), λ f. ap Some (head_of b 115 (sym found ∙ f)))
form_of old new left_old left_new None bytes p a =
    let none = no_byte _ bytes p.0 a in
    (λ e. absurd (none-some 115 e), λ f. absurd (nothing_taken bytes none f))

-- more bytes than a JSON site may have
pub longer : (told : Option (List ℕ)) (bytes : List ℕ) → IsLonger told 8388608 → told ≡ Some bytes → IsJsonFault bytes TooLong 0
longer None bytes l a = absurd (none-some bytes a)
longer (Some all) bytes l a = IsJsonFault.too_long (omega (arith, l, ap length (some_of all bytes a)))

-- what a refusal at a place is
pub same_refusal : {A : Type 0} → (r : SiteFault) (code other : SiteCode) (place second : ℕ) (broken broken_too : Bool) → ◌≡◌ {A = Result A SiteFault} (Err r) (Err (Refused code place broken))
    → r ≡ Refused other second broken_too → (other ≡ code) × (second ≡ place)
same_refusal r code other place second broken broken_too e f = (cc, cc)

pub json_fault_at : (bytes : List ℕ) (code other : SiteCode) (place second : ℕ) → (other ≡ code) × (second ≡ place) → IsJsonFault bytes other second → IsJsonFault bytes code place
json_fault_at bytes code other place second e h = subst (λ k. IsJsonFault bytes k place) e.0 (subst (λ p. IsJsonFault bytes other p) e.1 h)

-- the fault of a site whose lines are counted from the first
pub first_fault : (lines : ℕ) (bytes : List ℕ) (code : SiteCode) (place : ℕ) (broken : Bool) → lines ≡ 0
    → (lines + 34100 < 2 ^ 64 → IsLineFault bytes (lines + 1) code place broken) → IsLineFault bytes 1 code place broken
first_fault lines bytes code place broken e f = subst (λ b. IsLineFault bytes b code place broken) (omega (arith, e)) (f (omega (arith, e)))

-- the bytes that are to come before anything was pulled
pub fresh_ahead : (pending : List ℕ) (left : Option (List ℕ)) (bytes : List ℕ) → pending ≡ [] → left ≡ Some bytes → to_come pending left ≡ Some bytes
fresh_ahead pending left bytes e a = ap (λ p. to_come p left) e ∙ ap (to_come []) a

-- the bytes behind a site
pub behind : (before middle : Option (List ℕ)) (text bytes : List ℕ) → GivesFront before middle text → before ≡ Some bytes
    → (rest : List ℕ) × (bytes ≡ text ++ rest) × (middle ≡ Some rest)
behind None middle text bytes g a = absurd (none-some bytes a)
behind (Some told) middle text bytes g a = (g.0, sym (some_of told bytes a) ∙ g.1, g.2)

found_next : (middle after : Option (List ℕ)) (piece : Piece) (rest : List ℕ) → StandsNext middle piece after → middle ≡ Some rest → (further : List ℕ) × IsNext rest piece further
found_next None after piece rest f a = absurd (none-some rest a)
found_next (Some told) after piece rest f a = (f.0, subst (λ b. IsNext b piece f.0) (some_of told rest a) f.1)

some_next : (rest further : List ℕ) (piece : Piece) → IsNext rest piece further → piece ≢ NoLine → rest ≢ []
some_next rest further (Whole text) n p e = absurd (omega (arith, ap length n.0, ap length e, length-append text (10 ∷ further)))
some_next rest further LongLine n p e = absurd (omega (arith, n.0, ap length e))
some_next rest further CutLine n p e = absurd (omega (arith, n.0, ap length e))
some_next rest further NoLine n p e = p refl

-- what stands behind a whole site is a fault at the next line
pub fault_behind : (s : Site) (bytes : List ℕ) (before middle after : Option (List ℕ)) (piece : Piece) (place : ℕ) → IsValid s → GivesFront before middle (site_lines s) → before ≡ Some bytes
    → StandsNext middle piece after → piece ≢ NoLine → place ≡ line_count (site_lines s) + 1 → IsFaultAfter bytes (code_after piece) place
fault_behind s bytes before middle after piece place v g a f p e =
    let b = behind before middle (site_lines s) bytes g a in
    let n = found_next middle after piece b.0 f b.2 in
    record { site = s; rest = b.0; front = record { valid = v; text = b.1 }; some_rest = some_next b.0 n.0 piece n.1 p; piece = piece; further = n.0; next = n.1; code_is = refl; place_is = e }

pub fault_after_at : (bytes : List ℕ) (code other : SiteCode) (place second : ℕ) → (other ≡ code) × (second ≡ place) → IsFaultAfter bytes other second → IsFaultAfter bytes code place
fault_after_at bytes code other place second e h = subst (λ k. IsFaultAfter bytes k place) e.0 (subst (λ p. IsFaultAfter bytes other p) e.1 h)

-- the number of the line behind a site whose lines are counted from the first
pub next_place : (number lines old count : ℕ) → number ≡ next_number lines → lines ≡ lines_after old count → old ≡ 0 → count ≤ 34100 → number ≡ count + 1
next_place number lines old count e f g h = omega (arith, e, f, g, h)

-- a source with nothing ahead has nothing left
pub left_at_end : (pending : List ℕ) (left : Option (List ℕ)) → IsAtEnd (to_come pending left) → IsAtEnd left
left_at_end pending None h = tt
left_at_end pending (Some bytes) h = nil_from_length bytes (omega (arith, ap length h, length-append pending bytes))

unkept : {F : Type 0} (kept : Option F) (P : Type 0) → kept ≡ None → IfNone kept P → P
unkept kept P e h = subst (λ o. IfNone o P) e h

at_no_line : (old new : Option (List ℕ)) → StandsNext old NoLine new → IsAtEnd new
at_no_line None new f = subst IsAtEnd (sym f) tt
at_no_line (Some bytes) new f = subst IsAtEnd (sym f.2) f.1.1

no_text : ¬ (Text ≡ End)
no_text e = cc

at_end : (old new : Option (List ℕ)) (text : List ℕ) (failed : Type 0) (line : Line) → ReadsPiece old new text failed (Ok line) → line ≡ End → IsAtEnd new
at_end old new text failed Text p e = absurd (no_text e)
at_end old new text failed End p e = at_no_line old new p

-- where the input ends behind the lines, nothing is left
pub ended_input : (old new : LinesState) (left_old left_new : StreamState) (line : Line) → old.fault ≡ None
    → IfNone old.fault (ReadsLine old new left_old left_new (Ok line)) → line ≡ End → IsAtEnd left_new.bytes
ended_input old new left_old left_new line k r e =
    let reads = unkept old.fault (ReadsLine old new left_old left_new (Ok line)) k r in
    left_at_end new.pending left_new.bytes (at_end _ _ new.text (FaultsRose left_old left_new) line reads.piece e)

-- what a call for the next line finds behind a site
abbrev pub piece_of : List ℕ → Result Line LineFault → Piece
piece_of text (Ok Text) = Whole text
piece_of text (Ok End) = NoLine
piece_of text (Err LongFault) = LongLine
piece_of text (Err NoNewline) = CutLine
piece_of text (Err Read) = NoLine

found_piece : (old new : Option (List ℕ)) (text : List ℕ) (failed : Type 0) (result : Result Line LineFault) → ReadsPiece old new text failed result → result ≢ Err Read
    → StandsNext old (piece_of text result) new
found_piece old new text failed (Ok Text) p n = p.0
found_piece old new text failed (Ok End) p n = p
found_piece old new text failed (Err LongFault) p n = p
found_piece old new text failed (Err NoNewline) p n = p
found_piece old new text failed (Err Read) p n = absurd (n refl)

pub text_piece : (text : List ℕ) (line : Line) → line ≡ Text → piece_of text (Ok line) ≡ Whole text
text_piece text Text e = refl
text_piece text End e = absurd (no_text (sym e))

pub cut_piece : (text : List ℕ) (fault : LineFault) → fault ≡ NoNewline → piece_of text (Err fault) ≡ CutLine
cut_piece text fault e = ap (λ f. piece_of text (Err f)) e

pub whole_is_some : (text : List ℕ) → ¬ (Whole text ≡ NoLine)
whole_is_some text e = cc

pub cut_is_some : ¬ (CutLine ≡ NoLine)
cut_is_some e = cc

read_is_none : (text : List ℕ) (piece : Piece) (result : Result Line LineFault) → piece_of text result ≡ piece → ¬ (piece ≡ NoLine) → ¬ (result ≡ Err Read)
read_is_none text piece result q p e = p (sym q ∙ ap (piece_of text) e)

-- a line behind a whole site, or what stands there in place of one, is the fault that is answered
pub refused_behind : {A : Type 0} → (old lines new : LinesState) (left_old left left_new : StreamState) (result : Result Line LineFault) (site : Site) (refusal : SiteFault) (at : ℕ)
    (bytes : List ℕ) (code other : SiteCode) (place : ℕ) (broken : Bool) (piece : Piece)
    → IsValid site → GivesFront (ahead old left_old) (ahead lines left) (site_lines site) → ahead old left_old ≡ Some bytes
    → lines.fault ≡ None → IfNone lines.fault (ReadsLine lines new left left_new result)
    → piece_of new.text result ≡ piece → ¬ (piece ≡ NoLine) → other ≡ code_after piece
    → lines.lines ≡ lines_after old.lines (line_count (site_lines site)) → old.lines ≡ 0 → line_count (site_lines site) ≤ 34100
    → at ≡ new.number → ◌≡◌ {A = Result A SiteFault} (Err refusal) (Err (Refused code place broken)) → refusal ≡ Refused other at false
    → IsWholeLineFault bytes code place
refused_behind {A = A} old lines new left_old left left_new result site refusal at bytes code other place broken piece v gives a k r q p o count zero few number e f =
    let reads = unkept lines.fault (ReadsLine lines new left left_new result) k r in
    let same = same_refusal {A = A} refusal code other place at broken false e f in
    let found = subst (λ x. StandsNext (ahead lines left) x (ahead new left_new)) q (found_piece _ _ new.text (FaultsRose left left_new) result reads.piece (read_is_none new.text piece result q p)) in
    let fault = fault_behind site bytes _ _ _ piece at v gives a found p (number ∙ next_place new.number lines.lines old.lines (line_count (site_lines site)) reads.number count zero few) in
    inr (fault_after_at bytes code (code_after piece) place at (sym o ∙ same.0, same.1) fault)
