-- Two runs of one reader over the same bytes: one is the beginning of the other, and a first cause ends both.
use Rattle.std.proofs.Common.{◌≡◌, ℕ, ◌==◌, cond, ◌<◌, ◌⊎◌, ⊎_elim, inl, inr, List, [], ◌∷◌, refl, sym, ap, ◌∙◌, subst}
use Rattle.std.proofs.lemmas.Bool.{cases_order}
use Rattle.cable_definitions.specs.declared.cable.Arc.{Arc as CandidateArc}
use Rattle.cable_definitions.specs.declared.claim.Cause.{Cause}
use Rattle.cable_definitions.specs.declared.claim.Cause.TheVariants.{Line, Form, Site as SiteCause, Row, Limit, Node, Weight, Arc, Dead, Full, Layout, Verdict}
use Rattle.cable_definitions.specs.Site.{Site, IsValid}
use Rattle.cable_definitions.specs.Text.{Piece, Whole, IsNext}
use Rattle.cable_definitions.specs.Refusal.{DocLine, Reader, IsSpelled, IsReadable, IsFoundByReading, IsFoundByFeeding, cause_number, IsLeastCause, IsFirstCause, GoesOn, ReadsLines}
use Rattle.document_laws.specs.Runs.{GoesFurther}
use Rattle.document_laws.proofs.Decoding.{line-same}
use Rattle.site_laws.proofs.Pieces.{same_piece, same_rest}
use Rattle.document_laws.proofs.Going.{goes-same}

-- one line is readable there
pub readable-same : (s : Site) (r : Reader) (piece : Piece) (l other : DocLine) → IsReadable s r piece l → IsReadable s r piece other → l ≡ other
readable-same s r piece l other h k =
    let texts : Whole h.text ≡ Whole k.text = sym h.piece_is ∙ k.piece_is in
    let same : h.text ≡ k.text = cc in
    line-same k.text l other (subst (λ (text : List ℕ). IsSpelled text l) same h.line_is.spelled) k.line_is.spelled

-- ---- two runs
-- a line more in front of both
further : (s : Site) (arcs : List CandidateArc) (l m : DocLine) (ls ms : List DocLine) (e f : Reader) (left rest : List ℕ) → l ≡ m → GoesFurther s arcs ls e left ms f rest → GoesFurther s arcs (l ∷ ls) e left (m ∷ ms) f rest
further s arcs l m ls ms e f left rest same g = let lines = g.lines_are in record { more = g.more; lines_are = cc; reads = g.reads }

pub runs-agree : (s : Site) (arcs : List CandidateArc) → IsValid s → (r : Reader) (bytes : List ℕ) (ls ms : List DocLine) (e f : Reader) (left rest : List ℕ)
    → ReadsLines s arcs r bytes ls e left → ReadsLines s arcs r bytes ms f rest → GoesFurther s arcs ls e left ms f rest ⊎ GoesFurther s arcs ms f rest ls e left
runs-agree s arcs valid r bytes [] ms e f left rest h k =
    let there = subst (λ (x : Reader). ReadsLines s arcs x bytes ms f rest) (sym h.0) k in
    inl (record { more = ms; lines_are = refl; reads = subst (λ (bs : List ℕ). ReadsLines s arcs e bs ms f rest) (sym h.1) there })
runs-agree s arcs valid r bytes (l ∷ ls) [] e f left rest h k =
    let there = subst (λ (x : Reader). ReadsLines s arcs x bytes (l ∷ ls) e left) (sym k.0) h in
    inr (record { more = l ∷ ls; lines_are = refl; reads = subst (λ (bs : List ℕ). ReadsLines s arcs f bs (l ∷ ls) e left) (sym k.1) there })
runs-agree s arcs valid r bytes (l ∷ ls) (m ∷ ms) e f left rest h k =
    let here = subst (λ (piece : Piece). IsReadable s r piece l) (same_piece bytes (Whole h.0) (Whole k.0) h.1 k.1 h.3 k.3) h.4 in
    let lines : l ≡ m = readable-same s r (Whole k.0) l m here k.4 in
    let goes = subst (λ (x : DocLine). GoesOn s arcs r x h.2) lines h.6 in
    let nexts = goes-same s valid arcs r m h.2 k.2 goes k.6 in
    let moved = subst (λ (x : Reader). ReadsLines s arcs x h.1 ls e left) nexts h.7 in
    let rests = subst (λ (bs : List ℕ). ReadsLines s arcs k.2 bs ls e left) (same_rest bytes h.0 k.0 h.1 k.1 h.3 k.3) moved in
    ⊎_elim (λ (g : GoesFurther s arcs ls e left ms f rest). inl (further s arcs l m ls ms e f left rest lines g))
    (λ (g : GoesFurther s arcs ms f rest ls e left). inr (further s arcs m l ms ls f e rest left (sym lines) g))
    (runs-agree s arcs valid k.2 k.1 ls ms e f left rest rests k.7)

-- ---- a first cause ends a run
pub cause-ends : (s : Site) (arcs : List CandidateArc) (e f : Reader) (left rest after : List ℕ) (piece : Piece) (cause : Cause) (more : List DocLine)
    → IsNext left piece rest → IsFirstCause s arcs e piece cause → ReadsLines s arcs e left more f after → more ≡ []
cause-ends s arcs e f left rest after piece cause [] n first reads = refl
cause-ends s arcs e f left rest after piece cause (l ∷ more) n first reads = absurd (stops first)
  where
    one : piece ≡ Whole reads.0
    one = same_piece left piece (Whole reads.0) rest reads.1 n reads.3

    stops : IsFirstCause s arcs e piece cause → ⊥
    stops (inl least) = reads.4.none_found cause (subst (λ (p : Piece). IsFoundByReading s e p cause) one least.holds)
    stops (inr (m, readable, least)) =
        let there = subst (λ (p : Piece). IsReadable s e p m) one readable in
        reads.5 cause (subst (λ (x : DocLine). IsFoundByFeeding s arcs e x cause) (readable-same s e (Whole reads.0) m l there reads.4) least.holds)

-- ---- one cause comes first
-- the cause of a number
cause_of : ℕ → Cause
cause_of n = cond (n == 2) Form (cond (n == 3) SiteCause (cond (n == 4) Row (cond (n == 5) Limit (cond (n == 6) Node (cond (n == 7) Weight (cond (n == 8) Arc (cond (n == 9) Dead (cond (n == 10) Full (cond (n == 11) Layout (cond (n == 12) Verdict Line))))))))))

numbered : (cause : Cause) → cause_of (cause_number cause) ≡ cause
unfolding cause_of
numbered Line = refl
numbered Form = refl
numbered SiteCause = refl
numbered Row = refl
numbered Limit = refl
numbered Node = refl
numbered Weight = refl
numbered Arc = refl
numbered Dead = refl
numbered Full = refl
numbered Layout = refl
numbered Verdict = refl

least_same : (Holds : Cause → Type 0) (cause other : Cause) → IsLeastCause Holds cause → IsLeastCause Holds other → cause ≡ other
least_same Holds cause other h k =
    ⊎_elim (λ (e : cause_number cause ≡ cause_number other). sym (numbered cause) ∙ ap cause_of e ∙ numbered other)
    (λ (w : (cause_number cause < cause_number other) ⊎ (cause_number other < cause_number cause)).
    ⊎_elim (λ (l : cause_number cause < cause_number other). absurd (k.least cause l h.holds)) (λ (l : cause_number other < cause_number cause). absurd (h.least other l k.holds)) w)
    (cases_order (cause_number cause) (cause_number other))

pub first-same : (s : Site) (arcs : List CandidateArc) (r : Reader) (piece : Piece) (cause other : Cause) → IsFirstCause s arcs r piece cause → IsFirstCause s arcs r piece other → cause ≡ other
first-same s arcs r piece cause other (inl h) (inl k) = least_same (IsFoundByReading s r piece) cause other h k
first-same s arcs r piece cause other (inl h) (inr (l, readable, k)) = absurd (readable.none_found cause h.holds)
first-same s arcs r piece cause other (inr (l, readable, h)) (inl k) = absurd (readable.none_found other k.holds)
first-same s arcs r piece cause other (inr (l, readable, h)) (inr (m, there, k)) =
    least_same (IsFoundByFeeding s arcs r m) cause other (subst (λ (x : DocLine). IsLeastCause (IsFoundByFeeding s arcs r x) cause) (readable-same s r piece l m readable there) h) k
