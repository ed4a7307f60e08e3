-- A refusal behind a site is one, and a run to the end of the bytes excludes it.
use Rattle.std.proofs.Common.{◌≡◌, ℕ, ◌+◌, ⊎_elim, inl, inr, List, [], ◌∷◌, ◌++◌, length, IsTrue, refl, sym, ap, ◌∙◌, subst, arith}
use Rattle.std.proofs.lemmas.List.{append-nil, length-append}
use Rattle.std.proofs.lemmas.Bool.{not-true, both_ways}
use Rattle.cable_definitions.specs.declared.cable.Arc.{Arc as CandidateArc}
use Rattle.cable_definitions.specs.declared.claim.Cause.{Cause}
use Rattle.cable_definitions.specs.declared.claim.Cause.TheVariants.{Line, Form, Limit, Layout}
use Rattle.cable_definitions.specs.Site.{Site, IsValid}
use Rattle.cable_definitions.specs.Text.{Piece, NoLine, IsNext}
use Rattle.cable_definitions.specs.Refusal.{DocLine, Phase, Reader, reader_at, may_end, IsFoundByReading, IsFirstCause, ReadsLines, IsRefusedAfter}
use Rattle.site_laws.proofs.Pieces.{same_piece}
use Rattle.document_laws.specs.Runs.{GoesFurther}
use Rattle.document_laws.proofs.Runs.{runs-agree, cause-ends, first-same}

-- ---- runs that stop
-- where a run can't go on, both stop there
pub record SameStop (ls ms : List DocLine) (e f : Reader) (left rest : List ℕ) : Type 0 where
  pub lines : ls ≡ ms
  pub readers : e ≡ f
  pub rests : left ≡ rest

-- a run that goes on by no line
ended : (s : Site) (arcs : List CandidateArc) (ls ms : List DocLine) (e f : Reader) (left rest : List ℕ) → (g : GoesFurther s arcs ls e left ms f rest) → g.more ≡ [] → SameStop ls ms e f left rest
ended s arcs ls ms e f left rest g none =
    let reads = subst (λ (more : List DocLine). ReadsLines s arcs e left more f rest) none g.reads in
    record { lines = sym (append-nil ls) ∙ ap (λ (more : List DocLine). ls ++ more) (sym none) ∙ sym g.lines_are; readers = sym reads.0; rests = sym reads.1 }

turned : (ls ms : List DocLine) (e f : Reader) (left rest : List ℕ) → SameStop ls ms e f left rest → SameStop ms ls f e rest left
turned ls ms e f left rest t = record { lines = sym t.lines; readers = sym t.readers; rests = sym t.rests }

-- the run stops there for good
abbrev pub Stops : Site → List CandidateArc → Reader → List ℕ → Type 0
Stops s arcs e left = (more : List DocLine) (f : Reader) (rest : List ℕ) → ReadsLines s arcs e left more f rest → more ≡ []

pub stop-same : (s : Site) (arcs : List CandidateArc) → IsValid s → (r : Reader) (bytes : List ℕ) (ls ms : List DocLine) (e f : Reader) (left rest : List ℕ)
    → ReadsLines s arcs r bytes ls e left → Stops s arcs e left → ReadsLines s arcs r bytes ms f rest → Stops s arcs f rest → SameStop ls ms e f left rest
stop-same s arcs valid r bytes ls ms e f left rest h stop k end =
    ⊎_elim (λ (g : GoesFurther s arcs ls e left ms f rest). ended s arcs ls ms e f left rest g (stop g.more f rest g.reads))
    (λ (g : GoesFurther s arcs ms f rest ls e left). turned ms ls f e rest left (ended s arcs ms ls f e rest left g (end g.more e left g.reads)))
    (runs-agree s arcs valid r bytes ls ms e f left rest h k)

-- no line stands in no bytes
pub stops-empty : (s : Site) (arcs : List CandidateArc) (e : Reader) → Stops s arcs e []
stops-empty s arcs e [] f rest h = refl
stops-empty s arcs e (l ∷ more) f rest h = let n = ap length h.3.0 in absurd (omega (arith, n, length-append h.0 (10 ∷ h.1)))

-- at the end of the bytes no cause is found where the input may end
no_cause : (s : Site) (r : Reader) (cause : Cause) → IsTrue (may_end r.phase) → IsFoundByReading s r NoLine cause → ⊥
no_cause s r Line may h = both_ways (may_end r.phase) (not-true (may_end r.phase) h) may
no_cause s r Form may h = let e = h.1 in cc
no_cause s r Limit may h = let e = h.2 in cc
no_cause s r Layout may h = let e = h.2 in cc
no_cause s r cause may h = absurd h

pub cause-at_end : (s : Site) (arcs : List CandidateArc) (r : Reader) (cause : Cause) → IsTrue (may_end r.phase) → IsFirstCause s arcs r NoLine cause → ⊥
cause-at_end s arcs r cause may (inl h) = no_cause s r cause may h.holds
cause-at_end s arcs r cause may (inr h) = let e = h.1.piece_is in cc

-- ---- refusals behind a site
pub record SameRefusal (line there : ℕ) (cause other : Cause) : Type 0 where
  pub lines : line ≡ there
  pub causes : cause ≡ other

pub after-same : (s : Site) (arcs : List CandidateArc) → IsValid s → (start : Phase) (bytes : List ℕ) (base line there : ℕ) (cause other : Cause)
    → IsRefusedAfter s arcs start bytes base line cause → IsRefusedAfter s arcs start bytes base there other → SameRefusal line there cause other
after-same s arcs valid start bytes base line there cause other h k =
    let stop = stop-same s arcs valid (reader_at start) bytes h.read_lines k.read_lines h.reader k.reader h.left k.left
    h.reads (λ more f rest r. cause-ends s arcs h.reader f h.left h.rest rest h.piece cause more h.next h.first r)
    k.reads (λ more f rest r. cause-ends s arcs k.reader f k.left k.rest rest k.piece other more k.next k.first r) in
    let next = subst (λ (bs : List ℕ). IsNext bs h.piece h.rest) stop.rests h.next in
    let pieces = same_piece k.left h.piece k.piece h.rest k.rest next k.next in
    let moved = subst (λ (r : Reader). IsFirstCause s arcs r h.piece cause) stop.readers h.first in
    let first = subst (λ (p : Piece). IsFirstCause s arcs k.reader p cause) pieces moved in
    record {
      lines = h.line_is ∙ ap (λ (ls : List DocLine). base + length ls) stop.lines ∙ sym k.line_is;
      causes = first-same s arcs k.reader k.piece cause other first k.first;
    }

-- a run to the end of the bytes, where they may end, excludes a refusal
pub whole-stands : (s : Site) (arcs : List CandidateArc) → IsValid s → (start : Phase) (bytes : List ℕ) (ls : List DocLine) (e : Reader) (base line : ℕ) (cause : Cause)
    → ReadsLines s arcs (reader_at start) bytes ls e [] → IsTrue (may_end e.phase) → IsRefusedAfter s arcs start bytes base line cause → ⊥
whole-stands s arcs valid start bytes ls e base line cause reads may k =
    let stop = stop-same s arcs valid (reader_at start) bytes ls k.read_lines e k.reader [] k.left
    reads (stops-empty s arcs e)
    k.reads (λ more f rest r. cause-ends s arcs k.reader f k.left k.rest rest k.piece cause more k.next k.first r) in
    let next = subst (λ (bs : List ℕ). IsNext bs k.piece k.rest) (sym stop.rests) k.next in
    let piece = same_piece [] k.piece NoLine k.rest [] next (refl, refl) in
    let first = subst (λ (p : Piece). IsFirstCause s arcs k.reader p cause) piece k.first in
    cause-at_end s arcs k.reader cause (subst (λ (r : Reader). IsTrue (may_end r.phase)) stop.readers may) first
