-- Lines behind lines.
use Rattle.std.proofs.Common.{◌≡◌, ℕ, ◌+◌, List, [], ◌∷◌, ◌++◌, length, Option, Some, None, Result, Ok, Err, refl, subst, arith}
use Rattle.std.specs.Prelude.{IsTrue}
use Rattle.std.proofs.lemmas.List.{length-append}
use Rattle.cable_definitions.specs.declared.cable.Arc.{Arc as CandidateArc}
use Rattle.cable_definitions.specs.declared.claim.Refusal.{Refusal}
use Rattle.cable_definitions.specs.Site.{Site}
use Rattle.cable_definitions.specs.Refusal.{DocLine, EndLine, AtLast, Past, Reader, ReadsLines, may_end}
use Rattle.proof_text.specs.declared.fault.ItemFault.{ItemFault}
use Rattle.proof_text.specs.declared.fault.ItemFault.TheVariants.{Refused, Read}
use Rattle.proof_text.specs.Reading.{line_number_after, ReadsTo, RefusedAfter, IfRefused}

-- lines and then further lines
pub reads_append : (s : Site) (arcs : List CandidateArc) (r e f : Reader) (bytes middle rest : List ℕ) (ls ms : List DocLine) → ReadsLines s arcs r bytes ls e middle → ReadsLines s arcs e middle ms f rest → ReadsLines s arcs r bytes (ls ++ ms) f rest
reads_append s arcs r e f bytes middle rest [] ms h k =
    let P : Reader → Type 0 = λ q. ReadsLines s arcs q middle ms f rest in
    let Q : List ℕ → Type 0 = λ b. ReadsLines s arcs r b ms f rest in
    subst Q h.1 (subst P h.0 k)
reads_append s arcs r e f bytes middle rest (l ∷ ls) ms h k = (h.0, h.1, h.2, h.3, h.4, h.5, h.6, reads_append s arcs h.2 e f h.1 middle rest ls ms h.7 k)

-- the same where the source tells its bytes
pub reads_then : (s : Site) (r e f : Reader) (before middle after : Option (List ℕ)) (ls ms : List DocLine) → ReadsTo s r before middle ls e → ReadsTo s e middle after ms f → ReadsTo s r before after (ls ++ ms) f
reads_then s r e f None middle after ls ms h k = let P : Option (List ℕ) → Type 0 = λ o. ReadsTo s e o after ms f in subst P h k
reads_then s r e f (Some bytes) middle after ls ms h k =
    let P : Option (List ℕ) → Type 0 = λ o. ReadsTo s e o after ms f in
    let d = subst P h.1 k in
    (d.0, d.1, λ arcs. reads_append s arcs r e f bytes h.0 d.0 ls ms (h.2 arcs) (d.2 arcs))

-- so many lines and then so many
pub counted_then : (lines a b : ℕ) → line_number_after (line_number_after lines a) b ≡ line_number_after lines (a + b)
counted_then lines a b = omega arith

-- a refusal behind lines that were read, as the next line's number tells
pub refused_after : (s : Site) (r e : Reader) (before middle : Option (List ℕ)) (ls : List DocLine) (lines later : ℕ) (x : Refusal) → ReadsTo s r before middle ls e → line_number_after later 1 ≡ line_number_after lines (1 + length ls) → RefusedAfter s e middle later x → RefusedAfter s r before lines x
refused_after s r e None middle ls lines later x h n k = tt
refused_after s r e (Some bytes) middle ls lines later x h n k =
    let P : Option (List ℕ) → Type 0 = λ o. RefusedAfter s e o later x in
    let d = subst P h.1 k in
    record {
      read_lines = ls ++ d.read_lines;
      reader = d.reader;
      left = d.left;
      reads = λ arcs. reads_append s arcs r e d.reader bytes h.0 d.left ls d.read_lines (h.2 arcs) (d.reads arcs);
      piece = d.piece;
      rest = d.rest;
      next = d.next;
      first = d.first;
      line_is = omega (arith, d.line_is, n, length-append ls d.read_lines);
    }

-- the same where so many lines were read
pub refused_behind : (s : Site) (r e : Reader) (before middle : Option (List ℕ)) (ls : List DocLine) (lines later : ℕ) (x : Refusal) → ReadsTo s r before middle ls e → later ≡ line_number_after lines (length ls) → RefusedAfter s e middle later x → RefusedAfter s r before lines x
refused_behind s r e before middle ls lines later x h n k = refused_after s r e before middle ls lines later x h (omega (arith, n)) k

-- a refusal behind the last line
pub close_refused : (result : Result (Unit {0}) ItemFault) (before middle : Option (List ℕ)) (lines later : ℕ) → ((s : Site) (r : Reader) → r.phase ≡ AtLast → ReadsTo s r before middle (EndLine ∷ []) (record r { phase = Past })) → later ≡ line_number_after lines 1
    → IfRefused result (λ x. (s : Site) (r : Reader) → IsTrue (may_end r.phase) → RefusedAfter s r middle later x) → IfRefused result (λ x. (s : Site) (r : Reader) → r.phase ≡ AtLast → RefusedAfter s r before lines x)
close_refused (Ok u) before middle lines later reads n h = tt
close_refused (Err (Refused x)) before middle lines later reads n h = λ s r e. refused_behind s r (record r { phase = Past }) before middle (EndLine ∷ []) lines later x (reads s r e) n (h s (record r { phase = Past }) refl)
close_refused (Err Read) before middle lines later reads n h = tt
