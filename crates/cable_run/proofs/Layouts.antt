-- Layouts that are read behind a site.
use Rattle.std.proofs.Common.{◌≡◌, ℕ, zero, suc, ◌+◌, ◌≤◌, List, [], ◌∷◌, length, false, Option, Some, None, refl, sym, subst, arith}
use Rattle.std.specs.Prelude.{pos, Result, Ok, Err, OnOk, IsTrue}
use Rattle.std.proofs.lemmas.Option.{none-some}
use Rattle.cable_definitions.specs.declared.cable.Cable.{Cable}
use Rattle.cable_definitions.specs.declared.cable.Arc.{Arc}
use Rattle.cable_definitions.specs.Site.{Site}
use Rattle.cable_definitions.specs.Refusal.{DocLine, LayoutLine, Reader, reader_at, AtJudged, AtAnyCables, may_end, ReadsLines}
use Rattle.cable_definitions.specs.declared.claim.Refusal.{Refusal}
use Rattle.cable_definitions.specs.Stream.{IsAtEnd}
use Rattle.cable_text.specs.Lines.{to_come}
use Rattle.site_input.proofs.Forms.{left_at_end}
use Rattle.proof_text.specs.declared.fault.ItemFault.{ItemFault}
use Rattle.proof_text.specs.declared.fault.ItemFault.TheVariants.{Refused, Read}
use Rattle.proof_text.specs.Reading.{line_number_after, ReadsTo, RefusedAfter, IfRefused}
use Rattle.proof_text.specs.Cables.{ReadsCables}
use Rattle.proof_text.proofs.Behind.{reads_then, refused_after, refused_behind}
use Rattle.cable_run.specs.Steps.{ReadsToEnd}

-- the reader behind the number of cables, and behind these cables
abbrev pub at_cables : ℕ → List Cable → Reader
at_cables k cables = record (reader_at AtJudged) { phase = AtAnyCables k; cables = cables }

-- the line with the number of cables, and the cable lines
pub both_read : (s : Site) (before middle after : Option (List ℕ)) (count : ℕ) (cables : List Cable)
    → ReadsTo s (reader_at AtJudged) before middle (LayoutLine (pos count) ∷ []) (at_cables count []) → (lines : ReadsCables s false count 0 middle after cables)
    → ReadsTo s (reader_at AtJudged) before after (LayoutLine (pos count) ∷ lines.read_lines) (at_cables 0 cables)
both_read s before middle after count cables first lines =
    reads_then s (reader_at AtJudged) (at_cables count []) (at_cables 0 cables) before middle after (LayoutLine (pos count) ∷ []) lines.read_lines first (lines.reads (at_cables count []) refl refl)

read_to_end : (s : Site) (start e : Reader) (before after : Option (List ℕ)) (ls : List DocLine) (bytes : List ℕ) → ReadsTo s start before after ls e → IsAtEnd after → before ≡ Some bytes
    → (arcs : List Arc) → ReadsLines s arcs start bytes ls e []
read_to_end s start e None after ls bytes r h told arcs = absurd (none-some bytes told)
read_to_end s start e (Some told) after ls bytes r h same arcs =
    let ended : r.0 ≡ [] = subst IsAtEnd r.1 h in
    let here = subst (λ (rest : List ℕ). ReadsLines s arcs start told ls e rest) ended (r.2 arcs) in
    subst (λ (b : List ℕ). ReadsLines s arcs start b ls e []) (bytes_are told bytes same) here
  where
    bytes_are : (a b : List ℕ) → Some a ≡ Some b → a ≡ b
    bytes_are a b e = cc

-- the lines of a layout, to the end
pub layout_read : (s : Site) (before middle after : Option (List ℕ)) (count : ℕ) (cables : List Cable)
    → ReadsTo s (reader_at AtJudged) before middle (LayoutLine (pos count) ∷ []) (at_cables count []) → ReadsCables s false count 0 middle after cables → IsAtEnd after
    → ReadsToEnd s before cables
layout_read s before middle after count cables first lines ended = λ bytes told. (
  LayoutLine (pos count) ∷ lines.read_lines,
  at_cables 0 cables,
  read_to_end s (reader_at AtJudged) (at_cables 0 cables) before after (LayoutLine (pos count) ∷ lines.read_lines) bytes (both_read s before middle after count cables first lines) ended told,
  refl,
  refl,
)

-- a refusal among the cables
pub cables_refused : (s : Site) (before middle : Option (List ℕ)) (lines later count : ℕ) (x : Refusal)
    → ReadsTo s (reader_at AtJudged) before middle (LayoutLine (pos count) ∷ []) (at_cables count []) → later ≡ line_number_after lines 1
    → RefusedAfter s (at_cables count []) middle later x → RefusedAfter s (reader_at AtJudged) before lines x
cables_refused s before middle lines later count x first number h = refused_behind s (reader_at AtJudged) (at_cables count []) before middle (LayoutLine (pos count) ∷ []) lines later x first number h

count_behind : (lines first last count : ℕ) → first ≡ line_number_after lines 1 → (1 ≤ count → last ≡ line_number_after first count) → (count ≡ 0 → last ≡ first) → line_number_after last 1 ≡ line_number_after lines (1 + (1 + count))
count_behind lines first last zero f some none = omega (arith, f, none refl)
count_behind lines first last (suc k) f some none = omega (arith, f, some (omega arith))

-- a refusal behind the cables
pub end_refused : (s : Site) (before middle after : Option (List ℕ)) (lines first last count : ℕ) (cables : List Cable) (x : Refusal)
    → ReadsTo s (reader_at AtJudged) before middle (LayoutLine (pos count) ∷ []) (at_cables count []) → ReadsCables s false count 0 middle after cables → length cables ≡ count
    → first ≡ line_number_after lines 1 → (1 ≤ count → last ≡ line_number_after first count) → (count ≡ 0 → last ≡ first)
    → RefusedAfter s (at_cables 0 cables) after last x → RefusedAfter s (reader_at AtJudged) before lines x
end_refused s before middle after lines first last count cables x line read size number some none h =
    let many = count_behind lines first last count number some none in
    let all : 1 + length read.read_lines ≡ 1 + count = omega (arith, read.lines_count, size) in
    refused_after s (reader_at AtJudged) (at_cables 0 cables) before after (LayoutLine (pos count) ∷ read.read_lines) lines last x (both_read s before middle after count cables line read)
    (omega (arith, many, all)) h

-- the bytes to come are those that were to come, and none were
pub none_left : (pending : List ℕ) (left old : Option (List ℕ)) → IsAtEnd old → to_come pending left ≡ old → IsAtEnd left
none_left pending left old h e = left_at_end pending left (subst IsAtEnd (sym e) h)

-- the same of the answer of the cables, and of what stands behind them
pub cables_fail : (A : Type 0) (fault : ItemFault) (s : Site) (before middle : Option (List ℕ)) (lines later count : ℕ)
    → ReadsTo s (reader_at AtJudged) before middle (LayoutLine (pos count) ∷ []) (at_cables count []) → later ≡ line_number_after lines 1
    → IfRefused {A = A} (Err fault) (λ x. (r : Reader) → r.phase ≡ AtAnyCables count → r.cables ≡ [] → RefusedAfter s r middle later x)
    → IfRefused {A = A} (Err fault) (λ x. RefusedAfter s (reader_at AtJudged) before lines x)
cables_fail A (Refused x) s before middle lines later count first number h = cables_refused s before middle lines later count x first number (h (at_cables count []) refl refl)
cables_fail A Read s before middle lines later count first number h = h

pub end_fails : {A : Type 0} → (result : Result A ItemFault) (s : Site) (before middle after : Option (List ℕ)) (lines first last count : ℕ) (cables : List Cable)
    → ReadsTo s (reader_at AtJudged) before middle (LayoutLine (pos count) ∷ []) (at_cables count []) → ReadsCables s false count 0 middle after cables → length cables ≡ count
    → first ≡ line_number_after lines 1 → (1 ≤ count → last ≡ line_number_after first count) → (count ≡ 0 → last ≡ first)
    → IfRefused result (λ x. (t : Site) (r : Reader) → IsTrue (may_end r.phase) → RefusedAfter t r after last x)
    → IfRefused result (λ x. RefusedAfter s (reader_at AtJudged) before lines x)
end_fails (Ok a) s before middle after lines first last count cables line read size number some none h = h
end_fails (Err (Refused x)) s before middle after lines first last count cables line read size number some none h =
    end_refused s before middle after lines first last count cables x line read size number some none (h s (at_cables 0 cables) refl)
end_fails (Err Read) s before middle after lines first last count cables line read size number some none h = h

pub end_found : {A E : Type 0} → (result : Result A E) (pending : List ℕ) (left old : Option (List ℕ)) → OnOk result (IsAtEnd old) → OnOk result (to_come pending left ≡ old) → OnOk result (IsAtEnd left)
end_found (Ok a) pending left old h e = none_left pending left old h e
end_found (Err e) pending left old h k = h

pub read_found : {A E : Type 0} → (result : Result A E) (s : Site) (before middle after : Option (List ℕ)) (count : ℕ) (cables : List Cable)
    → ReadsTo s (reader_at AtJudged) before middle (LayoutLine (pos count) ∷ []) (at_cables count []) → ReadsCables s false count 0 middle after cables → OnOk result (IsAtEnd after)
    → OnOk result (ReadsToEnd s before cables)
read_found (Ok a) s before middle after count cables line read h = layout_read s before middle after count cables line read h
read_found (Err e) s before middle after count cables line read h = h
