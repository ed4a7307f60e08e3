-- How far the check of a document has come, and what refuses it there.
use Rattle.std.specs.Prelude.{◌≡◌, ℕ, ◌+◌, ◌<◌, ◌^◌, List, [], ◌∷◌, ◌++◌, length, map, Option, None, Some, Result, Ok, Err, codes}
use Rattle.std.specs.List.{concat}
use Rattle.std.specs.Fmt.{decimal}
use Rattle.cable_definitions.specs.declared.cable.Cable.{Cable}
use Rattle.cable_definitions.specs.declared.cable.Arc.{Arc as CandidateArc}
use Rattle.cable_definitions.specs.Site.{Site}
use Rattle.cable_definitions.specs.Tree.{Item, ProofState, IsAccepted}
use Rattle.cable_definitions.specs.Text.{line, item_lines}
use Rattle.cable_definitions.specs.Refusal.{DocLine, Phase, AtBudget, Reader, reader_at, ReadsLines, IsRefusedAfter}
use Rattle.cable_definitions.specs.declared.claim.Refusal.{Refusal}
use Rattle.cable_definitions.specs.Stream.{GivesFront}
use Rattle.proof_text.specs.Reading.{line_number_after}
use Rattle.document_check.specs.declared.document.DocumentFault.{DocumentFault}
use Rattle.document_check.specs.declared.document.DocumentFault.TheVariants.{Refused, Read, Memory}

-- Where the source tells its bytes, they begin with lines that lead the reader from `start` to `e`, fed and read, and the rest is to come. A source that
-- tells nothing goes on so.
abbrev pub ReadsFrom : Site → List CandidateArc → Reader → Option (List ℕ) → Option (List ℕ) → List DocLine → Reader → Type 0
ReadsFrom s arcs start None after ls e = after ≡ None
ReadsFrom s arcs start (Some bytes) after ls e = (rest : List ℕ) × (after ≡ Some rest) × ReadsLines s arcs start bytes ls e rest

-- the lines behind the site lead to this reader, with this text, and `lines` are counted then
pub record HasCome (s : Site) (arcs : List CandidateArc) (first now : Option (List ℕ)) (start lines : ℕ) (r : Reader) (front : List ℕ) : Type 0 where
  pub read_lines : List DocLine
  pub reads : ReadsFrom s arcs (reader_at AtBudget) first now read_lines r
  pub lines_are : lines ≡ line_number_after start (length read_lines)
  pub text : GivesFront first now front

-- the same, with items that are accepted and of which the text is made
pub record HasRead (s : Site) (arcs : List CandidateArc) (first now : Option (List ℕ)) (start lines : ℕ) (r : Reader) (front : List Item → List ℕ) : Type 0 where
  pub items : List Item
  pub accepted : IsAccepted s arcs r.budget items r.kept
  pub come : HasCome s arcs first now start lines r (front items)

-- the first cause stands at this line of the bytes behind the site
abbrev pub IsRefusedFrom : Site → List CandidateArc → Option (List ℕ) → ℕ → Refusal → Type 0
IsRefusedFrom s arcs first start refusal =
    (bytes : List ℕ) → first ≡ Some bytes → start + 60000000 < 2 ^ 64 → IsRefusedAfter s arcs AtBudget bytes (start + 1) refusal.line refusal.cause

-- wherever the reading began, it goes on from the one reader to the other
abbrev pub ReadsOn : Site → List CandidateArc → Option (List ℕ) → Option (List ℕ) → ℕ → ℕ → Reader → Reader → (List Item → List ℕ) → (List Item → List ℕ) → Type 0
ReadsOn s arcs before after old new r e front more =
    (first : Option (List ℕ)) (start : ℕ) → HasRead s arcs first before start old r front → HasRead s arcs first after start new e more

-- wherever the reading began, it is refused behind this reader
abbrev pub RefusesOn : Site → List CandidateArc → Option (List ℕ) → ℕ → Reader → (List Item → List ℕ) → Refusal → Type 0
RefusesOn s arcs before old r front refusal =
    (first : Option (List ℕ)) (start : ℕ) → HasRead s arcs first before start old r front → IsRefusedFrom s arcs first start refusal

-- a reader behind lines that kept this
abbrev pub state : Phase → ℕ → ProofState → List Cable → Reader
state phase n kept cables = record { phase = phase; budget = n; kept = kept; cables = cables }

-- ---- the text so far
-- the budget and the items
abbrev pub items_text : ℕ → List Item → List ℕ
items_text n items = line (codes "budget" ∷ decimal n ∷ []) ++ concat (map item_lines items)

-- behind that the number of cables
abbrev pub text_to_layout : ℕ → ℕ → List Item → List ℕ
text_to_layout n count items = items_text n items ++ line (codes "layout" ∷ decimal count ∷ [])

-- ---- faults
-- what holds of the refusal that is the fault, where it is one
abbrev pub OfRefusal : DocumentFault → (Refusal → Type 0) → Type 0
OfRefusal (Refused refusal) P = P refusal
OfRefusal Read P = Unit {0}
OfRefusal Memory P = Unit {0}

-- what holds where the fault is that of the source
abbrev pub OfRead : DocumentFault → Type 0 → Type 0
OfRead (Refused refusal) P = Unit {0}
OfRead Read P = P
OfRead Memory P = Unit {0}

-- what holds of the refusal, where there is one
abbrev pub IfRefused : {A : Type 0} → Result A DocumentFault → (Refusal → Type 0) → Type 0
IfRefused (Ok a) P = Unit {0}
IfRefused (Err fault) P = OfRefusal fault P

-- what holds where the source failed
abbrev pub IfRead : {A : Type 0} → Result A DocumentFault → Type 0 → Type 0
IfRead (Ok a) P = Unit {0}
IfRead (Err fault) P = OfRead fault P
