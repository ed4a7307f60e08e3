-- An accepted document is one, no longer one begins with it, and it excludes a refusal.
use Rattle.std.proofs.Common.{◌≡◌, ℕ, ◌+◌, inl, inr, Bool, List, [], ◌∷◌, ◌++◌, length, cond, IsTrue, refl, sym, ap, ◌∙◌, subst, append_assoc}
use Rattle.cable_definitions.specs.declared.cable.Arc.{Arc as CandidateArc}
use Rattle.cable_definitions.specs.declared.cable.Cable.{Cable}
use Rattle.cable_definitions.specs.declared.claim.Claim.{Claim}
use Rattle.cable_definitions.specs.declared.claim.Cause.{Cause}
use Rattle.cable_definitions.specs.declared.claim.Cause.TheVariants.{Line, Site as SiteCause}
use Rattle.cable_definitions.specs.Site.{Site}
use Rattle.cable_definitions.specs.Arcs.{AreArcs}
use Rattle.cable_definitions.specs.Tree.{ProofState}
use Rattle.cable_definitions.specs.Document.{IsSiteAtFront, IsAcceptedDocument}
use Rattle.cable_definitions.specs.Text.{site_lines, line_count}
use Rattle.cable_definitions.specs.Refusal.{RawClaim, DocLine, AtBudget, Past, Reader, reader_at, is_allowed, IsClaimOf, ReadsLines, IsRefused}
use Rattle.site_laws.proofs.Runs.{line_fault_same}
use Rattle.document_laws.proofs.ArcsOnce.{arcs-same}
use Rattle.document_laws.proofs.Going.{claim-same}
use Rattle.site_laws.proofs.Fronts.{one_in_front, no_fault_in_front}
use Rattle.document_laws.proofs.Refused.{SameRefusal, Stops, stop-same, stops-empty, whole-stands}
use Rattle.document_laws.proofs.Judged.{behind-at, behind-same}
use Rattle.document_laws.proofs.Spelled.{raw_claim}
use Rattle.document_laws.proofs.CanRead.{ReadsAll}
use Rattle.document_laws.proofs.LinesOf.{document_read, layout_read, layout_behind, behind_first, same_items, same_verdicts}
use Rattle.document_laws.proofs.WholeRead.{state, behind_site, document_parts, document-read, claim_of}
use Rattle.document_laws.specs.Once.{SameReading}

-- the site of an accepted document stands at the front of its bytes
yes_front : (bytes : List ℕ) (s : Site) (claim : Claim) → (y : IsAcceptedDocument bytes s claim) → IsSiteAtFront bytes s (behind_site s y.budget y.items y.cables claim)
yes_front bytes s claim y = record { valid = y.valid; text = y.text ∙ document_parts s y.budget y.items y.cables claim }

-- its lines behind the site, and where the reader stands behind them
abbrev yes_lines : (bytes : List ℕ) (s : Site) (claim : Claim) → IsAcceptedDocument bytes s claim → List DocLine
yes_lines bytes s claim y = document_read s y.budget y.items y.cables claim

abbrev yes_end : (bytes : List ℕ) (s : Site) (claim : Claim) → IsAcceptedDocument bytes s claim → Reader
yes_end bytes s claim y = state Past y.budget y.kept y.cables

-- and the lines behind it are read to their end
yes_read : (bytes : List ℕ) (s : Site) (claim : Claim) → (y : IsAcceptedDocument bytes s claim) → ReadsAll s y.arcs (reader_at AtBudget) (behind_site s y.budget y.items y.cables claim) (yes_lines bytes s claim y) (yes_end bytes s claim y)
yes_read bytes s claim y = document-read s y.arcs y.budget y.items y.kept y.cables claim y.valid y.are_arcs y.is_budget y.accepted y.in_order y.in_range y.agrees

-- what is accepted isn't refused
pub yes-stands : (bytes : List ℕ) (s : Site) (claim : Claim) (base line : ℕ) (cause : Cause) → IsAcceptedDocument bytes s claim → IsRefused bytes base line cause → ⊥
yes-stands bytes s claim base line cause y (inl fault) =
    no_fault_in_front bytes (behind_site s y.budget y.items y.cables claim) s base fault.code line fault.broken_line (yes_front bytes s claim y) fault.fault
yes-stands bytes s claim base line cause y (inr refused) =
    let front = yes_front bytes s claim y in
    let w = yes_read bytes s claim y in
    whole-stands s y.arcs y.valid AtBudget (behind_site s y.budget y.items y.cables claim) (yes_lines bytes s claim y) (yes_end bytes s claim y) (base + line_count (site_lines s)) line cause w.reads refl
    (behind-at s y.arcs bytes (behind_site s y.budget y.items y.cables claim) base line cause front y.are_arcs refused)

-- ---- one document
-- the reading of one accepted document, at the site and the arcs of another with the same bytes
there : (bytes : List ℕ) (s t : Site) (claim other : Claim) (y : IsAcceptedDocument bytes s claim) (z : IsAcceptedDocument bytes t other)
    → ReadsLines t z.arcs (reader_at AtBudget) (behind_site t z.budget z.items z.cables other) (document_read t y.budget y.items y.cables claim) (yes_end bytes s claim y) [] × (s ≡ t)
there bytes s t claim other y z =
    let rest = behind_site s y.budget y.items y.cables claim in
    let left = behind_site t z.budget z.items z.cables other in
    let end = yes_end bytes s claim y in
    let same = one_in_front bytes rest left s t (yes_front bytes s claim y) (yes_front bytes t other z) in
    let are = subst (λ (u : Site). AreArcs u y.arcs) same.0 y.are_arcs in
    let at_site = subst (λ (u : Site). ReadsLines u y.arcs (reader_at AtBudget) rest (document_read u y.budget y.items y.cables claim) end []) same.0 (yes_read bytes s claim y).reads in
    let lines = document_read t y.budget y.items y.cables claim in
    let with_arcs = subst (λ (arcs : List CandidateArc). ReadsLines t arcs (reader_at AtBudget) rest lines end []) (arcs-same t y.arcs z.arcs are z.are_arcs) at_site in
    (subst (λ (bs : List ℕ). ReadsLines t z.arcs (reader_at AtBudget) bs lines end []) same.1 with_arcs, same.0)

pub yes-same : (bytes : List ℕ) (s t : Site) (claim other : Claim) (y : IsAcceptedDocument bytes s claim) (z : IsAcceptedDocument bytes t other) → SameReading bytes s t claim other y z
yes-same bytes s t claim other y z =
    let left = behind_site t z.budget z.items z.cables other in
    let end = yes_end bytes s claim y in
    let last = yes_end bytes t other z in
    let lines = document_read t y.budget y.items y.cables claim in
    let same = there bytes s t claim other y z in
    let stop = stop-same t z.arcs z.valid (reader_at AtBudget) left lines (yes_lines bytes t other z) end last [] [] same.0 (stops-empty t z.arcs end) (yes_read bytes t other z).reads (stops-empty t z.arcs last) in
    let behind = same_items y.items z.items (length y.cables) (length z.cables) (layout_behind t y.cables claim) (layout_behind t z.cables other) (ap behind_first stop.lines) in
    let cables : y.cables ≡ z.cables = ap (λ (r : Reader). r.cables) stop.readers in
    let moved = subst (λ (cs : List Cable). layout_read t cs claim ≡ layout_read t z.cables other) cables behind.rests in
    let verdicts = same_verdicts t (length z.cables) (length z.cables) z.cables (raw_claim t claim) (raw_claim t other) moved in
    let own = subst (λ (u : Site). IsClaimOf u (raw_claim u claim) claim) same.1 (claim_of s y.cables claim y.agrees.0) in
    let here = subst (λ (raw : RawClaim). IsClaimOf t raw claim) verdicts own in
    record {
      sites = same.1;
      budgets = ap (λ (r : Reader). r.budget) stop.readers;
      lists = behind.lists;
      layouts = cables;
      claims = claim-same t z.valid (raw_claim t other) claim other here (claim_of t z.cables other z.agrees.0);
    }

-- ---- a longer input
-- a run over bytes goes over longer ones, and leaves what they are longer by
run-longer : (s : Site) (arcs : List CandidateArc) (r e : Reader) (bytes left more : List ℕ) (ls : List DocLine) → ReadsLines s arcs r bytes ls e left → ReadsLines s arcs r (bytes ++ more) ls e (left ++ more)
run-longer s arcs r e bytes left more [] h = (h.0, ap (λ (bs : List ℕ). bs ++ more) h.1)
run-longer s arcs r e bytes left more (l ∷ ls) h = (
  h.0,
  h.1 ++ more,
  h.2,
  (ap (λ (bs : List ℕ). bs ++ more) h.3.0 ∙ append_assoc h.0 (10 ∷ h.1) more, h.3.1, h.3.2),
  h.4,
  h.5,
  h.6,
  run-longer s arcs h.2 e h.1 left more ls h.7,
)

-- past the last line no line may stand
no_line_past : (l : DocLine) → ¬ (IsTrue (is_allowed Past l))
no_line_past l a = cc

stops_past : (s : Site) (arcs : List CandidateArc) (n : ℕ) (kept : ProofState) (cables : List Cable) (left : List ℕ) → Stops s arcs (state Past n kept cables) left
stops_past s arcs n kept cables left [] f rest h = refl
stops_past s arcs n kept cables left (l ∷ more) f rest h = absurd (no_line_past l h.4.line_is.allowed)

-- no bytes follow those of an accepted document in one
pub yes-whole : (bytes more : List ℕ) (s t : Site) (claim other : Claim) → IsAcceptedDocument bytes s claim → IsAcceptedDocument (bytes ++ more) t other → more ≡ []
yes-whole bytes more s t claim other y z =
    let rest = behind_site s y.budget y.items y.cables claim in
    let left = behind_site t z.budget z.items z.cables other in
    let end = yes_end bytes s claim y in
    let last = yes_end (bytes ++ more) t other z in
    let front : IsSiteAtFront (bytes ++ more) s (rest ++ more) = record { valid = y.valid; text = ap (λ (bs : List ℕ). bs ++ more) (yes_front bytes s claim y).text ∙ append_assoc (site_lines s) rest more } in
    let same = one_in_front (bytes ++ more) (rest ++ more) left s t front (yes_front (bytes ++ more) t other z) in
    let are = subst (λ (u : Site). AreArcs u y.arcs) same.0 y.are_arcs in
    let longer = run-longer s y.arcs (reader_at AtBudget) end rest [] more (yes_lines bytes s claim y) (yes_read bytes s claim y).reads in
    let at_site = subst (λ (u : Site). ReadsLines u y.arcs (reader_at AtBudget) (rest ++ more) (document_read u y.budget y.items y.cables claim) end more) same.0 longer in
    let lines = document_read t y.budget y.items y.cables claim in
    let with_arcs = subst (λ (arcs : List CandidateArc). ReadsLines t arcs (reader_at AtBudget) (rest ++ more) lines end more) (arcs-same t y.arcs z.arcs are z.are_arcs) at_site in
    let reads = subst (λ (bs : List ℕ). ReadsLines t z.arcs (reader_at AtBudget) bs lines end more) same.1 with_arcs in
    let stop = stop-same t z.arcs z.valid (reader_at AtBudget) left lines (yes_lines (bytes ++ more) t other z) end last more [] reads
    (stops_past t z.arcs y.budget y.kept y.cables more) (yes_read (bytes ++ more) t other z).reads (stops-empty t z.arcs last) in
    stop.rests

-- one refusal
pub refused-same : (bytes : List ℕ) (base line there : ℕ) (cause other : Cause) → IsRefused bytes base line cause → IsRefused bytes base there other → SameRefusal line there cause other
refused-same bytes base line there cause other (inl h) (inl k) =
    let same = line_fault_same bytes base h.code k.code line there h.broken_line k.broken_line h.fault k.fault in
    record { lines = same.1; causes = h.cause_is ∙ ap (λ (broken : Bool). cond broken Line SiteCause) same.2 ∙ sym k.cause_is }
refused-same bytes base line there cause other (inl h) (inr k) = absurd (no_fault_in_front bytes k.rest k.site base h.code line h.broken_line k.front h.fault)
refused-same bytes base line there cause other (inr h) (inl k) = absurd (no_fault_in_front bytes h.rest h.site base k.code there k.broken_line h.front k.fault)
refused-same bytes base line there cause other (inr h) (inr k) = behind-same bytes base line there cause other h k
