-- Bytes that are judged are one site with one list of cables, and exclude a refusal.
use Rattle.std.proofs.Common.{◌≡◌, ℕ, ◌+◌, List, [], sym, ap, ◌∙◌, subst}
use Rattle.cable_definitions.specs.declared.cable.Arc.{Arc as CandidateArc}
use Rattle.cable_definitions.specs.declared.cable.Cable.{Cable}
use Rattle.cable_definitions.specs.declared.claim.Cause.{Cause}
use Rattle.cable_definitions.specs.Site.{Site}
use Rattle.cable_definitions.specs.Arcs.{AreArcs}
use Rattle.cable_definitions.specs.Document.{IsSiteAtFront}
use Rattle.cable_definitions.specs.Text.{site_lines, line_count}
use Rattle.cable_definitions.specs.Refusal.{AtBudget, AtJudged, Reader, reader_at, ReadsLines, IsRefusedAfter, IsRefusedBehind, IsJudgeRefused, IsSiteWithCables}
use Rattle.document_laws.proofs.ArcsOnce.{arcs-same}
use Rattle.site_laws.proofs.Fronts.{one_in_front}
use Rattle.document_laws.proofs.Refused.{SameRefusal, stop-same, stops-empty, after-same, whole-stands}

-- a refusal of a document behind a site, at the same site with the same arcs
pub behind-at : (s : Site) (arcs : List CandidateArc) (bytes rest : List ℕ) (base line : ℕ) (cause : Cause) → IsSiteAtFront bytes s rest → AreArcs s arcs
    → IsRefusedBehind bytes base line cause → IsRefusedAfter s arcs AtBudget rest (base + line_count (site_lines s)) line cause
behind-at s arcs bytes rest base line cause front are k =
    let same = one_in_front bytes k.rest rest k.site s k.front front in
    let there = subst (λ (t : Site). AreArcs t k.arcs) same.0 k.are_arcs in
    let at_site = subst (λ (t : Site). IsRefusedAfter t k.arcs AtBudget k.rest (base + line_count (site_lines t)) line cause) same.0 k.refused in
    let with_arcs = subst (λ (others : List CandidateArc). IsRefusedAfter s others AtBudget k.rest (base + line_count (site_lines s)) line cause) (arcs-same s k.arcs arcs there are) at_site in
    subst (λ (bs : List ℕ). IsRefusedAfter s arcs AtBudget bs (base + line_count (site_lines s)) line cause) same.1 with_arcs

-- a refusal of a document behind a site is one
pub behind-same : (bytes : List ℕ) (base line there : ℕ) (cause other : Cause) → IsRefusedBehind bytes base line cause → IsRefusedBehind bytes base there other
    → SameRefusal line there cause other
behind-same bytes base line there cause other h k =
    after-same h.site h.arcs h.front.valid AtBudget h.rest (base + line_count (site_lines h.site)) line there cause other h.refused
    (behind-at h.site h.arcs bytes h.rest base there other h.front h.are_arcs k)

-- a refusal of what is judged, at the same site
pub judged-at : (s : Site) (bytes rest : List ℕ) (line : ℕ) (cause : Cause) → IsSiteAtFront bytes s rest → IsJudgeRefused bytes line cause
    → IsRefusedAfter s [] AtJudged rest (1 + line_count (site_lines s)) line cause
judged-at s bytes rest line cause front k =
    let same = one_in_front bytes k.rest rest k.site s k.front front in
    let at_site = subst (λ (t : Site). IsRefusedAfter t [] AtJudged k.rest (1 + line_count (site_lines t)) line cause) same.0 k.refused in
    subst (λ (bs : List ℕ). IsRefusedAfter s [] AtJudged bs (1 + line_count (site_lines s)) line cause) same.1 at_site

-- it is one
pub judge_refused-same : (bytes : List ℕ) (line there : ℕ) (cause other : Cause) → IsJudgeRefused bytes line cause → IsJudgeRefused bytes there other
    → SameRefusal line there cause other
judge_refused-same bytes line there cause other h k =
    after-same h.site [] h.front.valid AtJudged h.rest (1 + line_count (site_lines h.site)) line there cause other h.refused (judged-at h.site bytes h.rest there other h.front k)

-- what is judged isn't refused
pub judged-stands : (bytes : List ℕ) (s : Site) (cables : List Cable) (line : ℕ) (cause : Cause) → IsSiteWithCables bytes s cables → IsJudgeRefused bytes line cause → ⊥
judged-stands bytes s cables line cause h k =
    whole-stands s [] h.front.valid AtJudged h.rest h.read_lines h.reader (1 + line_count (site_lines s)) line cause h.reads h.at_end
    (judged-at s bytes h.rest line cause h.front k)

-- it is one site with one list of cables
pub record SameJudged (s t : Site) (cables others : List Cable) : Type 0 where
  pub sites : s ≡ t
  pub lists : cables ≡ others

pub judged-same : (bytes : List ℕ) (s t : Site) (cables others : List Cable) → IsSiteWithCables bytes s cables → IsSiteWithCables bytes t others → SameJudged s t cables others
judged-same bytes s t cables others h k =
    let same = one_in_front bytes h.rest k.rest s t h.front k.front in
    let at_site = subst (λ (u : Site). ReadsLines u [] (reader_at AtJudged) h.rest h.read_lines h.reader []) same.0 h.reads in
    let reads = subst (λ (bs : List ℕ). ReadsLines t [] (reader_at AtJudged) bs h.read_lines h.reader []) same.1 at_site in
    let stop = stop-same t [] k.front.valid (reader_at AtJudged) k.rest h.read_lines k.read_lines h.reader k.reader [] []
    reads (stops-empty t [] h.reader) k.reads (stops-empty t [] k.reader) in
    record { sites = same.0; lists = h.cables_are ∙ ap (λ (r : Reader). r.cables) stop.readers ∙ sym k.cables_are }
