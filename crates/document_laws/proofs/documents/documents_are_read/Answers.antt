use Rattle.std.proofs.Common.{List, ℕ, [], refl, sym, ◌∙◌, subst}
use Rattle.std.proofs.lemmas.List.{append_cancel_left}
use Rattle.cable_definitions.specs.Text.{site_lines}
use Rattle.cable_definitions.specs.Refusal.{AtBudget, Past, reader_at, ReadsLines}
use Rattle.document_laws.proofs.LinesOf.{document_read}
use Rattle.document_laws.proofs.WholeRead.{state, behind_site, document_parts, document-read}
use Rattle.document_laws.proofs.documents.documents_are_read.Goals as goal

pub returns : goal.returns
returns c = λ s arcs n items kept cables claim rest valid are budget accepted order range agrees text.
    let w = document-read s arcs n items kept cables claim valid are budget accepted order range agrees in
    let same = append_cancel_left (site_lines s) (behind_site s n items cables claim) rest (sym (document_parts s n items cables claim) ∙ text) in
    let lines = document_read s n items cables claim in
    let end = state Past n kept cables in
    (lines, end, subst (λ (bytes : List ℕ). ReadsLines s arcs (reader_at AtBudget) bytes lines end []) same w.reads, refl)
