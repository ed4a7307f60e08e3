-- A site in front of bytes is one, and has no fault.
use Rattle.std.proofs.Common.{◌≡◌, ℕ, List, [], ◌++◌, length, Bool, refl, sym, ap, ◌∙◌, subst, arith}
use Rattle.cable_definitions.specs.declared.site.SiteCode.{SiteCode}
use Rattle.cable_definitions.specs.Site.{Site, IsValid}
use Rattle.cable_definitions.specs.Text.{site_lines, line_count}
use Rattle.cable_definitions.specs.Items.{RawItem, Draft, empty_draft, ReadsItems, IsLineFault}
use Rattle.cable_definitions.specs.Document.{IsSiteAtFront}
use Rattle.site_laws.proofs.LineCounts.{lines_read, lines_of_both}
use Rattle.site_laws.proofs.Runs.{no_line_fault, ended_same}
use Rattle.site_laws.proofs.SiteRun.{site_run}

-- the lines of a valid site are good items that lead to it
pub site_items : (s : Site) (rest : List ℕ) → IsValid s
    → (items : List RawItem) × (draft : Draft) × ReadsItems empty_draft (site_lines s ++ rest) items draft rest × (draft.stage ≡ 6) × (draft.site ≡ s) × (length items ≡ line_count (site_lines s))
site_items s rest valid =
    let run = (site_run s rest valid).run in
    let draft : Draft = record { stage = 6; site = s; corners = []; missing = 0 } in
    (run.items, draft, run.reads, refl, refl, omega (arith, lines_read run.items empty_draft draft (site_lines s ++ rest) rest run.reads, lines_of_both (site_lines s) rest))

-- bytes that begin with a site have no fault
pub no_fault_in_front : (bytes rest : List ℕ) (s : Site) (base : ℕ) (code : SiteCode) (place : ℕ) (broken_line : Bool) → IsSiteAtFront bytes s rest → IsLineFault bytes base code place broken_line → ⊥
no_fault_in_front bytes rest s base code place broken_line front fault =
    let r = site_items s rest front.valid in
    let P : List ℕ → Type 0 = λ b. ReadsItems empty_draft b r.0 r.1 rest in
    no_line_fault bytes rest r.0 r.1 base code place broken_line (subst P (sym front.text) r.2) r.3 fault

-- bytes begin with one site
pub one_in_front : (bytes rest other : List ℕ) (s t : Site) → IsSiteAtFront bytes s rest → IsSiteAtFront bytes t other → (s ≡ t) × (rest ≡ other)
one_in_front bytes rest other s t h k =
    let r = site_items s rest h.valid in
    let q = site_items t other k.valid in
    let P : List ℕ → Type 0 = λ b. ReadsItems empty_draft b r.0 r.1 rest in
    let Q : List ℕ → Type 0 = λ b. ReadsItems empty_draft b q.0 q.1 other in
    let same = ended_same bytes rest other r.0 q.0 r.1 q.1 (subst P (sym h.text) r.2) r.3 (subst Q (sym k.text) q.2) q.3 in
    (sym r.4 ∙ ap (λ (d : Draft). d.site) same.draft_is ∙ q.4, same.rest_is)
