-- The lines behind the site of a document with accepted items and a claim that agrees are read to their end.
use Rattle.std.proofs.Common.{◌≡◌, ◌≢◌, ℕ, suc, ◌-◌, ◌^◌, ◌<◌, ◌≤◌, ℤ, pos, List, [], ◌∷◌, ◌++◌, length, map, get_or, Some, refl, sym, ap, ◌∙◌, subst, append_assoc, arith, codes, lit≤}
use Rattle.std.specs.Prelude.{All, AllPairs, unsigned_abs, neg_ℤ}
use Rattle.std.specs.List.{concat}
use Rattle.std.specs.Fmt.{decimal}
use Rattle.std.proofs.lemmas.List.{append-nil, length-map}
use Rattle.std.proofs.lemmas.List.Elements.{All-nil, All-cons, All-head, All-tail, All-push, All-same}
use Rattle.cable_definitions.specs.declared.cable.Arc.{Arc as CandidateArc}
use Rattle.cable_definitions.specs.declared.cable.Cable.{Cable}
use Rattle.cable_definitions.specs.declared.row.Act.{Act}
use Rattle.cable_definitions.specs.declared.claim.Claim.{Claim}
use Rattle.cable_definitions.specs.declared.claim.Claim.TheVariants.{Optimal, Gap, Partial, Infeasible}
use Rattle.cable_definitions.specs.Site.{Site, IsValid}
use Rattle.cable_definitions.specs.Arcs.{AreArcs}
use Rattle.cable_definitions.specs.declared.cable.Rule.TheVariants.{Range}
use Rattle.cable_definitions.specs.Layout.{KeepsRange}
use Rattle.cable_definitions.specs.Command.{IsBudget}
use Rattle.cable_definitions.specs.Document.{IsClaimInRange}
use Rattle.cable_definitions.specs.Items.{within}
use Rattle.cable_definitions.specs.Numeral.{numeral, spelling as spelled}
use Rattle.cable_definitions.specs.Row.{Row, SomeMember, RightCount}
use Rattle.cable_definitions.specs.Text.{number, words, line, kind_word, row_line, weight_line, act_line, item_lines, cable_line, claim_line, name_of, site_lines, document_text}
use Rattle.cable_definitions.specs.Tree.{Item, RowItem, WorkItem, ProofState, empty_state, IsAccepted, IsListed, IsWorked, Accepts, Leads, LayoutAgrees, Agrees}
use Rattle.cable_definitions.specs.Refusal.{DocLine, BudgetLine, RowLine, WorkLine, WeightLine, ActLine, LayoutLine, CableLine, ClaimLine, EndLine, line_spelling, Phase, AtBudget, AtItem, AtWeights, AtCables, AtLast, Past, Reader, reader_at, IsCableOf, IsClaimOf, row_from, act_from, IsRowRefused, IsWorkRefused, IsClaimRefused}
use Rattle.proof_laws.proofs.Lists.{all_from}
use Rattle.proof_laws.proofs.FullLemma.{within-turbine}
use Rattle.document_laws.proofs.ArcsOnce.{pairs-head, pairs-tail}
use Rattle.document_laws.proofs.Accepted.{row-stands, work-stands, claim-stands}
use Rattle.document_laws.proofs.Going.{claim-same, same_node, same_weights}
use Rattle.document_laws.proofs.Counting.{cables-most, IsCounted, counted-nothing, counted-accepts, made-within}
use Rattle.document_laws.proofs.Spelled.{written, weight-written, IsShort, key, row-key, short-name, short-number, short-weight, short-text, short-words, two-short, three-short, four-short, count-within, weight-within, no_field, one_field, two_fields, raw_act, raw_act-read, act-written, raw_claim, HasName, claim-written, kind-short, members-short, members-written, members-read}
use Rattle.document_laws.proofs.Fitting.{point-named, members-below, members-small, members-within, act-fits}
use Rattle.document_laws.proofs.CanRead.{CanRead, first-line, ReadsAll, reads-first}
use Rattle.document_laws.proofs.LinesOf.{cable_read, weight_read, items_read, layout_read, document_read}

-- a reader behind the budget
abbrev pub state : Phase → ℕ → ProofState → List Cable → Reader
state phase n kept cables = record { phase = phase; budget = n; kept = kept; cables = cables }

-- few short words make a short text
few_words : (ws : List (List ℕ)) → All (IsShort 24) ws → length ws ≤ 4 → length (words ws) ≤ 4096
few_words ws h few = let l = short-text 24 ws h in omega (arith, l, few)

-- ---- the claim
-- the last line
can_end : (s : Site) (arcs : List CandidateArc) (n : ℕ) (kept : ProofState) (cables : List Cable) → CanRead s arcs (state AtLast n kept cables) EndLine (state Past n kept cables)
can_end s arcs n kept cables =
    let shorts = two-short 24 (codes "end") (codes "document") (key (codes "end") refl (lit≤ tt) (lit≤ tt)) (key (codes "document") refl (lit≤ tt) (lit≤ tt)) in
    record {
      are_words = short-words 24 (line_spelling EndLine) shorts;
      short = few_words (line_spelling EndLine) shorts (lit≤ tt);
      members = tt;
      allowed = refl;
      within = (no_field, tt);
      names = tt;
      none_found = λ cause h. h;
      goes_on = refl;
    }

claim_named : (s : Site) (cables : List Cable) (claim : Claim) → IsValid s → LayoutAgrees s cables claim → HasName s claim
claim_named s cables (Optimal c) valid h = tt
claim_named s cables (Gap c b) valid h = tt
claim_named s cables (Partial b stuck) valid h = point-named s valid stuck (within-turbine s stuck h.turbine_is)
claim_named s cables Infeasible valid h = tt

pub claim_of : (s : Site) (cables : List Cable) (claim : Claim) → LayoutAgrees s cables claim → IsClaimOf s (raw_claim s claim) claim
claim_of s cables (Optimal c) h = refl
claim_of s cables (Gap c b) h = refl
claim_of s cables (Partial b stuck) h = (stuck, h.turbine_is, refl, refl)
claim_of s cables Infeasible h = refl

can_claim : (s : Site) (arcs : List CandidateArc) (n : ℕ) (kept : ProofState) (cables : List Cable) (claim : Claim) → IsValid s → IsClaimInRange claim → Agrees s n kept cables claim
    → CanRead s arcs (state (AtCables 0) n kept cables) (ClaimLine (raw_claim s claim)) (state AtLast n kept cables)
can_claim s arcs n kept cables claim valid range agrees =
    let w = claim-written s claim range (claim_named s cables claim valid agrees.0) in
    record {
      are_words = short-words 24 (line_spelling (ClaimLine (raw_claim s claim))) w.shorts;
      short = few_words (line_spelling (ClaimLine (raw_claim s claim))) w.shorts w.few;
      members = tt;
      allowed = refl;
      within = (w.fields, tt);
      names = (claim, claim_of s cables claim agrees.0);
      none_found = λ cause h.
          claim-stands s n kept cables claim cause agrees (subst (λ (other : Claim). IsClaimRefused s n kept cables other cause) (claim-same s valid (raw_claim s claim) h.0 claim h.1 (claim_of s cables claim agrees.0)) h.2);
      goes_on = refl;
    }

-- the last line of a document
abbrev pub end_line : List ℕ
end_line = line (codes "end" ∷ codes "document" ∷ [])

reads_claim : (s : Site) (arcs : List CandidateArc) (n : ℕ) (kept : ProofState) (cables : List Cable) (claim : Claim) → IsValid s → IsClaimInRange claim → Agrees s n kept cables claim
    → ReadsAll s arcs (state (AtCables 0) n kept cables) (claim_line s claim ++ end_line) (ClaimLine (raw_claim s claim) ∷ EndLine ∷ []) (state Past n kept cables)
reads_claim s arcs n kept cables claim valid range agrees =
    let w = claim-written s claim range (claim_named s cables claim valid agrees.0) in
    let last = first-line s arcs (state AtLast n kept cables) (state Past n kept cables) (state Past n kept cables) EndLine [] end_line [] [] (can_end s arcs n kept cables) (sym (append-nil end_line)) (refl, refl) in
    record {
      reads = first-line s arcs (state (AtCables 0) n kept cables) (state AtLast n kept cables) (state Past n kept cables) (ClaimLine (raw_claim s claim)) (EndLine ∷ []) (claim_line s claim ++ end_line) end_line []
          (can_claim s arcs n kept cables claim valid range agrees) (ap (λ (bytes : List ℕ). bytes ++ end_line) w.text) last;
    }

-- ---- the cables
-- the numbers of a cable are of the site
pub record IsOfSite (s : Site) (c : Cable) : Type 0 where
  pub from : c.from < length s.points
  pub to : c.to < length s.points
  pub grade : c.grade < length s.types

can_cable : (s : Site) (arcs : List CandidateArc) (n : ℕ) (kept : ProofState) (done : List Cable) (c : Cable) (more : ℕ) → IsValid s → IsOfSite s c → All (λ d. d.from < c.from) done
    → CanRead s arcs (state (AtCables (suc more)) n kept done) (CableLine (name_of s c.from) (name_of s c.to) (pos c.grade)) (state (AtCables more) n kept (done ++ c ∷ []))
can_cable s arcs n kept done c more valid of_site before =
    let types = valid.types_count in
    let small : c.grade < 2 ^ 64 = let l = of_site.grade in omega (arith, l, types) in
    let named : IsCableOf s (state (AtCables (suc more)) n kept done) (name_of s c.from) (name_of s c.to) (pos c.grade) c =
    record { from_listed = of_site.from; to_listed = of_site.to; grade_listed = of_site.grade; from = refl; to = refl; grade = refl; in_order = before } in
    let shorts =
    four-short 24 (codes "cable") (name_of s c.from) (name_of s c.to) (numeral c.grade) (key (codes "cable") refl (lit≤ tt) (lit≤ tt))
    (short-name (name_of s c.from) (point-named s valid c.from of_site.from)) (short-name (name_of s c.to) (point-named s valid c.to of_site.to)) (short-number c.grade small) in
    record {
      are_words = short-words 24 (codes "cable" ∷ name_of s c.from ∷ name_of s c.to ∷ numeral c.grade ∷ []) shorts;
      short = few_words (codes "cable" ∷ name_of s c.from ∷ name_of s c.to ∷ numeral c.grade ∷ []) shorts (lit≤ tt);
      members = tt;
      allowed = refl;
      within = (no_field, tt);
      names = (c, named);
      none_found = λ cause h. h;
      goes_on = (c, named, ap (λ (k : ℕ). state (AtCables k) n kept (done ++ c ∷ [])) (let e : more ≡ suc more - 1 = omega arith in e));
    }

cable_written : (s : Site) (c : Cable) → IsValid s → IsOfSite s c → cable_line s c ≡ line (line_spelling (CableLine (name_of s c.from) (name_of s c.to) (pos c.grade)))
cable_written s c valid of_site =
    let types = valid.types_count in
    let small : c.grade < 2 ^ 64 = let l = of_site.grade in omega (arith, l, types) in
    ap (λ (w : List ℕ). line (codes "cable" ∷ name_of s c.from ∷ name_of s c.to ∷ w ∷ [])) (written c.grade small)

-- a text in front of others, and what follows
in_front : (text own rest after : List ℕ) → text ≡ own → (text ++ rest) ++ after ≡ own ++ (rest ++ after)
in_front text own rest after e = append_assoc text rest after ∙ ap (λ (bytes : List ℕ). bytes ++ (rest ++ after)) e

reads_cables : (s : Site) (arcs : List CandidateArc) (n : ℕ) (kept : ProofState) (done cables whole : List Cable) (after : List ℕ) (later : List DocLine) (end : Reader) → IsValid s → done ++ cables ≡ whole
    → All (IsOfSite s) cables → AllPairs (λ c d. c.from < d.from) cables → All (λ c. All (λ d. d.from < c.from) done) cables
    → ReadsAll s arcs (state (AtCables 0) n kept whole) after later end → ReadsAll s arcs (state (AtCables (length cables)) n kept done) (concat (map (cable_line s) cables) ++ after) (map (cable_read s) cables ++ later) end
reads_cables s arcs n kept done [] whole after later end valid e of_site order before rest =
    subst (λ (cables : List Cable). ReadsAll s arcs (state (AtCables 0) n kept cables) after later end) (sym e ∙ append-nil done) rest
reads_cables s arcs n kept done (c ∷ cables) whole after later end valid e of_site order before rest =
    let own = All-head (IsOfSite s) c cables of_site in
    let first = All-head (λ (x : Cable). All (λ (d : Cable). d.from < x.from) done) c cables before in
    let others = All-tail (λ (x : Cable). All (λ (d : Cable). d.from < x.from) done) c cables before in
    let behind = pairs-head (λ (x d : Cable). x.from < d.from) c cables order in
    let behind_all : All (λ (x : Cable). All (λ (d : Cable). d.from < x.from) (done ++ c ∷ [])) cables =
    λ k d l. All-push (λ (y : Cable). y.from < (get_or cables k d).from) done c (others k d l) (behind k d l) in
    reads-first s arcs (state (AtCables (suc (length cables))) n kept done) (state (AtCables (length cables)) n kept (done ++ c ∷ [])) (CableLine (name_of s c.from) (name_of s c.to) (pos c.grade))
    (concat (map (cable_line s) (c ∷ cables)) ++ after) (concat (map (cable_line s) cables) ++ after) (map (cable_read s) cables ++ later) end
    (can_cable s arcs n kept done c (length cables) valid own first)
    (in_front (cable_line s c) (line (line_spelling (CableLine (name_of s c.from) (name_of s c.to) (pos c.grade)))) (concat (map (cable_line s) cables)) after (cable_written s c valid own))
    (reads_cables s arcs n kept (done ++ c ∷ []) cables whole after later end valid (append_assoc done (c ∷ []) cables ∙ e) (All-tail (IsOfSite s) c cables of_site) (pairs-tail (λ (x d : Cable). x.from < d.from) c cables order) behind_all rest)

-- ---- the layout
can_layout : (s : Site) (arcs : List CandidateArc) (n k : ℕ) (kept : ProofState) → k ≤ 256 → CanRead s arcs (state AtItem n kept []) (LayoutLine (pos k)) (state (AtCables k) n kept [])
can_layout s arcs n k kept most =
    let small : k < 2 ^ 64 = omega (arith, most) in
    let shorts = two-short 24 (codes "layout") (numeral k) (key (codes "layout") refl (lit≤ tt) (lit≤ tt)) (short-number k small) in
    record {
      are_words = short-words 24 (codes "layout" ∷ numeral k ∷ []) shorts;
      short = few_words (codes "layout" ∷ numeral k ∷ []) shorts (lit≤ tt);
      members = tt;
      allowed = refl;
      within = (one_field (within (Some (pos k)) (pos 0) (pos 256)) (count-within k 0 256 (omega arith) most), tt);
      names = tt;
      none_found = λ cause h. h;
      goes_on = refl;
    }

-- ---- rows
can_row : (s : Site) (arcs : List CandidateArc) (n : ℕ) (kept new : ProofState) (row : Row) → IsValid s → AreArcs s arcs → IsListed s arcs kept row new
    → CanRead s arcs (state AtItem n kept []) (RowLine row.kind (map pos row.members)) (state AtItem n new [])
can_row s arcs n kept new row valid are listed =
    let below = members-below s arcs row listed.well_formed in
    let some = listed.well_formed SomeMember 0 0 in
    let counts = listed.well_formed RightCount 0 0 in
    let size = length-map row.members pos in
    let again : row_from row.kind (map pos row.members) ≡ row = ap (λ (ms : List ℕ). record row { members = ms }) (members-read row.members) in
    let ws = codes "row" ∷ kind_word row.kind ∷ map spelled (map pos row.members) in
    let shorts =
    All-cons (IsShort 14) (codes "row") (kind_word row.kind ∷ map spelled (map pos row.members)) (row-key (codes "row") refl (lit≤ tt) (lit≤ tt))
    (All-cons (IsShort 14) (kind_word row.kind) (map spelled (map pos row.members)) (kind-short row.kind) (members-short row.members (members-small s arcs row.kind row.members valid are below))) in
    let text = short-text 14 ws shorts in
    let spelled_size = length-map (map pos row.members) spelled in
    let few = counts.1 in
    record {
      are_words = short-words 14 ws shorts;
      short = omega (arith, text, spelled_size, size, few);
      members = (some_members row.members some, λ t. size ∙ counts.0 t);
      allowed = refl;
      within = (members-within s arcs row.kind row.members valid are below, omega (arith, size, few));
      names = tt;
      none_found = λ cause h. row-stands s arcs kept row new cause listed (subst (λ (x : Row). IsRowRefused s arcs kept x cause) again h);
      goes_on = (new, subst (λ (x : Row). Accepts s arcs n kept (RowItem x) new) (sym again) listed, refl);
    }
  where
    some_members : (ms : List ℕ) → ms ≢ [] → 1 ≤ length (map pos ms)
    some_members [] h = absurd (h refl)
    some_members (m ∷ ms) h = omega arith

row_written : (s : Site) (arcs : List CandidateArc) (row : Row) → IsValid s → AreArcs s arcs → All (λ m. m < 65280) row.members → row_line row ≡ line (line_spelling (RowLine row.kind (map pos row.members)))
row_written s arcs row valid are below = ap (λ (ws : List (List ℕ)). line (codes "row" ∷ kind_word row.kind ∷ ws)) (members-written row.members below)

-- ---- works
can_work : (s : Site) (arcs : List CandidateArc) (n v k : ℕ) (kept : ProofState) → 1 ≤ v → v ≤ 100001 → k ≤ 1024
    → CanRead s arcs (state AtItem n kept []) (WorkLine (pos v) (pos k)) (state (AtWeights v k []) n kept [])
can_work s arcs n v k kept some most weights =
    let small : v < 2 ^ 64 = omega (arith, most) in
    let little : k < 2 ^ 64 = omega (arith, weights) in
    let shorts = three-short 24 (codes "work") (numeral v) (numeral k) (key (codes "work") refl (lit≤ tt) (lit≤ tt)) (short-number v small) (short-number k little) in
    record {
      are_words = short-words 24 (codes "work" ∷ numeral v ∷ numeral k ∷ []) shorts;
      short = few_words (codes "work" ∷ numeral v ∷ numeral k ∷ []) shorts (lit≤ tt);
      members = tt;
      allowed = refl;
      within = (two_fields (within (Some (pos v)) (pos 1) (pos 100001)) (within (Some (pos k)) (pos 0) (pos 1024)) (count-within v 1 100001 some most) (count-within k 0 1024 (omega arith) weights), tt);
      names = tt;
      none_found = λ cause h. h;
      goes_on = refl;
    }

-- a weight on a listed row, of at most 2 ^ 76
record IsWeight (w : ℕ × ℤ) : Type 0 where
  row : w.0 < 16384
  small : unsigned_abs w.1 ≤ 2 ^ 76

can_weight : (s : Site) (arcs : List CandidateArc) (n v more : ℕ) (kept : ProofState) (done : List (ℕ × ℤ)) (w : ℕ × ℤ) → IsWeight w
    → CanRead s arcs (state (AtWeights v (suc more) done) n kept []) (WeightLine (pos w.0) w.1) (state (AtWeights v more (done ++ w ∷ [])) n kept [])
can_weight s arcs n v more kept done w fits =
    let row = fits.row in
    let small : w.0 < 2 ^ 64 = omega (arith, row) in
    let shorts = three-short 24 (codes "by") (numeral w.0) (spelled w.1) (key (codes "by") refl (lit≤ tt) (lit≤ tt)) (short-number w.0 small) (short-weight w.1 fits.small) in
    record {
      are_words = short-words 24 (codes "by" ∷ numeral w.0 ∷ spelled w.1 ∷ []) shorts;
      short = few_words (codes "by" ∷ numeral w.0 ∷ spelled w.1 ∷ []) shorts (lit≤ tt);
      members = tt;
      allowed = refl;
      within = (
        two_fields (within (Some (pos w.0)) (pos 0) (pos 16383)) (within (Some w.1) (neg_ℤ (pos 75557863725914323419136)) (pos 75557863725914323419136)) (count-within w.0 0 16383 (omega arith) (omega (arith, row)))
            (weight-within w.1 fits.small),
        tt,
      );
      names = tt;
      none_found = λ cause h. h;
      goes_on = ap (λ (k : ℕ). state (AtWeights v k (done ++ w ∷ [])) n kept []) (let e : more ≡ suc more - 1 = omega arith in e);
    }

weight_written : (w : ℕ × ℤ) → IsWeight w → weight_line w ≡ line (line_spelling (WeightLine (pos w.0) w.1))
weight_written w fits =
    let row = fits.row in
    let small : w.0 < 2 ^ 64 = omega (arith, row) in
    ap (λ (u : List ℕ). line (codes "by" ∷ u ∷ number w.1 ∷ [])) (written w.0 small) ∙ ap (λ (u : List ℕ). line (codes "by" ∷ numeral w.0 ∷ u ∷ [])) (weight-written w.1 fits.small)

reads_weights : (s : Site) (arcs : List CandidateArc) (n v : ℕ) (kept : ProofState) (done weights whole : List (ℕ × ℤ)) (after : List ℕ) (later : List DocLine) (end : Reader) → done ++ weights ≡ whole → All IsWeight weights
    → ReadsAll s arcs (state (AtWeights v 0 whole) n kept []) after later end → ReadsAll s arcs (state (AtWeights v (length weights) done) n kept []) (concat (map weight_line weights) ++ after) (map weight_read weights ++ later) end
reads_weights s arcs n v kept done [] whole after later end e fits rest =
    subst (λ (ws : List (ℕ × ℤ)). ReadsAll s arcs (state (AtWeights v 0 ws) n kept []) after later end) (sym e ∙ append-nil done) rest
reads_weights s arcs n v kept done (w ∷ weights) whole after later end e fits rest =
    let own = All-head IsWeight w weights fits in
    reads-first s arcs (state (AtWeights v (suc (length weights)) done) n kept []) (state (AtWeights v (length weights) (done ++ w ∷ [])) n kept []) (WeightLine (pos w.0) w.1)
    (concat (map weight_line (w ∷ weights)) ++ after) (concat (map weight_line weights) ++ after) (map weight_read weights ++ later) end (can_weight s arcs n v (length weights) kept done w own)
    (in_front (weight_line w) (line (line_spelling (WeightLine (pos w.0) w.1))) (concat (map weight_line weights)) after (weight_written w own))
    (reads_weights s arcs n v kept (done ++ w ∷ []) weights whole after later end (append_assoc done (w ∷ []) weights ∙ e) (All-tail IsWeight w weights fits) rest)

can_act : (s : Site) (arcs : List CandidateArc) (n v : ℕ) (kept new : ProofState) (weights : List (ℕ × ℤ)) (act : Act) → IsValid s → AreArcs s arcs → length kept.rows ≤ 16384 → IsWorked s arcs n kept v weights act new
    → CanRead s arcs (state (AtWeights v 0 weights) n kept []) (ActLine (raw_act act)) (state AtItem n new [])
can_act s arcs n v kept new weights act valid are rows worked =
    let w = act-written act (act-fits s arcs kept v worked.node worked.value act new.nodes valid are rows worked.acted) in
    record {
      are_words = short-words 24 (line_spelling (ActLine (raw_act act))) w.shorts;
      short = few_words (line_spelling (ActLine (raw_act act))) w.shorts w.few;
      members = tt;
      allowed = refl;
      within = (w.fields, tt);
      names = tt;
      none_found = λ cause h.
          let one = sym h.2 in
          let at_node = subst (λ (u : ℕ). IsWorkRefused s arcs n kept u h.1 (act_from (raw_act act)) cause) (same_node h.0 v h.1 weights one) h.3 in
          let at_weights = subst (λ (ws : List (ℕ × ℤ)). IsWorkRefused s arcs n kept v ws (act_from (raw_act act)) cause) (same_weights h.0 v h.1 weights one) at_node in
          work-stands s arcs n kept v weights act new cause worked (subst (λ (a : Act). IsWorkRefused s arcs n kept v weights a cause) (raw_act-read act) at_weights);
      goes_on = (v, weights, new, refl, subst (λ (a : Act). Accepts s arcs n kept (WorkItem v weights a) new) (sym (raw_act-read act)) worked, refl);
    }

weights_fit : (s : Site) (arcs : List CandidateArc) (n : ℕ) (kept new : ProofState) (v : ℕ) (weights : List (ℕ × ℤ)) (act : Act) → length kept.rows ≤ 16384 → IsWorked s arcs n kept v weights act new → All IsWeight weights
weights_fit s arcs n kept new v weights act rows worked k d l =
    let listed = worked.lawful.listed k d l in
    record { row = omega (arith, listed, rows); small = worked.lawful.small k d l }

-- ---- items
reads_items : (s : Site) (arcs : List CandidateArc) (n : ℕ) (items : List Item) (old kept : ProofState) (after : List ℕ) (later : List DocLine) (end : Reader) → IsValid s → AreArcs s arcs → n ≤ 50000 → IsCounted n old
    → Leads s arcs n old items kept → ReadsAll s arcs (state AtItem n kept []) after later end → ReadsAll s arcs (state AtItem n old []) (concat (map item_lines items) ++ after) (items_read items later) end
reads_items s arcs n [] old kept after later end valid are most counted leads rest = subst (λ (k : ProofState). ReadsAll s arcs (state AtItem n k []) after later end) leads rest
reads_items s arcs n (RowItem row ∷ items) old kept after later end valid are most counted leads rest =
    let small = members-small s arcs row.kind row.members valid are (members-below s arcs row leads.1.well_formed) in
    reads-first s arcs (state AtItem n old []) (state AtItem n leads.0 []) (RowLine row.kind (map pos row.members)) (concat (map item_lines (RowItem row ∷ items)) ++ after) (concat (map item_lines items) ++ after) (items_read items later) end
    (can_row s arcs n old leads.0 row valid are leads.1)
    (in_front (row_line row) (line (line_spelling (RowLine row.kind (map pos row.members)))) (concat (map item_lines items)) after (row_written s arcs row valid are small))
    (reads_items s arcs n items leads.0 kept after later end valid are most (counted-accepts s arcs n old (RowItem row) leads.0 counted leads.1) leads.2 rest)
reads_items s arcs n (WorkItem v weights act ∷ items) old kept after later end valid are most counted leads rest =
    let worked = leads.1 in
    let rows = counted.rows in
    let made = made-within old.nodes v worked.node worked.made in
    let nodes = counted.nodes in
    let works = worked.within_budget in
    let upper : v ≤ 100001 = let l = made.within in omega (arith, l, nodes, works, most) in
    let w = act-written act (act-fits s arcs old v worked.node worked.value act leads.0.nodes valid are rows worked.acted) in
    let further = concat (map item_lines items) ++ after in
    let small : v < 2 ^ 64 = omega (arith, upper) in
    let little : length weights < 2 ^ 64 = let l = worked.weights_count in omega (arith, l) in
    let head : line (codes "work" ∷ decimal v ∷ decimal (length weights) ∷ []) ≡ line (line_spelling (WorkLine (pos v) (pos (length weights)))) =
    ap (λ (u : List ℕ). line (codes "work" ∷ u ∷ decimal (length weights) ∷ [])) (written v small) ∙ ap (λ (u : List ℕ). line (codes "work" ∷ numeral v ∷ u ∷ [])) (written (length weights) little) in
    let act_part = reads-first s arcs (state (AtWeights v 0 weights) n old []) (state AtItem n leads.0 []) (ActLine (raw_act act)) (act_line act ++ further) further (items_read items later) end
    (can_act s arcs n v old leads.0 weights act valid are rows worked) (ap (λ (bytes : List ℕ). bytes ++ further) w.text)
    (reads_items s arcs n items leads.0 kept after later end valid are most (counted-accepts s arcs n old (WorkItem v weights act) leads.0 counted leads.1) leads.2 rest) in
    let weight_part = reads_weights s arcs n v old [] weights weights (act_line act ++ further) (ActLine (raw_act act) ∷ items_read items later) end refl (weights_fit s arcs n old leads.0 v weights act rows worked) act_part in
    reads-first s arcs (state AtItem n old []) (state (AtWeights v (length weights) []) n old []) (WorkLine (pos v) (pos (length weights))) (concat (map item_lines (WorkItem v weights act ∷ items)) ++ after)
    (concat (map weight_line weights) ++ (act_line act ++ further)) (map weight_read weights ++ ActLine (raw_act act) ∷ items_read items later) end
    (can_work s arcs n v (length weights) old made.some upper worked.weights_count)
    (parts (line (codes "work" ∷ decimal v ∷ decimal (length weights) ∷ [])) (line (line_spelling (WorkLine (pos v) (pos (length weights))))) (concat (map weight_line weights)) (act_line act) (concat (map item_lines items)) after head)
    weight_part
  where
    parts : (first own ws a others more : List ℕ) → first ≡ own → (first ++ ws ++ a ++ others) ++ more ≡ own ++ (ws ++ (a ++ (others ++ more)))
    parts first own ws a others more e = simp append_assoc (ap (λ (bytes : List ℕ). bytes ++ (ws ++ (a ++ (others ++ more)))) e)

-- ---- the document
can_budget : (s : Site) (arcs : List CandidateArc) (n : ℕ) → IsBudget n → CanRead s arcs (reader_at AtBudget) (BudgetLine (pos n)) (state AtItem n empty_state [])
can_budget s arcs n budget =
    let low = budget.0 in
    let high = budget.1 in
    let small : n < 2 ^ 64 = omega (arith, high) in
    let shorts = two-short 24 (codes "budget") (numeral n) (key (codes "budget") refl (lit≤ tt) (lit≤ tt)) (short-number n small) in
    record {
      are_words = short-words 24 (codes "budget" ∷ numeral n ∷ []) shorts;
      short = few_words (codes "budget" ∷ numeral n ∷ []) shorts (lit≤ tt);
      members = tt;
      allowed = refl;
      within = (one_field (within (Some (pos n)) (pos 1) (pos 50000)) (count-within n 1 50000 low high), tt);
      names = tt;
      none_found = λ cause h. h;
      goes_on = refl;
    }

-- the cables of a layout that is as its claim says are of the site
of_site : (s : Site) (cables : List Cable) (claim : Claim) → LayoutAgrees s cables claim → All (IsOfSite s) cables
of_site s cables (Optimal c) h = all_from (IsOfSite s) cables (λ i d e. record { from = (h.0.range i).from d e; to = (h.0.range i).to d e; grade = (h.0.range i).grade d e })
of_site s cables (Gap c b) h = all_from (IsOfSite s) cables (λ i d e. record { from = (h.0.range i).from d e; to = (h.0.range i).to d e; grade = (h.0.range i).grade d e })
of_site s cables (Partial b stuck) h = all_from (IsOfSite s) cables (λ i d e.
    let keeps : KeepsRange s cables i = h.grown Range i 0 (λ r. cc) in
    record { from = keeps.from d e; to = keeps.to d e; grade = keeps.grade d e })
of_site s cables Infeasible h = All-same (IsOfSite s) cables [] h (All-nil (IsOfSite s))

-- the bytes of a document behind its site
abbrev pub behind_site : Site → ℕ → List Item → List Cable → Claim → List ℕ
behind_site s n items cables claim =
    line (codes "budget" ∷ decimal n ∷ []) ++ (concat (map item_lines items) ++ (line (codes "layout" ∷ decimal (length cables) ∷ []) ++ (concat (map (cable_line s) cables) ++ (claim_line s claim ++ end_line))))

pub document_parts : (s : Site) (n : ℕ) (items : List Item) (cables : List Cable) (claim : Claim) → document_text s n items cables claim ≡ site_lines s ++ behind_site s n items cables claim
document_parts s n items cables claim =
    parts (site_lines s) (line (codes "budget" ∷ decimal n ∷ [])) (concat (map item_lines items)) (line (codes "layout" ∷ decimal (length cables) ∷ [])) (concat (map (cable_line s) cables)) (claim_line s claim) end_line
  where
    parts : (a b c d e f g : List ℕ) → a ++ b ++ c ++ d ++ e ++ f ++ g ≡ a ++ (b ++ (c ++ (d ++ (e ++ (f ++ g)))))
    parts a b c d e f g = simp append_assoc

pub document-read : (s : Site) (arcs : List CandidateArc) (n : ℕ) (items : List Item) (kept : ProofState) (cables : List Cable) (claim : Claim) → IsValid s → AreArcs s arcs → IsBudget n
    → IsAccepted s arcs n items kept → AllPairs (λ c d. c.from < d.from) cables → IsClaimInRange claim → Agrees s n kept cables claim
    → ReadsAll s arcs (reader_at AtBudget) (behind_site s n items cables claim) (document_read s n items cables claim) (state Past n kept cables)
document-read s arcs n items kept cables claim valid are budget accepted order range agrees =
    let high = budget.1 in
    let end : Reader = state Past n kept cables in
    let small : n < 2 ^ 64 = omega (arith, high) in
    let own = of_site s cables claim agrees.0 in
    let points = valid.points_count in
    let most = cables-most (length s.points) cables order (λ k d l. (own k d l).from) in
    let few : length cables ≤ 256 = omega (arith, most, points) in
    let little : length cables < 2 ^ 64 = omega (arith, few) in
    let verdict = claim_line s claim ++ end_line in
    let listed = concat (map (cable_line s) cables) ++ verdict in
    let layout = line (codes "layout" ∷ decimal (length cables) ∷ []) ++ listed in
    let claim_part = reads_claim s arcs n kept cables claim valid range agrees in
    let cable_part = reads_cables s arcs n kept [] cables cables verdict (ClaimLine (raw_claim s claim) ∷ EndLine ∷ []) end valid refl own order (λ k d l. All-nil (λ (c : Cable). c.from < (get_or cables k d).from)) claim_part in
    let layout_part = reads-first s arcs (state AtItem n kept []) (state (AtCables (length cables)) n kept []) (LayoutLine (pos (length cables))) layout listed (map (cable_read s) cables ++ ClaimLine (raw_claim s claim) ∷ EndLine ∷ []) end (can_layout s arcs n (length cables) kept few)
    (ap (λ (w : List ℕ). line (codes "layout" ∷ w ∷ []) ++ listed) (written (length cables) little)) cable_part in
    let item_part = reads_items s arcs n items empty_state kept layout (layout_read s cables claim) end valid are high (counted-nothing n) accepted layout_part in
    reads-first s arcs (reader_at AtBudget) (state AtItem n empty_state []) (BudgetLine (pos n)) (behind_site s n items cables claim) (concat (map item_lines items) ++ layout) (items_read items (layout_read s cables claim)) end (can_budget s arcs n budget)
    (ap (λ (w : List ℕ). line (codes "budget" ∷ w ∷ []) ++ (concat (map item_lines items) ++ layout)) (written n small)) item_part
