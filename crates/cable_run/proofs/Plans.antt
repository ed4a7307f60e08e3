-- The text of a plan from its parts, and what its writers ask for.
use Rattle.std.proofs.Common.{◌≡◌, ℕ, ◌<◌, ◌≤◌, inl, inr, List, [], ◌∷◌, ◌++◌, length, map, get_or, Option, Some, refl, sym, ap, ◌∙◌, subst, append_assoc, arith}
use Rattle.std.specs.Prelude.{◌^◌, All, AllPairs, Err, codes}
use Rattle.std.specs.List.{concat}
use Rattle.std.specs.Fmt.{decimal}
use Rattle.std.proofs.lemmas.List.Sums.{sum_by-le}
use Rattle.std.proofs.lemmas.Option.{slice_get-get_or}
use Rattle.cable_definitions.specs.declared.cable.Cable.{Cable}
use Rattle.cable_definitions.specs.declared.cable.Arc.{Arc}
use Rattle.cable_definitions.specs.declared.claim.Claim.{Claim}
use Rattle.cable_definitions.specs.declared.claim.Claim.TheVariants.{Optimal, Gap, Partial, Infeasible}
use Rattle.cable_definitions.specs.Site.{Site, IsValid}
use Rattle.cable_definitions.specs.Arcs.{AreArcs, cost_of}
use Rattle.cable_definitions.specs.Walk.{load}
use Rattle.cable_definitions.specs.declared.cable.Rule.TheVariants.{Range}
use Rattle.cable_definitions.specs.Layout.{IsLegal, cost}
use Rattle.cable_definitions.specs.Part.{IsGrown}
use Rattle.cable_definitions.specs.Tree.{Item, ProofState, IsAccepted, LayoutAgrees, empty_state}
use Rattle.cable_definitions.specs.Text.{line, site_lines, item_lines, cable_line, claim_line, document_text}
use Rattle.cable_definitions.specs.Document.{IsClaimInRange}
use Rattle.cable_definitions.specs.Stream.{Appends, AppendsPrefix}
use Rattle.cable_text.proofs.Writing.{Appends-then, AppendsPrefix-front, AppendsPrefix-then}
use Rattle.layout_meaning.proofs.Costing.{cost_small, load_small_at}
use Rattle.document_laws.proofs.Counting.{cables-most}
use Rattle.proof_laws.proofs.FullLemma.{within-turbine}
use Rattle.proof_laws.proofs.Sound.{sound-accepted, says-sound}
use Rattle.proof_lines.specs.Written.{EndsAtPoints, layout_lines}
use Rattle.site_text.specs.Verdict.{NamesPoint}
use Rattle.search_parts.specs.Outcome.{IsOutcome, FindsPlan, WritesPart, HasCost}
use Rattle.search_core.specs.declared.searching.SearchFault.{SearchFault}
use Rattle.search_core.specs.declared.searching.SearchFault.TheVariants.{Write as SearchWrite, Memory as SearchMemory}
use Rattle.run_definitions.specs.Effect.{Effect, Faulted}
use Rattle.run_definitions.specs.Plan.{IsPlan, IsPlanBegun}
use Rattle.run_definitions.specs.Rounds.{IsOfLayout, ComeFromSearch}
use Rattle.run_definitions.specs.Ends.{IsRead, PrintsPlan, PrintsPart}
use Rattle.cable_run.specs.declared.fault.Fault.{Fault}
use Rattle.cable_run.specs.Faults.{search_fault}
use Rattle.cable_run.specs.Steps.{PlanGives}

-- ---- parts of the text
-- what stands before the items
abbrev pub head_text : Site → ℕ → List ℕ
head_text s n = site_lines s ++ line (codes "budget" ∷ decimal n ∷ [])

-- what stands behind them
abbrev pub tail_text : Site → List Cable → Claim → List ℕ
tail_text s cables claim = layout_lines s cables ++ (claim_line s claim ++ line (codes "end" ∷ codes "document" ∷ []))

joined : (h i l c v e : List ℕ) → ((((h ++ i) ++ l) ++ c) ++ v) ++ e ≡ (h ++ i) ++ ((l ++ c) ++ (v ++ e))
joined h i l c v e = append_assoc (((h ++ i) ++ l) ++ c) v e ∙ (ap (λ x. x ++ (v ++ e)) (append_assoc (h ++ i) l c) ∙ append_assoc (h ++ i) (l ++ c) (v ++ e))

-- a document is what stands before its items, the items, and what stands behind them
document_parts : (s : Site) (n : ℕ) (items : List Item) (cables : List Cable) (claim : Claim)
    → document_text s n items cables claim ≡ (head_text s n ++ concat (map item_lines items)) ++ tail_text s cables claim
document_parts s n items cables claim =
    joined (head_text s n) (concat (map item_lines items)) (line (codes "layout" ∷ decimal (length cables) ∷ [])) (concat (map (cable_line s) cables)) (claim_line s claim)
    (line (codes "end" ∷ codes "document" ∷ []))

-- ---- what the writers ask for
-- the cables of a legal layout have their ends among the points
cables_of_legal : (s : Site) (cables : List Cable) → IsLegal s cables → All (EndsAtPoints s) cables
cables_of_legal s cables legal k d h =
    let at = slice_get-get_or cables k d h in
    record { from = (legal.range k).from (get_or cables k d) at; to = (legal.range k).to (get_or cables k d) at }

-- so do those of a grown part
cables_of_grown : (s : Site) (cables : List Cable) → IsGrown s cables → All (EndsAtPoints s) cables
cables_of_grown s cables grown k d h =
    let at = slice_get-get_or cables k d h in
    let range = grown Range k 0 (λ e. cc) in
    record { from = range.from (get_or cables k d) at; to = range.to (get_or cables k d) at }

no_cables : (s : Site) (cables : List Cable) → cables ≡ [] → All (EndsAtPoints s) cables
no_cables s cables e = let P : List Cable → Type 0 = λ xs. All (EndsAtPoints s) xs in subst P (sym e) (λ k d h. absurd (omega (arith, h)))

cables_agree : (s : Site) (cables : List Cable) (claim : Claim) → LayoutAgrees s cables claim → All (EndsAtPoints s) cables
cables_agree s cables (Optimal cost) a = cables_of_legal s cables a.0
cables_agree s cables (Gap cost bound) a = cables_of_legal s cables a.0
cables_agree s cables (Partial bound stuck) a = cables_of_grown s cables a.grown
cables_agree s cables Infeasible a = no_cables s cables a

-- the cables that were found have their ends among the points
pub cables_found : (s : Site) (arcs : List Arc) (n lanes : ℕ) (before after : Option (List ℕ)) (cables : List Cable) (claim : Claim) → FindsPlan s arcs n lanes before after cables claim → All (EndsAtPoints s) cables
cables_found s arcs n lanes before after cables claim found = cables_agree s cables claim found.outcome.agrees.0

claim_agrees : (s : Site) (cables : List Cable) (claim : Claim) → LayoutAgrees s cables claim → NamesPoint s claim
claim_agrees s cables (Optimal cost) a = tt
claim_agrees s cables (Gap cost bound) a = tt
claim_agrees s cables (Partial bound stuck) a = within-turbine s stuck a.turbine_is
claim_agrees s cables Infeasible a = tt

-- a turbine that the claim names is a point
pub claim_found : (s : Site) (arcs : List Arc) (n lanes : ℕ) (before after : Option (List ℕ)) (cables : List Cable) (claim : Claim) → FindsPlan s arcs n lanes before after cables claim → NamesPoint s claim
claim_found s arcs n lanes before after cables claim found = claim_agrees s cables claim found.outcome.agrees.0

-- ---- costs
-- a legal layout whose cables ascend costs less than 2 ^ 63
cost_in_range : (s : Site) (cables : List Cable) → IsValid s → AllPairs (λ c d. c.from < d.from) cables → IsLegal s cables → cost s cables < 2 ^ 63
cost_in_range s cables valid order legal =
    let most = cables-most (length s.points) cables order (λ k d h. (legal.range k).from (get_or cables k d) (slice_get-get_or cables k d h)) in
    let each = sum_by-le (λ (c : Cable). cost_of s c.from c.to c.grade (load s cables c.from)) 28400000000000000 cables
    (λ k d h. cost_small s (get_or cables k d).from (get_or cables k d).to (get_or cables k d).grade (load s cables (get_or cables k d).from) valid
    (load_small_at s cables k (get_or cables k d) valid (slice_get-get_or cables k d h) legal.capacity)) in
    let points = valid.points_count in
    omega (arith, most, each, points)

claim_in_range : (s : Site) (arcs : List Arc) (n : ℕ) (kept : ProofState) (cables : List Cable) (claim : Claim) → IsValid s → IsOutcome s arcs n kept cables claim → IsClaimInRange claim
claim_in_range s arcs n kept cables (Optimal best) valid o = subst (λ (c : ℕ). c < 2 ^ 63) o.agrees.0.1 (cost_in_range s cables valid o.in_order o.agrees.0.0)
claim_in_range s arcs n kept cables (Gap best bound) valid o =
    let small = cost_in_range s cables valid o.in_order o.agrees.0.0 in
    let same = o.agrees.0.1 in
    let below = o.agrees.1.1 in
    (omega (arith, small, same), omega (arith, small, same, below))
claim_in_range s arcs n kept cables (Partial bound stuck) valid o = o.open_small bound stuck refl
claim_in_range s arcs n kept cables Infeasible valid o = tt

-- ---- where a plan stops early
-- what stands before the items, and a first part of these
begun : (input out : Effect) (s : Site) (n lanes : ℕ) (arcs : List Arc) (items : List Item) (kept : ProofState) → IsRead input s → AreArcs s arcs → IsAccepted s arcs n items kept
    → AppendsPrefix out.before.bytes out.after.bytes (head_text s n ++ concat (map item_lines items)) → PrintsPart n lanes input out
begun input out s n lanes arcs items kept read are accepted part =
    let started : IsPlanBegun s n (head_text s n ++ concat (map item_lines items)) =
    record { arcs = arcs; are_arcs = are; items = items; kept = kept; accepted = accepted; text_is = refl } in
    inr (s, head_text s n ++ concat (map item_lines items), read, inl started, part)

-- a first part of what stands before the items
pub head_part : (input out : Effect) (s : Site) (n lanes : ℕ) (arcs : List Arc) → IsRead input s → AreArcs s arcs → AppendsPrefix out.before.bytes out.after.bytes (head_text s n) → PrintsPart n lanes input out
head_part input out s n lanes arcs read are part = begun input out s n lanes arcs [] empty_state read are refl (AppendsPrefix-front out.before.bytes out.after.bytes (head_text s n) [] part)

pub items_part : (input out : Effect) (middle : Option (List ℕ)) (s : Site) (n lanes : ℕ) (arcs : List Arc) → IsRead input s → AreArcs s arcs → Appends out.before.bytes middle (head_text s n)
    → WritesPart s arcs n middle out.after.bytes → PrintsPart n lanes input out
items_part input out middle s n lanes arcs read are first part =
    begun input out s n lanes arcs part.items part.kept read are part.accepted
    (AppendsPrefix-then out.before.bytes middle out.after.bytes (head_text s n) (concat (map item_lines part.items)) first part.written)

-- ---- plans
-- what was found comes from a search
comes : (s : Site) (arcs : List Arc) (n lanes : ℕ) (before after : Option (List ℕ)) (cables : List Cable) (claim : Claim) → (found : FindsPlan s arcs n lanes before after cables claim)
    → ComeFromSearch s arcs n lanes found.core.items cables claim
comes s arcs n lanes before after cables claim found = record { core = found.core; searched = found.searched; items_are = refl; known = λ has. known claim found.known has }
  where
    known : (c : Claim) → ((total : ℕ) → HasCost c total → found.core.known ≡ Some cables) → IsOfLayout c → found.core.known ≡ Some cables
    known (Optimal best) k has = k best refl
    known (Gap best bound) k has = k best refl
    known (Partial bound stuck) k has = absurd has
    known Infeasible k has = absurd has

-- what was found is a plan
plan_found : (middle later : Option (List ℕ)) (s : Site) (n lanes : ℕ) (arcs : List Arc) (cables : List Cable) (claim : Claim) → 1 ≤ n → n ≤ 50000 → IsValid s → AreArcs s arcs
    → (found : FindsPlan s arcs n lanes middle later cables claim) → IsPlan s n lanes (document_text s n found.core.items cables claim) claim
plan_found middle later s n lanes arcs cables claim least most valid are found = record {
  document = record {
    arcs = arcs;
    budget = n;
    items = found.core.items;
    cables = cables;
    kept = found.core.kept;
    valid = valid;
    are_arcs = are;
    is_budget = (least, most);
    text = refl;
    in_order = found.outcome.in_order;
    accepted = found.accepted;
    in_range = claim_in_range s arcs n found.core.kept cables claim valid found.outcome;
    agrees = found.outcome.agrees;
  };
  budget_is = refl;
  says = says-sound s arcs n found.core.kept cables claim (sound-accepted s arcs n found.core.items found.core.kept valid are found.accepted) found.outcome.agrees;
  searched = comes s arcs n lanes middle later cables claim found;
  first_cables = found.floor;
  in_trees = found.in_trees;
  no_in_tree = found.no_in_tree;
  closed = found.outcome.closed;
  isolated = found.outcome.hopeless;
  settled = found.outcome.settled;
  straight = found.outcome.straight;
  full = found.outcome.full;
}

-- it is over the arcs that were searched
pub plan_with_arcs : (middle later : Option (List ℕ)) (s : Site) (n lanes : ℕ) (arcs : List Arc) (cables : List Cable) (claim : Claim) → 1 ≤ n → n ≤ 50000 → IsValid s → AreArcs s arcs
    → (found : FindsPlan s arcs n lanes middle later cables claim) → (plan : IsPlan s n lanes (document_text s n found.core.items cables claim) claim) × (plan.document.arcs ≡ arcs)
unfolding plan_found
plan_with_arcs middle later s n lanes arcs cables claim least most valid are found = (plan_found middle later s n lanes arcs cables claim least most valid are found, refl)

-- what stands before the items and these, and a first part of what stands behind them
pub tail_part : (input out : Effect) (middle later : Option (List ℕ)) (s : Site) (n lanes : ℕ) (arcs : List Arc) (cables : List Cable) (claim : Claim) → 1 ≤ n → n ≤ 50000 → IsRead input s → AreArcs s arcs
    → Appends out.before.bytes middle (head_text s n) → FindsPlan s arcs n lanes middle later cables claim → AppendsPrefix later out.after.bytes (tail_text s cables claim) → PrintsPart n lanes input out
tail_part input out middle later s n lanes arcs cables claim least most read are first found part =
    let parts = AppendsPrefix-then out.before.bytes later out.after.bytes (head_text s n ++ concat (map item_lines found.core.items)) (tail_text s cables claim)
    (Appends-then out.before.bytes middle later (head_text s n) (concat (map item_lines found.core.items)) first found.written) part in
    let whole = subst (λ (text : List ℕ). AppendsPrefix out.before.bytes out.after.bytes text) (sym (document_parts s n found.core.items cables claim)) parts in
    inr (s, document_text s n found.core.items cables claim, read, inr (claim, plan_found middle later s n lanes arcs cables claim least most read.valid are found), whole)

-- the whole text
pub printed_whole : (input out : Effect) (middle later : Option (List ℕ)) (s : Site) (n lanes : ℕ) (arcs : List Arc) (cables : List Cable) (claim : Claim) → 1 ≤ n → n ≤ 50000 → IsRead input s → AreArcs s arcs
    → Appends out.before.bytes middle (head_text s n) → FindsPlan s arcs n lanes middle later cables claim → Appends later out.after.bytes (tail_text s cables claim) → PrintsPlan n lanes input out claim
printed_whole input out middle later s n lanes arcs cables claim least most read are first found last =
    let all = Appends-then out.before.bytes later out.after.bytes (head_text s n ++ concat (map item_lines found.core.items)) (tail_text s cables claim)
    (Appends-then out.before.bytes middle later (head_text s n) (concat (map item_lines found.core.items)) first found.written) last in
    record {
      site = s;
      printed = document_text s n found.core.items cables claim;
      read = read;
      plan = plan_found middle later s n lanes arcs cables claim least most read.valid are found;
      wrote = subst (λ (bytes : List ℕ). Appends out.before.bytes out.after.bytes bytes) (sym (document_parts s n found.core.items cables claim)) all;
    }

search_ends : (n lanes : ℕ) (input out : Effect) (fault : SearchFault) → (fault ≡ SearchWrite → Faulted out) → PrintsPart n lanes input out → PlanGives n lanes input out (Err (search_fault fault))
search_ends n lanes input out SearchWrite failed part = (failed refl, part)
search_ends n lanes input out SearchMemory failed part = part

-- what the fault of a search gives
pub search_fails : (n lanes : ℕ) (input out : Effect) (fault : SearchFault) (answer : Fault) → answer ≡ search_fault fault → (fault ≡ SearchWrite → Faulted out) → PrintsPart n lanes input out
    → PlanGives n lanes input out (Err answer)
search_fails n lanes input out fault answer is failed part = subst (λ (f : Fault). PlanGives n lanes input out (Err f)) (sym is) (search_ends n lanes input out fault failed part)
