-- Rounds, one after another.
use Rattle.std.proofs.Common.{◌≡◌, ℕ, zero, suc, ◌≤◌, List, [], ◌∷◌, ◌++◌, Some, refl, sym, ◌∙◌, ap, subst, arith}
use Rattle.cable_definitions.specs.declared.cable.Cable.{Cable}
use Rattle.cable_definitions.specs.declared.cable.Arc.{Arc}
use Rattle.cable_definitions.specs.Site.{Site, IsValid}
use Rattle.cable_definitions.specs.Arcs.{AreArcs}
use Rattle.cable_definitions.specs.Layout.{cost}
use Rattle.cable_definitions.specs.Core.{Core, Event, Runs}
use Rattle.run_definitions.specs.Rounds.{round, IsOver, LeadToEnd}
use Rattle.search_laws.specs.Cores.{IsCore}
use Rattle.search_laws.proofs.Stepping.{run-core}
use Rattle.search_laws.proofs.Falling.{run-falls}

-- so many rounds, each of which began before the end
abbrev pub AreRounds : Site → List Arc → ℕ → ℕ → ℕ → Core → Core → Type 0
AreRounds s arcs n lanes zero old new = new ≡ old
AreRounds s arcs n lanes (suc rounds) old new = (¬ (IsOver s n old)) × ((mid : Core) × Runs s arcs n old (round lanes) mid × AreRounds s arcs n lanes rounds mid new)

-- a run and then another
pub runs-then : (s : Site) (arcs : List Arc) (n : ℕ) (old mid new : Core) (xs ys : List Event) → Runs s arcs n old xs mid → Runs s arcs n mid ys new → Runs s arcs n old (xs ++ ys) new
runs-then s arcs n old mid new [] ys p q = subst (λ (c : Core). Runs s arcs n c ys new) p q
runs-then s arcs n old mid new (x ∷ xs) ys p q = (p.0, p.1, runs-then s arcs n p.0 mid new xs ys p.2 q)

-- ---- what rounds that lead to the end keep
-- they end there
pub lead-end : (s : Site) (arcs : List Arc) (n lanes rounds : ℕ) (old new : Core) → LeadToEnd s arcs n lanes rounds old new → IsOver s n new
lead-end s arcs n lanes zero old new lead = subst (IsOver s n) (sym lead.1) lead.0
lead-end s arcs n lanes (suc rounds) old new lead = lead-end s arcs n lanes rounds lead.1.0 new lead.1.2

-- in such a state
pub lead-core : (s : Site) (arcs : List Arc) (n lanes rounds : ℕ) (old new : Core) → IsValid s → AreArcs s arcs → IsCore s arcs n old → LeadToEnd s arcs n lanes rounds old new → IsCore s arcs n new
lead-core s arcs n lanes zero old new valid are core lead = subst (IsCore s arcs n) (sym lead.1) core
lead-core s arcs n lanes (suc rounds) old new valid are core lead =
    lead-core s arcs n lanes rounds lead.1.0 new valid are (run-core s arcs n old lead.1.0 (round lanes) valid are core lead.1.1) lead.1.2

-- with a known layout that costs no more
pub lead-falls : (s : Site) (arcs : List Arc) (n lanes rounds : ℕ) (old new : Core) (cables : List Cable) → LeadToEnd s arcs n lanes rounds old new → old.known ≡ Some cables
    → (better : List Cable) × (new.known ≡ Some better) × (cost s better ≤ cost s cables)
lead-falls s arcs n lanes zero old new cables lead e = (cables, ap (λ (c : Core). c.known) lead.1 ∙ e, omega arith)
lead-falls s arcs n lanes (suc rounds) old new cables lead e =
    let first = run-falls s arcs n old lead.1.0 (round lanes) cables lead.1.1 e in
    let rest = lead-falls s arcs n lanes rounds lead.1.0 new first.0 lead.1.2 first.1 in
    (rest.0, rest.1, (let a = first.2 in let b = rest.2 in omega (arith, a, b)))

-- ---- rounds that are under way
-- one more round before the end
pub rounds-more : (s : Site) (arcs : List Arc) (n lanes rounds : ℕ) (old mid new : Core) → AreRounds s arcs n lanes rounds old mid → ¬ (IsOver s n mid) → Runs s arcs n mid (round lanes) new
    → AreRounds s arcs n lanes (suc rounds) old new
rounds-more s arcs n lanes zero old mid new are on runs =
    (subst (λ (c : Core). ¬ (IsOver s n c)) are on, (new, subst (λ (c : Core). Runs s arcs n c (round lanes) new) are runs, refl))
rounds-more s arcs n lanes (suc rounds) old mid new are on runs = (are.0, (are.1.0, are.1.1, rounds-more s arcs n lanes rounds are.1.0 mid new are.1.2 on runs))

-- rounds that have come to the end
pub rounds-end : (s : Site) (arcs : List Arc) (n lanes rounds : ℕ) (old new : Core) → AreRounds s arcs n lanes rounds old new → IsOver s n new → LeadToEnd s arcs n lanes rounds old new
rounds-end s arcs n lanes zero old new are at_end = (subst (IsOver s n) are at_end, are)
rounds-end s arcs n lanes (suc rounds) old new are at_end = (are.0, (are.1.0, are.1.1, rounds-end s arcs n lanes rounds are.1.0 new are.1.2 at_end))
