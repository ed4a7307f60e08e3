-- Where a search begins.
use Rattle.std.proofs.Common.{◌≡◌, ℕ, zero, suc, ◌≤◌, inl, inr, List, [], ◌∷◌, None, refl, sym, subst, arith}
use Rattle.std.specs.Prelude.{replicate}
use Rattle.cable_definitions.specs.declared.cable.Arc.{Arc}
use Rattle.cable_definitions.specs.Site.{Site, IsValid}
use Rattle.cable_definitions.specs.Tree.{Node, root, ceiling}
use Rattle.cable_definitions.specs.Core.{first_core}
use Rattle.search_laws.specs.Cores.{IsStoppedOrFull, AreBeaten, AreCapped, IsCore}
use Rattle.search_laws.proofs.Lanes.{none_held, none_at_first}
use Rattle.search_laws.proofs.FirstRows.{first_rows-all, first_rows-accepted}

-- nothing is stopped or full in the root alone
root-beaten : (s : Site) → AreBeaten s None (root ∷ [])
root-beaten s zero node e settled = absurd (cc)
root-beaten s (suc zero) node e settled = absurd (let same : root ≡ node = cc in elim (subst IsStoppedOrFull (sym same) settled) [ inl f ↦ cc | inr f ↦ cc ])
root-beaten s (suc (suc k)) node e settled = absurd (cc)

-- the root's bound is 0
root-capped : (s : Site) (arcs : List Arc) → AreCapped s arcs (root ∷ [])
root-capped s arcs zero node e unworked = absurd (cc)
root-capped s arcs (suc zero) node e unworked = (let same : root ≡ node = cc in subst (λ (x : Node). x.bound ≤ ceiling s arcs) same (omega arith))
root-capped s arcs (suc (suc k)) node e unworked = absurd (cc)

-- the first state
pub first-core : (s : Site) (arcs : List Arc) (n lanes : ℕ) → IsValid s → IsCore s arcs n (first_core s lanes)
first-core s arcs n lanes valid =
    let empty = none_at_first lanes in
    record {
      accepted = first_rows-accepted s arcs n valid;
      rows = first_rows-all s arcs;
      held_unworked = λ lane v e. absurd (none_held (replicate lanes None) empty lane v e);
      held_apart = λ i j v e f. absurd (none_held (replicate lanes None) empty i v e);
      legal = λ cables e. absurd (cc);
      budget = omega (arith, empty);
      beaten = root-beaten s;
      capped = root-capped s arcs;
      alone = λ isolated. refl;
    }
