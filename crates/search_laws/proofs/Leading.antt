-- Items one after another, and what rows leave.
use Rattle.std.proofs.Common.{◌≡◌, ℕ, List, [], ◌∷◌, ◌++◌, slice_get, Some, ◌∙◌, ap, subst}
use Rattle.cable_definitions.specs.declared.cable.Arc.{Arc}
use Rattle.cable_definitions.specs.Site.{Site}
use Rattle.cable_definitions.specs.Row.{Row}
use Rattle.cable_definitions.specs.Tree.{Item, ProofState, Leads}
use Rattle.cable_definitions.specs.Core.{are_row_items}
use Rattle.proof_laws.specs.Decided.{HasPointRows}
use Rattle.proof_laws.proofs.Boxes.{append_left}

-- items and then others
pub leads-then : (s : Site) (arcs : List Arc) (n : ℕ) (old mid new : ProofState) (xs ys : List Item) → Leads s arcs n old xs mid → Leads s arcs n mid ys new → Leads s arcs n old (xs ++ ys) new
leads-then s arcs n old mid new [] ys p q = subst (λ k. Leads s arcs n k ys new) p q
leads-then s arcs n old mid new (x ∷ xs) ys p q = (p.0, p.1, leads-then s arcs n p.0 mid new xs ys p.2 q)

-- rows change no node and are no works, and what was listed is listed still
pub record AreListed (old new : ProofState) : Type 0 where
  pub nodes : new.nodes ≡ old.nodes
  pub works : new.works ≡ old.works
  pub still : (r : ℕ) (row : Row) → slice_get old.rows r ≡ Some row → slice_get new.rows r ≡ Some row

pub rows-listed : (s : Site) (arcs : List Arc) (n : ℕ) (rows : List Row) (old new : ProofState) → Leads s arcs n old (are_row_items rows) new → AreListed old new
rows-listed s arcs n [] old new l = record {
  nodes = ap (λ (k : ProofState). k.nodes) l;
  works = ap (λ (k : ProofState). k.works) l;
  still = λ r row e. ap (λ (k : ProofState). slice_get k.rows r) l ∙ e;
}
rows-listed s arcs n (row ∷ rows) old new l =
    let rest = rows-listed s arcs n rows l.0 new l.2 in
    record {
      nodes = rest.nodes ∙ l.1.nodes;
      works = rest.works ∙ l.1.works;
      still = λ r x e. rest.still r x (ap (λ (xs : List Row). slice_get xs r) l.1.rows ∙ append_left old.rows (row ∷ []) r x e);
    }

-- all rows of points are listed still
pub point_rows-still : (s : Site) (arcs : List Arc) (old new : ProofState) → AreListed old new → HasPointRows s arcs old.rows → HasPointRows s arcs new.rows
point_rows-still s arcs old new listed has row kind formed = (let at = has row kind formed in (at.0, listed.still at.0 row at.1))
