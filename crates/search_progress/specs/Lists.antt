-- Rows that are listed.
use Rattle.std.specs.Prelude.{◌≡◌, ℕ, ◌≤◌, List, [], ◌∷◌, ◌++◌, length, sum_by, Bool, cond}
use Rattle.cable_definitions.specs.declared.cable.Arc.{Arc}
use Rattle.cable_definitions.specs.declared.site.Kind.{Kind}
use Rattle.cable_definitions.specs.Site.{Site}
use Rattle.cable_definitions.specs.Arcs.{kind_of}
use Rattle.cable_definitions.specs.Row.{Row}
use Rattle.cable_definitions.specs.Tree.{ProofState, Leads}
use Rattle.cable_definitions.specs.Core.{are_row_items}

-- rows are listed behind the old ones, and each is accepted, whatever was kept besides
pub record Lists (s : Site) (arcs : List Arc) (old new : List Row) : Type 0 where
  pub rows : List Row
  pub behind : new ≡ old ++ rows
  pub accepted : (n : ℕ) (kept : ProofState) → kept.rows ≡ old → Leads s arcs n kept (are_row_items rows) (record kept { rows = new })

-- there are at most so many rows, with at most so many members together
pub record AreFew (rows : List Row) (most : ℕ) : Type 0 where
  pub rows_count : length rows ≤ most
  pub members_count : sum_by (λ r. length r.members) rows ≤ most

-- the point alone where its kind passes the test, else none
abbrev pub point_where : (Kind → Bool) → Site → ℕ → List ℕ
point_where test s p = cond (test (kind_of s p)) (p ∷ []) []
