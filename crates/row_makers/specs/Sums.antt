-- Sums of shares by the points that arcs join.
use Rattle.std.specs.Prelude.{◌≡◌, ◌≢◌, ℕ, ◌+◌, ◌*◌, ◌≤◌, ◌<◌, List, length, slice_get, slice_index_or, Some, Bool, ◌&&◌, ◌==◌}
use Rattle.cable_definitions.specs.declared.cable.Arc.{Arc}
use Rattle.cable_definitions.specs.Site.{Site}
use Rattle.cable_definitions.specs.Arcs.{kind_of, is_substation}
use Rattle.bound_shares.specs.Shares.{shares_where}

-- arcs with a share each
pub record SharedArcs : Type 0 where
  pub arcs : List Arc
  pub shares : List ℕ

-- whether an arc starts in p
abbrev pub starts_in : ℕ → Arc → Bool
starts_in p arc = p == arc.from

-- whether an arc goes from p to q
abbrev pub goes : ℕ → ℕ → Arc → Bool
goes p q arc = (p == arc.from) && (q == arc.to)

-- whether an arc ends in a substation
abbrev pub ends_in_substation : Site → Arc → Bool
ends_in_substation s arc = is_substation (kind_of s arc.to)

-- an arc joins two of 256 points
pub record JoinsPoints (arc : Arc) : Type 0 where
  pub from : arc.from < 256
  pub to : arc.to < 256
  pub different : arc.from ≢ arc.to

-- Each arc joins two of 256 points; out has the sum of the shares out of each point, and between that of the shares from p to q in place 256 p + q.
pub record AreSums (arcs : List Arc) (shares out between : List ℕ) : Type 0 where
  pub joined : (a : ℕ) (arc : Arc) → slice_get arcs a ≡ Some arc → JoinsPoints arc
  pub all_shares : length shares ≡ length arcs
  pub out_size : length out ≡ 256
  pub between_size : length between ≡ 65536
  pub out_is : (p : ℕ) → p < 256 → slice_index_or out p 0 ≡ shares_where (starts_in p) arcs shares
  pub out_small : (p : ℕ) → p < 256 → slice_index_or out p 0 ≤ 68719476736
  pub between_is : (p q : ℕ) → p < 256 → q < 256 → slice_index_or between (256 * p + q) 0 ≡ shares_where (goes p q) arcs shares
