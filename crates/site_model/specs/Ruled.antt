-- A table of the rules on the pairs of points.
use Rattle.std.specs.Prelude.{◌≡◌, ℕ, ◌+◌, ◌*◌, ◌<◌, List, length, find, Option, None, slice_index_or}
use Rattle.cable_definitions.specs.declared.site.PairRule.{PairRule}
use Rattle.cable_definitions.specs.declared.site.Pair.{Pair}
use Rattle.cable_definitions.specs.Site.{Site, IsValid, joins}
use Rattle.cable_definitions.specs.Arcs.{rule_from}

-- the place of two points in a table that has 256 points in a row
abbrev pub pair_place : ℕ → ℕ → ℕ
pair_place a b = a * 256 + b

-- the rule that such a table has at two points
abbrev pub rule_in : List (Option PairRule) → ℕ → ℕ → Option PairRule
rule_in table a b = slice_index_or table (pair_place a b) None

-- the table has a place for each two of 256 points, and there the rule on their pair, where there is one
pub record IsPairTable (table : List (Option PairRule)) (pairs : List Pair) : Type 0 where
  pub size : length table ≡ 65536
  pub says : (a b : ℕ) → a < 256 → b < 256 → rule_in table a b ≡ rule_from (find (joins a b) pairs)

-- a valid site with the table of its pair rules
pub record IsIndexed (site : Site) (rules : List (Option PairRule)) : Type 0 where
  pub valid : IsValid site
  pub table : IsPairTable rules site.pairs
