-- The rows that a pool keeps.
use Rattle.std.specs.Prelude.{◌≡◌, ◌≢◌, ℕ, ◌+◌, ◌≤◌, ◌<◌, List, length, map, sum_by, slice_range, slice_index_or, All, AllPairs, IsTrue, false}
use Rattle.cable_definitions.specs.declared.row.RowKind.TheVariants.{One}
use Rattle.cable_definitions.specs.Row.{Row, is_member, has_one_member}
use Rattle.cable_rows.specs.declared.pool.StoredRow.{StoredRow}

-- the members of a stored row: those of the pool from its start up to its end
abbrev pub members_of : List ℕ → StoredRow → List ℕ
members_of members stored = slice_range members stored.start stored.end

-- the row that is stored so
abbrev pub row_of : List ℕ → StoredRow → Row
row_of members stored = record { kind = stored.kind; members = members_of members stored }

-- the rows of a pool
abbrev pub pool_rows : List ℕ → List StoredRow → List Row
pool_rows members rows = map (row_of members) rows

-- a stored row has its at most 256 members in the pool, ascending, and one alone where rows of its kind have one; a row on points has a table that tells them
pub record IsStoredRow (members : List ℕ) (stored : StoredRow) : Type 0 where
  pub start : stored.start ≤ stored.end
  pub end : stored.end ≤ length members
  pub few : stored.end ≤ stored.start + 256
  pub size : length stored.has ≡ 256
  pub table : stored.kind ≢ One → (p : ℕ) → slice_index_or stored.has p false ≡ is_member (members_of members stored) p
  pub ascending : AllPairs (λ m n. m < n) (members_of members stored)
  pub one : IsTrue (has_one_member stored.kind) → length (members_of members stored) ≡ 1

-- a pool has at most 16,384 stored rows and 1,048,576 members, none but those of its rows, and room for as many
pub record IsPool (rows : List StoredRow) (members : List ℕ) (rows_room members_room : ℕ) : Type 0 where
  pub rows_count : length rows ≤ 16384
  pub members_count : length members ≤ 1048576
  pub stored : All (IsStoredRow members) rows
  pub total : sum_by (λ r. length r.members) (pool_rows members rows) ≡ length members
  pub rows_fit : 16384 ≤ rows_room
  pub members_fit : 1048576 ≤ members_room
