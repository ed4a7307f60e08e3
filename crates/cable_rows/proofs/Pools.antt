-- The rows of a pool, and one more.
use Rattle.std.proofs.Common.{◌≡◌, ◌≢◌, ℕ, ◌+◌, ◌-◌, ◌<◌, ◌≤◌, true, false, List, [], ◌∷◌, ◌++◌, length, get_or, take, drop, slice_get, Some, refl, ap, sym, ◌∙◌, subst, arith, ◌⊎◌, inl, inr, eq-eqb, ne_eqb, nat_cmp}
use Rattle.std.specs.Prelude.{All, AllPairs, sum_by, slice_range, IsTrue, ◌==◌, Result, Ok, Err, MatchResult}
use Rattle.std.specs.List.Sorted.{IsBinarySearchResult}
use Rattle.std.proofs.lemmas.Bool.{cases_order}
use Rattle.std.proofs.lemmas.Grind.{get_or_default_zero}
use Rattle.std.proofs.lemmas.List.Folds.{list_any-from_Any, list_any_none}
use Rattle.std.proofs.lemmas.List.Sorted.{searched}
use Rattle.std.proofs.lemmas.Option.{get_or_from_slice_get, slice_get_within}
use Rattle.number_laws.proofs.Keys.{slice_get-map_source}
use Rattle.std.proofs.Math.Seq.{drop-append_seam, take-length}
use Rattle.std.proofs.lemmas.List.{get_or_past, length-append, length_push, length-drop, drop-append-le, take-append-le, map-append}
use Rattle.std.proofs.lemmas.List.Elements.{All-push, All-tail}
use Rattle.std.proofs.lemmas.List.Sums.{sum_by_push}
use Rattle.cable_definitions.specs.declared.row.RowKind.{RowKind}
use Rattle.cable_definitions.specs.declared.row.RowKind.TheVariants.{One}
use Rattle.cable_definitions.specs.Row.{Row, is_member, has_one_member}
use Rattle.cable_rows.specs.declared.pool.StoredRow.{StoredRow}
use Rattle.cable_rows.specs.Pool.{members_of, row_of, pool_rows, IsStoredRow, IsPool}

-- a range of a longer list
range_before : (xs ys : List ℕ) (a b : ℕ) → a ≤ b → b ≤ length xs → slice_range (xs ++ ys) a b ≡ slice_range xs a b
range_before xs ys a b l h =
    let e = drop-append-le a xs ys (omega arith) in
    ap (take (b - a)) e ∙ take-append-le (b - a) (drop a xs) ys (omega (arith, length-drop a xs))

-- the range past a list
range_past : (xs ys : List ℕ) (a b : ℕ) → a ≡ length xs → b ≡ length xs + length ys → slice_range (xs ++ ys) a b ≡ ys
range_past xs ys a b e f =
    let n : b - a ≡ length ys = omega arith in
    rw (n, e, drop-append_seam) (take-length ys)

-- a stored row has the same members in a longer list
same_members : (members more : List ℕ) (stored : StoredRow) → IsStoredRow members stored → members_of (members ++ more) stored ≡ members_of members stored
same_members members more stored h = range_before members more stored.start stored.end h.start h.end

-- stored rows are the same rows in a longer list
same_rows : (members more : List ℕ) (rows : List StoredRow) → All (IsStoredRow members) rows → pool_rows (members ++ more) rows ≡ pool_rows members rows
same_rows members more [] h = refl
same_rows members more (stored ∷ rows) h =
    let head : row_of (members ++ more) stored ≡ row_of members stored = ap (λ (ms : List ℕ). record { kind = stored.kind; members = ms }) (same_members members more stored (h 0 stored (omega arith))) in
    let tail = same_rows members more rows (All-tail (IsStoredRow members) stored rows h) in
    cc

-- a row is still stored in a longer list
still_stored : (members more : List ℕ) (stored : StoredRow) → IsStoredRow members stored → IsStoredRow (members ++ more) stored
still_stored members more stored h = record {
  start = h.start;
  end = omega (arith, h.end, length-append members more);
  few = h.few;
  size = h.size;
  table = λ n p. h.table n p ∙ ap (λ (ms : List ℕ). is_member ms p) (sym (same_members members more stored h));
  ascending = subst (AllPairs (λ m n. m < n)) (sym (same_members members more stored h)) h.ascending;
  one = λ t. ap (length {A = ℕ}) (same_members members more stored h) ∙ h.one t;
}

-- a row that is stored past the members so far
pub record IsNext (members more : List ℕ) (kind : RowKind) (stored : StoredRow) : Type 0 where
  pub kind_is : stored.kind ≡ kind
  pub start : stored.start ≡ length members
  pub end : stored.end ≡ length members + length more
  pub few : length more ≤ 256
  pub size : length stored.has ≡ 256
  pub table : kind ≢ One → (p : ℕ) → get_or stored.has p false ≡ is_member more p
  pub ascending : AllPairs (λ m n. m < n) more
  pub one : IsTrue (has_one_member kind) → length more ≡ 1

-- the next row is stored
next_stored : (members more : List ℕ) (kind : RowKind) (stored : StoredRow) → IsNext members more kind stored → IsStoredRow (members ++ more) stored
next_stored members more kind stored h =
    let e : members_of (members ++ more) stored ≡ more = range_past members more stored.start stored.end h.start h.end in
    record {
      start = omega (arith, h.start, h.end);
      end = omega (arith, h.end, length-append members more);
      few = omega (arith, h.start, h.end, h.few);
      size = h.size;
      table = λ n p. h.table (λ f. n (h.kind_is ∙ f)) p ∙ ap (λ (ms : List ℕ). is_member ms p) (sym e);
      ascending = subst (AllPairs (λ m n. m < n)) (sym e) h.ascending;
      one = λ t. ap (length {A = ℕ}) e ∙ h.one (subst (λ (k : RowKind). IsTrue (has_one_member k)) h.kind_is t);
    }

-- a row of this kind with these members
abbrev pub row_with : RowKind → List ℕ → Row
row_with kind members = record { kind = kind; members = members }

-- equal kinds and equal members make equal rows
row_same : (k l : RowKind) (xs ys : List ℕ) → k ≡ l → xs ≡ ys → row_with k xs ≡ row_with l ys
row_same k l xs ys e f = cc

-- the rows of a pool with one more
pub rows_listed : (members more : List ℕ) (rows : List StoredRow) (kind : RowKind) (stored : StoredRow) → All (IsStoredRow members) rows → IsNext members more kind stored
    → pool_rows (members ++ more) (rows ++ stored ∷ []) ≡ pool_rows members rows ++ record { kind = kind; members = more } ∷ []
rows_listed members more rows kind stored h next =
    let e : members_of (members ++ more) stored ≡ more = range_past members more stored.start stored.end next.start next.end in
    let last : row_of (members ++ more) stored ≡ row_with kind more = row_same stored.kind kind (members_of (members ++ more) stored) more next.kind_is e in
    map-append (row_of (members ++ more)) rows (stored ∷ [])
    ∙ ap (λ (r : Row). pool_rows (members ++ more) rows ++ r ∷ []) last
    ∙ ap (λ (rs : List Row). rs ++ row_with kind more ∷ []) (same_rows members more rows h)

-- a pool with one more row
pub pool_listed : (rows : List StoredRow) (members : List ℕ) (rows_room members_room new_rows_room new_members_room : ℕ) (more : List ℕ) (kind : RowKind) (stored : StoredRow)
    → IsPool rows members rows_room members_room → IsNext members more kind stored → length rows < 16384 → length members + length more ≤ 1048576 → rows_room ≤ new_rows_room → members_room ≤ new_members_room
    → IsPool (rows ++ stored ∷ []) (members ++ more) new_rows_room new_members_room
pool_listed rows members a b c d more kind stored h next few fit le_rows le_members = record {
  rows_count = omega (arith, length_push rows stored);
  members_count = omega (arith, length-append members more);
  stored = All-push (IsStoredRow (members ++ more)) rows stored (λ k x l. still_stored members more (get_or rows k x) (h.stored k x l)) (next_stored members more kind stored next);
  total = ap (sum_by (λ (r : Row). length r.members)) (rows_listed members more rows kind stored h.stored next)
      ∙ sum_by_push (λ (r : Row). length r.members) (pool_rows members rows) (record { kind = kind; members = more })
      ∙ ap (λ (n : ℕ). n + length more) h.total
      ∙ sym (length-append members more);
  rows_fit = omega (arith, h.rows_fit);
  members_fit = omega (arith, h.members_fit);
}

-- the row that is stored at a place
pub row_read : (members : List ℕ) (rows : List StoredRow) (i : ℕ) (stored : StoredRow) (r : Row) → stored ≡ get_or rows i stored → slice_get (pool_rows members rows) i ≡ Some r → row_of members stored ≡ r
row_read members rows i stored r e f =
    let source = slice_get-map_source (row_of members) rows i r f in
    let same = get_or_from_slice_get rows i source.0 stored source.1 in
    ap (row_of members) (e ∙ same) ∙ source.2

-- a point past the table is no member
pub past_table : (members : List ℕ) (rows : List StoredRow) (i p : ℕ) (stored : StoredRow) (r : Row) → All (IsStoredRow members) rows → stored ≡ get_or rows i stored
    → slice_get (pool_rows members rows) i ≡ Some r → r.kind ≢ One → 256 ≤ p → false ≡ is_member r.members p
past_table members rows i p stored r h e f n past =
    let source = slice_get-map_source (row_of members) rows i r f in
    let l = slice_get_within rows i source.0 source.1 in
    let is = row_read members rows i stored r e f in
    let k = subst (IsStoredRow members) (sym e) (h i stored l) in
    sym (get_or_past stored.has p false (omega (arith, k.size))) ∙ k.table (λ g. n (sym (ap (λ (q : Row). q.kind) is) ∙ g)) p ∙ ap (λ (q : Row). is_member q.members p) is

-- what a binary search in ascending members says
pub searched_member : (xs ms : List ℕ) (x : ℕ) (r : Result ℕ ℕ) → xs ≡ ms → AllPairs (λ m n. m < n) ms → IsBinarySearchResult (λ y. nat_cmp y x) xs r
    → MatchResult r (λ k. true ≡ is_member ms x) (λ k. false ≡ is_member ms x)
searched_member xs ms x r e h result = tell r (searched ms x r (subst (λ (ys : List ℕ). IsBinarySearchResult (λ y. nat_cmp y x) ys r) e result) rising)
  where
    rising : (i j : ℕ) → i ≤ j → j < length ms → get_or ms i 0 ≤ get_or ms j 0
    rising i j l k = elim (cases_order i j) [
      | inl same ↦ let f = ap (λ (n : ℕ). get_or ms n 0) same in omega (arith, f)
      | inr (inl below) ↦ omega (arith, h i j 0 below k)
      | inr (inr above) ↦ absurd (omega arith)
    ]

    absent : (i : ℕ) → ((k : ℕ) → k < i → get_or ms k 0 < x) → ((k : ℕ) → i ≤ k → k < length ms → x < get_or ms k 0) → All (λ m. (m == x) ≡ false) ms
    absent i below above k d l = ne_eqb (get_or ms k d) x (λ same. by_place same (cases_order k i))
      where
        default : get_or ms k d ≡ get_or ms k 0
        default = get_or_default_zero ms k d l

        by_place : get_or ms k d ≡ x → (k ≡ i) ⊎ ((k < i) ⊎ (i < k)) → ⊥
        by_place same (inl here) = omega (arith, default, above k (omega arith) l)
        by_place same (inr (inl less)) = omega (arith, default, below k less)
        by_place same (inr (inr more)) = omega (arith, default, above k (omega arith) l)

    tell : (r : Result ℕ ℕ) → MatchResult r (λ i. (i < length ms) × (get_or ms i 0 ≡ x)) (λ i. (i ≤ length ms) × ((k : ℕ) → k < i → get_or ms k 0 < x) × ((k : ℕ) → i ≤ k → k < length ms → x < get_or ms k 0))
        → MatchResult r (λ k. true ≡ is_member ms x) (λ k. false ≡ is_member ms x)
    tell (Ok i) (l, same) = sym (list_any-from_Any (λ m. m == x) ms (i, x, l, get_or_default_zero ms i x l ∙ same, eq-eqb x x refl))
    tell (Err i) (l, below, above) = sym (list_any_none (λ m. m == x) ms (absent i below above))

-- the same of the lists as they are after both were written
pub pool_after : (rows new_rows : List StoredRow) (members new_members : List ℕ) (rows_room members_room new_rows_room new_members_room : ℕ) (more : List ℕ) (kind : RowKind) (stored : StoredRow)
    → new_rows ≡ rows ++ stored ∷ [] → new_members ≡ members ++ more
    → IsPool rows members rows_room members_room → IsNext members more kind stored → length rows < 16384 → length members + length more ≤ 1048576 → rows_room ≤ new_rows_room → members_room ≤ new_members_room
    → IsPool new_rows new_members new_rows_room new_members_room
pool_after rows new_rows members new_members a b c d more kind stored e f h next few fit le_rows le_members =
    rw (e, f) (pool_listed rows members a b c d more kind stored h next few fit le_rows le_members)

-- and their rows
pub rows_after : (rows new_rows : List StoredRow) (members new_members : List ℕ) (more : List ℕ) (kind : RowKind) (stored : StoredRow)
    → new_rows ≡ rows ++ stored ∷ [] → new_members ≡ members ++ more → All (IsStoredRow members) rows → IsNext members more kind stored
    → pool_rows new_members new_rows ≡ pool_rows members rows ++ row_with kind more ∷ []
rows_after rows new_rows members new_members more kind stored e f h next = rw (e, f) (rows_listed members more rows kind stored h next)
