-- The rows that a search begins with.
use Rattle.std.proofs.Common.{◌≡◌, ◌≢◌, ℕ, suc, ◌+◌, ◌<◌, ◌≤◌, ◌⊎◌, inl, inr, Bool, true, List, [], ◌∷◌, ◌++◌, length, sum_by, slice_get, Some, Option, option_map, refl, sym, ◌∙◌, ap, subst, arith, length-append}
use Rattle.std.specs.Prelude.{IsTrue, filter}
use Rattle.std.specs.List.{enumerate_from}
use Rattle.std.proofs.lemmas.List.{append-nil, append_assoc, length-map}
use Rattle.std.proofs.lemmas.List.Sums.{sum_by-append, sum_by-cons, length-filter, count_by-le-length}
use Rattle.std.proofs.lemmas.List.FromFn.{length-enumerate_from}
use Rattle.std.proofs.lemmas.Option.{slice_get_within, slice_get-map}
use Rattle.number_laws.proofs.Keys.{slice_get-map_source}
use Rattle.number_laws.proofs.Places.{slice_get-enumerate_from}
use Rattle.cable_definitions.specs.declared.cable.Arc.{Arc}
use Rattle.cable_definitions.specs.declared.row.RowKind.{RowKind}
use Rattle.cable_definitions.specs.declared.row.RowKind.TheVariants.{Out, Inlet, Bend, One, Cut}
use Rattle.cable_definitions.specs.declared.site.Kind.{Kind}
use Rattle.cable_definitions.specs.declared.site.Point.{Point}
use Rattle.cable_definitions.specs.Site.{Site, IsValid}
use Rattle.cable_definitions.specs.Arcs.{kind_of, kind_from, is_turbine, is_bend}
use Rattle.cable_definitions.specs.Row.{Row, IsWellFormed, RightCount, InRange, RightKind, has_one_member, member_count, speaks_of}
use Rattle.cable_definitions.specs.Tree.{ProofState, empty_state, IsListed, Leads}
use Rattle.cable_definitions.specs.Core.{are_row_items, rows_of, points_where, first_rows}
use Rattle.proof_laws.specs.Decided.{HasPointRows}
use Rattle.proof_laws.proofs.Boxes.{append_left, append_right, append_either}
use Rattle.proof_laws.proofs.Lists.{one_element, some_at}
use Rattle.proof_laws.proofs.RowsHold.{row_at}
use Rattle.proof_laws.proofs.FullLemma.{row_at-formed}
use Rattle.search_laws.proofs.Picked.{filter_source, filter_keeps, enumerated}

-- ---- rows one after another
-- how many members rows have together
abbrev pub members_of : List Row → ℕ
members_of rows = sum_by (λ r. length r.members) rows

-- a fact of each row
abbrev pub AreEach : (Row → Type 0) → List Row → Type 0
AreEach P rows = (i : ℕ) (row : Row) → slice_get rows i ≡ Some row → P row

-- well-formed rows for which there is room are accepted one after another
pub rows-lead : (s : Site) (arcs : List Arc) (n : ℕ) (rows : List Row) (old : ProofState) → AreEach (IsWellFormed s arcs) rows → length old.rows + length rows ≤ 16384
    → members_of old.rows + members_of rows ≤ 1048576 → Leads s arcs n old (are_row_items rows) (record old { rows = old.rows ++ rows })
rows-lead s arcs n [] old formed few members = ap (λ (xs : List Row). record old { rows = xs }) (append-nil old.rows)
rows-lead s arcs n (row ∷ rows) old formed few members =
    let mid : ProofState = record old { rows = old.rows ++ row ∷ [] } in
    let l = length-append old.rows (row ∷ []) in
    let m = sum_by-append (λ (r : Row). length r.members) old.rows (row ∷ []) in
    let one = sum_by-cons (λ (r : Row). length r.members) row [] in
    let all = sum_by-cons (λ (r : Row). length r.members) row rows in
    let listed : IsListed s arcs old row mid = record { well_formed = formed 0 row refl; rows_count = omega (arith, l, few); members_count = omega (arith, m, one, all, members); rows = refl; nodes = refl; works = refl } in (
      mid,
      listed,
      subst (λ (xs : List Row). Leads s arcs n mid (are_row_items rows) (record old { rows = xs })) (append_assoc old.rows (row ∷ []) rows)
          (rows-lead s arcs n rows mid (λ i. formed (suc i)) (omega (arith, l, few)) (omega (arith, m, one, all, members))),
    )

-- ---- the points of a kind
-- a point whose kind passes
pub point_where : (test : Kind → Bool) (s : Site) (i p : ℕ) → slice_get (points_where test s) i ≡ Some p → (p < length s.points) × (test (kind_of s p) ≡ true)
point_where test s i p e =
    let m = slice_get-map_source (λ (q : ℕ × Point). q.0) (filter (λ (q : ℕ × Point). test q.1.kind) (enumerate_from 0 s.points)) i p e in
    let f = filter_source (λ (q : ℕ × Point). test q.1.kind) (enumerate_from 0 s.points) i m.0 m.1 in
    let k = slice_get-enumerate_from 0 s.points f.0 m.0 f.1 in
    let number : f.0 ≡ p = (let a = k.0 in let b = m.2 in omega (arith, a, b)) in
    let here : slice_get s.points p ≡ Some m.0.1 = subst (λ (j : ℕ). slice_get s.points j ≡ Some m.0.1) number k.1 in
    (slice_get_within s.points p m.0.1 here, ap (λ (o : Option Point). test (kind_from o)) here ∙ f.2)

-- each is found
pub points_found : (test : Kind → Bool) (s : Site) (p : ℕ) → p < length s.points → test (kind_of s p) ≡ true → (i : ℕ) × (slice_get (points_where test s) i ≡ Some p)
points_found test s p l h =
    let point = some_at s.points p l in
    let passes : test point.0.kind ≡ true = sym (ap (λ (o : Option Point). test (kind_from o)) point.1) ∙ h in
    let f = filter_keeps (λ (q : ℕ × Point). test q.1.kind) (enumerate_from 0 s.points) p (0 + p, point.0) (enumerated 0 s.points p point.0 point.1) passes in (
      f.0,
      slice_get-map (λ (q : ℕ × Point). q.0) (filter (λ (q : ℕ × Point). test q.1.kind) (enumerate_from 0 s.points)) f.0 ∙ ap (option_map (λ (q : ℕ × Point). q.0)) f.1 ∙ ap Some (let q : 0 + p ≡ p = omega arith in q),
    )

-- they are at most all
points_few : (test : Kind → Bool) (s : Site) → length (points_where test s) ≤ length s.points
points_few test s =
    let a = length-map (filter (λ (q : ℕ × Point). test q.1.kind) (enumerate_from 0 s.points)) (λ (q : ℕ × Point). q.0) in
    let b = length-filter (λ (q : ℕ × Point). test q.1.kind) (enumerate_from 0 s.points) in
    let c = count_by-le-length (λ (q : ℕ × Point). test q.1.kind) (enumerate_from 0 s.points) in
    let d = length-enumerate_from 0 s.points in
    omega (arith, a, b, c, d)

-- ---- their rows
-- each row of such points is well formed
rows_formed : (s : Site) (arcs : List Arc) (kind : RowKind) (test : Kind → Bool) → kind ≢ One → kind ≢ Cut → member_count s arcs kind ≡ length s.points → ((k : Kind) → speaks_of kind k ≡ test k)
    → AreEach (IsWellFormed s arcs) (rows_of kind (points_where test s))
rows_formed s arcs kind test none nor count speaks i row e =
    let m = slice_get-map_source (λ (p : ℕ). row_at kind p) (points_where test s) i row e in
    let p : ℕ = m.0 in
    let w = point_where test s i p m.1 in
    let within = w.0 in
    subst (IsWellFormed s arcs) m.2 (row_at-formed s arcs kind p none nor (omega (arith, count, within)) (speaks (kind_of s p) ∙ w.1))

-- one row for each point, with one member
rows_few : (kind : RowKind) (points : List ℕ) → (length (rows_of kind points) ≡ length points) × (members_of (rows_of kind points) ≡ length points)
rows_few kind [] = (refl, refl)
rows_few kind (p ∷ points) =
    let rest = rows_few kind points in
    let count = rest.0 in
    let members = rest.1 in
    let all = sum_by-cons (λ (r : Row). length r.members) (row_at kind p) (rows_of kind points) in
    (omega (arith, count), omega (arith, members, all))

-- each point's row stands among them
row_found : (kind : RowKind) (points : List ℕ) (i p : ℕ) → slice_get points i ≡ Some p → slice_get (rows_of kind points) i ≡ Some (row_at kind p)
row_found kind points i p e = slice_get-map (λ (q : ℕ). row_at kind q) points i ∙ ap (option_map (λ (q : ℕ). row_at kind q)) e

-- rows of one list and of another
each-append : (P : Row → Type 0) (xs ys : List Row) → AreEach P xs → AreEach P ys → AreEach P (xs ++ ys)
each-append P xs ys f g i row e = elim (append_either xs ys i row e) [ inl h ↦ f i row h | inr r ↦ g r.0 row r.2 ]

-- ---- all of them
-- the first rows are well formed
pub first_rows-formed : (s : Site) (arcs : List Arc) → AreEach (IsWellFormed s arcs) (first_rows s)
first_rows-formed s arcs =
    let outs = rows_of Out (points_where is_turbine s) in
    let inlets = rows_of Inlet (points_where (λ kind. true) s) in
    let bends = rows_of Bend (points_where is_bend s) in
    each-append (IsWellFormed s arcs) (outs ++ inlets) bends
    (each-append (IsWellFormed s arcs) outs inlets (rows_formed s arcs Out is_turbine (λ e. cc) (λ e. cc) refl (λ k. refl)) (rows_formed s arcs Inlet (λ kind. true) (λ e. cc) (λ e. cc) refl (λ k. refl)))
    (rows_formed s arcs Bend is_bend (λ e. cc) (λ e. cc) refl (λ k. refl))

-- they are few, with few members
pub first_rows-few : (s : Site) → IsValid s → (length (first_rows s) ≤ 768) × (members_of (first_rows s) ≤ 768)
first_rows-few s valid =
    let outs = rows_of Out (points_where is_turbine s) in
    let inlets = rows_of Inlet (points_where (λ kind. true) s) in
    let bends = rows_of Bend (points_where is_bend s) in
    let a = rows_few Out (points_where is_turbine s) in
    let b = rows_few Inlet (points_where (λ kind. true) s) in
    let c = rows_few Bend (points_where is_bend s) in
    let a0 = a.0 in
    let a1 = a.1 in
    let b0 = b.0 in
    let b1 = b.1 in
    let c0 = c.0 in
    let c1 = c.1 in
    let x = points_few is_turbine s in
    let y = points_few (λ kind. true) s in
    let z = points_few is_bend s in
    let few = valid.points_count in
    let l = length-append (outs ++ inlets) bends in
    let m = length-append outs inlets in
    let t = sum_by-append (λ (r : Row). length r.members) (outs ++ inlets) bends in
    let u = sum_by-append (λ (r : Row). length r.members) outs inlets in
    (omega (arith, a0, b0, c0, x, y, z, few, l, m), omega (arith, a1, b1, c1, x, y, z, few, t, u))

-- the row is listed
abbrev IsIn : List Row → Row → Type 0
IsIn rows row = (r : ℕ) × (slice_get rows r ≡ Some row)

-- a well-formed row of a kind with one member is the row of its point
in-kind : (s : Site) (arcs : List Arc) (kind : RowKind) (test : Kind → Bool) (rows : List Row) → IsTrue (has_one_member kind) → member_count s arcs kind ≡ length s.points → ((k : Kind) → speaks_of kind k ≡ test k)
    → ((i p : ℕ) → slice_get (points_where test s) i ≡ Some p → IsIn rows (row_at kind p)) → (row : Row) → row.kind ≡ kind → IsWellFormed s arcs row → IsIn rows row
in-kind s arcs kind test rows single count speaks listed row e w =
    let one = one_element row.members ((w RightCount 0 0).0 (ap has_one_member e ∙ single)) in
    let p : ℕ = one.0 in
    let first : slice_get row.members 0 ≡ Some p = ap (λ (xs : List ℕ). slice_get xs 0) one.1 in
    let within : p < member_count s arcs row.kind = w InRange 0 0 p first in
    let numbers : member_count s arcs row.kind ≡ length s.points = ap (member_count s arcs) e ∙ count in
    let spoken : speaks_of row.kind (kind_of s p) ≡ true = w RightKind 0 0 p first in
    let passes : test (kind_of s p) ≡ true = sym (speaks (kind_of s p)) ∙ sym (ap (λ (k : RowKind). speaks_of k (kind_of s p)) e) ∙ spoken in
    let same : row ≡ row_at kind p = λ i. record { kind = e i; members = one.1 i } in
    let at = points_found test s p (omega (arith, within, numbers)) passes in
    subst (IsIn rows) (sym same) (listed at.0 p at.1)

-- every row of a point is one of the first rows
pub first_rows-all : (s : Site) (arcs : List Arc) → HasPointRows s arcs (first_rows s)
first_rows-all s arcs row kind w = by_kind kind
  where
    outs : List Row
    outs = rows_of Out (points_where is_turbine s)

    inlets : List Row
    inlets = rows_of Inlet (points_where (λ kind. true) s)

    bends : List Row
    bends = rows_of Bend (points_where is_bend s)

    by_kind : (row.kind ≡ Out) ⊎ ((row.kind ≡ Inlet) ⊎ (row.kind ≡ Bend)) → IsIn (first_rows s) row
    by_kind (inl e) =
        in-kind s arcs Out is_turbine (first_rows s) refl refl (λ k. refl)
        (λ i p f. (i, append_left (outs ++ inlets) bends i (row_at Out p) (append_left outs inlets i (row_at Out p) (row_found Out (points_where is_turbine s) i p f)))) row e w
    by_kind (inr (inl e)) =
        in-kind s arcs Inlet (λ kind. true) (first_rows s) refl refl (λ k. refl)
        (λ i p f. (length outs + i, append_left (outs ++ inlets) bends (length outs + i) (row_at Inlet p) (append_right outs inlets i ∙ row_found Inlet (points_where (λ kind. true) s) i p f))) row e w
    by_kind (inr (inr e)) =
        in-kind s arcs Bend is_bend (first_rows s) refl refl (λ k. refl)
        (λ i p f. (length (outs ++ inlets) + i, append_right (outs ++ inlets) bends i ∙ row_found Bend (points_where is_bend s) i p f)) row e w

-- and they are accepted first of all
pub first_rows-accepted : (s : Site) (arcs : List Arc) (n : ℕ) → IsValid s → Leads s arcs n empty_state (are_row_items (first_rows s)) (record empty_state { rows = first_rows s })
first_rows-accepted s arcs n valid =
    let few = first_rows-few s valid in
    let a = few.0 in
    let b = few.1 in
    rows-lead s arcs n (first_rows s) empty_state (first_rows-formed s arcs) (omega (arith, a)) (omega (arith, b))
