-- Rows of single points, listed one after another.
use Rattle.std.proofs.Common.{◌≡◌, ℕ, zero, suc, ◌+◌, ◌<◌, ◌≤◌, inl, inr, cond, Bool, true, false, List, [], ◌∷◌, ◌++◌, length, map, slice_get, Some, Option, Result, Ok, Err, option_map, take, get_or, refl, sym, ◌∙◌, ap, subst, arith, length-append, append_assoc}
use Rattle.std.specs.Prelude.{IsTrue, IsOk, OnOk, OnErr, filter, sum_by}
use Rattle.std.specs.List.{enumerate_from}
use Rattle.std.proofs.lemmas.Bool.{cases_Bool}
use Rattle.std.proofs.lemmas.List.{append-nil, map-append, take_more, length-take-le}
use Rattle.std.proofs.lemmas.List.Sums.{sum_by-append}
use Rattle.std.proofs.lemmas.Option.{slice_get-map, slice_get-get_or, get_or_from_slice_get}
use Rattle.cable_definitions.specs.declared.cable.Arc.{Arc}
use Rattle.cable_definitions.specs.declared.row.RowKind.{RowKind}
use Rattle.cable_definitions.specs.declared.row.RowKind.TheVariants.{Out, Flow, Inlet, Bend, Power, One, Cut}
use Rattle.cable_definitions.specs.declared.site.Kind.{Kind}
use Rattle.cable_definitions.specs.declared.site.Point.{Point}
use Rattle.cable_definitions.specs.Site.{Site}
use Rattle.cable_definitions.specs.Arcs.{kind_of, kind_from, is_turbine, is_bend}
use Rattle.cable_definitions.specs.Row.{Row, IsWellFormed, Meets, SomeMember, RightCount, InRange, Ascending, RightKind, NoSubstation, Incompatible, Question, has_one_member, member_count, speaks_of}
use Rattle.cable_definitions.specs.Tree.{Item, RowItem, ProofState, Leads}
use Rattle.cable_definitions.specs.Core.{are_row_items, rows_of, points_where, first_rows}
use Rattle.proof_laws.proofs.Boxes.{append_left, append_right}
use Rattle.proof_laws.proofs.Costs.{enumerate_from-at}
use Rattle.proof_laws.proofs.Lists.{one_element}
use Rattle.proof_laws.specs.Decided.{HasPointRows}
use Rattle.search_progress.specs.Lists.{Lists, AreFew, point_where}

-- the row of a kind on one point
abbrev pub point_row : RowKind → ℕ → Row
point_row kind p = record { kind = kind; members = p ∷ [] }

-- ---- rows that are listed
-- items and then others
pub leads-then : (s : Site) (arcs : List Arc) (n : ℕ) (old mid new : ProofState) (xs ys : List Item) → Leads s arcs n old xs mid → Leads s arcs n mid ys new → Leads s arcs n old (xs ++ ys) new
leads-then s arcs n old mid new [] ys p q = subst (λ k. Leads s arcs n k ys new) p q
leads-then s arcs n old mid new (x ∷ xs) ys p q = (p.0, p.1, leads-then s arcs n p.0 mid new xs ys p.2 q)

-- no row
pub lists-none : (s : Site) (arcs : List Arc) (rows : List Row) → Lists s arcs rows rows
lists-none s arcs rows = record {
  rows = [];
  behind = sym (append-nil rows);
  accepted = λ n kept e. λ i. record { rows = sym e i; nodes = kept.nodes; works = kept.works };
}

-- rows and then others
pub lists-then : (s : Site) (arcs : List Arc) (old mid new : List Row) → Lists s arcs old mid → Lists s arcs mid new → Lists s arcs old new
lists-then s arcs old mid new p q = record {
  rows = p.rows ++ q.rows;
  behind = q.behind ∙ ap (λ (xs : List Row). xs ++ q.rows) p.behind ∙ append_assoc old p.rows q.rows;
  accepted = λ n kept e.
      subst (λ (items : List Item). Leads s arcs n kept items (record kept { rows = new })) (sym (map-append RowItem p.rows q.rows))
      (leads-then s arcs n kept (record kept { rows = mid }) (record kept { rows = new }) (are_row_items p.rows) (are_row_items q.rows) (p.accepted n kept e) (q.accepted n (record kept { rows = mid }) refl));
}

-- one row
pub lists-row : (s : Site) (arcs : List Arc) (old new : List Row) (row : Row) → IsWellFormed s arcs row → new ≡ old ++ row ∷ [] → length new ≤ 16384 → sum_by (λ (r : Row). length r.members) new ≤ 1048576
    → Lists s arcs old new
lists-row s arcs old new row formed e rows_count members_count = record {
  rows = row ∷ [];
  behind = e;
  accepted = λ n kept same. (
    record kept { rows = new },
    record {
      well_formed = formed;
      rows_count = rows_count;
      members_count = members_count;
      rows = e ∙ ap (λ (xs : List Row). xs ++ row ∷ []) (sym same);
      nodes = refl;
      works = refl;
    },
    refl,
  );
}

-- a greater number
pub few-most : (rows : List Row) (m k : ℕ) → AreFew rows m → m ≤ k → AreFew rows k
few-most rows m k f l =
    let a = f.rows_count in
    let b = f.members_count in
    record { rows_count = omega (arith, a); members_count = omega (arith, b) }

-- the row of a point, where there was room
lists-added : (s : Site) (arcs : List Arc) (old new : List Row) (kind : RowKind) (p : ℕ) → IsWellFormed s arcs (point_row kind p) → new ≡ old ++ point_row kind p ∷ [] → length old < 16384
    → sum_by (λ (r : Row). length r.members) old + 1 ≤ 1048576 → Lists s arcs old new
lists-added s arcs old new kind p formed e rows_count members_count =
    let l = ap length e in
    let t = ap (sum_by (λ (r : Row). length r.members)) e in
    let m = length-append old (point_row kind p ∷ []) in
    let u = sum_by-append (λ (r : Row). length r.members) old (point_row kind p ∷ []) in
    lists-row s arcs old new (point_row kind p) formed e (omega (arith, l, m, rows_count)) (omega (arith, t, u, members_count))

-- the row of a point, as far as there is room
pub lists-tried : {E : Type 0} (s : Site) (arcs : List Arc) (old new : List Row) (kind : RowKind) (p : ℕ) → (r : Result ℕ E) → IsWellFormed s arcs (point_row kind p)
    → (IsOk r → (length old < 16384) × (sum_by (λ (row : Row). length row.members) old + 1 ≤ 1048576)) → OnOk r (new ≡ old ++ point_row kind p ∷ []) → OnErr r (new ≡ old) → Lists s arcs old new
lists-tried s arcs old new kind p (Ok n) formed room listed full = lists-added s arcs old new kind p formed listed (room refl).0 (room refl).1
lists-tried s arcs old new kind p (Err e) formed room listed full = subst (Lists s arcs old) (sym full) (lists-none s arcs old)

-- there are at most as many more
pub few-tried : {E : Type 0} (old new : List Row) (kind : RowKind) (p : ℕ) → (r : Result ℕ E) → OnOk r (new ≡ old ++ point_row kind p ∷ []) → OnErr r (new ≡ old) → (most : ℕ) → AreFew old most → AreFew new (most + 1)
few-tried old new kind p (Ok n) listed full most few =
    let l = ap length listed in
    let t = ap (sum_by (λ (r : Row). length r.members)) listed in
    let m = length-append old (point_row kind p ∷ []) in
    let u = sum_by-append (λ (r : Row). length r.members) old (point_row kind p ∷ []) in
    let a = few.rows_count in
    let b = few.members_count in
    record { rows_count = omega (arith, l, m, a); members_count = omega (arith, t, u, b) }
few-tried old new kind p (Err e) listed full most few = subst (λ (rows : List Row). AreFew rows (most + 1)) (sym full) (few-most old most (most + 1) few (omega arith))

-- where there is room, the row is listed
pub room-tried : {E : Type 0} (old new : List Row) (kind : RowKind) (p : ℕ) → (r : Result ℕ E)
    → ((length old < 16384) × (sum_by (λ (row : Row). length row.members) old + 1 ≤ 1048576) → IsOk r) → OnOk r (new ≡ old ++ point_row kind p ∷ []) → AreFew old 1280 → new ≡ old ++ point_row kind p ∷ []
room-tried old new kind p (Ok n) room listed few = listed
room-tried old new kind p (Err e) room listed few =
    let a = few.rows_count in
    let b = few.members_count in
    absurd (let is = room (omega (arith, a), omega (arith, b)) in cc)

-- what was listed is listed still
pub rows-still : (s : Site) (arcs : List Arc) (old new : List Row) → Lists s arcs old new → HasPointRows s arcs old → HasPointRows s arcs new
rows-still s arcs old new lists h row kind formed =
    let there = h row kind formed in (
      there.0,
      subst (λ (rows : List Row). slice_get rows there.0 ≡ Some row) (sym lists.behind) (append_left old lists.rows there.0 row there.1),
    )

-- no row
pub few-none : (m : ℕ) → AreFew [] m
few-none m = record { rows_count = omega arith; members_count = omega arith }

-- ---- the row of a point
-- a row of one member has points as members
single-count : (s : Site) (arcs : List Arc) (kind : RowKind) → IsTrue (has_one_member kind) → member_count s arcs kind ≡ length s.points
single-count s arcs Out h = refl
single-count s arcs Flow h = refl
single-count s arcs Inlet h = refl
single-count s arcs Bend h = refl
single-count s arcs Power h = refl
single-count s arcs One h = absurd (cc)
single-count s arcs Cut h = absurd (cc)

-- the only member
only : (p i m : ℕ) → slice_get (p ∷ []) i ≡ Some m → p ≡ m
only p zero m e = cc
only p (suc i) m e = absurd (cc)

-- there is no second one
no_second : (p i n : ℕ) → slice_get (p ∷ []) (i + 1) ≡ Some n → ⊥
no_second p i n e =
    let f : slice_get (p ∷ []) (suc i) ≡ Some n = subst (λ (k : ℕ). slice_get (p ∷ []) k ≡ Some n) {y = suc i} (omega arith) e in
    cc

-- a row of one member is well formed on a point of which it speaks
pub point-formed : (s : Site) (arcs : List Arc) (kind : RowKind) (p : ℕ) → IsTrue (has_one_member kind) → p < length s.points → IsTrue (speaks_of kind (kind_of s p)) → IsWellFormed s arcs (point_row kind p)
point-formed s arcs kind p single within speaks question i j = by_question question
  where
    by_question : (question : Question) → Meets s arcs kind (p ∷ []) question i j
    by_question SomeMember = λ e. absurd (cc)
    by_question RightCount = (λ h. refl, omega arith)
    by_question InRange = λ m e. (let same = only p i m e in let count = single-count s arcs kind single in omega (arith, same, count, within))
    by_question Ascending = λ m n e f. absurd (no_second p i n f)
    by_question RightKind = λ m e. subst (λ (q : ℕ). IsTrue (speaks_of kind (kind_of s q))) (only p i m e) speaks
    by_question NoSubstation = λ m e is_cut. absurd (let f : has_one_member Cut ≡ true = ap has_one_member (sym is_cut) ∙ single in cc)
    by_question Incompatible = λ m n a b is_one. absurd (let f : has_one_member One ≡ true = ap has_one_member (sym is_one) ∙ single in cc)

-- ---- the points that pass a test
-- the numbers of the points whose kind passes, counted from k
abbrev pub points_from : (Kind → Bool) → ℕ → List Point → List ℕ
points_from test k xs = map (λ q. q.0) (filter (λ q. test q.1.kind) (enumerate_from k xs))

-- one more point
points-push : (test : Kind → Bool) (k : ℕ) (xs : List Point) (x : Point) → points_from test k (xs ++ x ∷ []) ≡ points_from test k xs ++ cond (test x.kind) ((k + length xs) ∷ []) []
points-push test k [] x = elim (cases_Bool (test x.kind)) [
  | inl e ↦ rw e (ap (λ (n : ℕ). n ∷ []) (omega arith))
  | inr e ↦ rw e refl
]
points-push test k (y ∷ ys) x =
    let later = points-push test (k + 1) ys x in
    let place : k + 1 + length ys ≡ k + suc (length ys) = omega arith in
    let goes_on = later ∙ ap (λ (n : ℕ). points_from test (k + 1) ys ++ cond (test x.kind) (n ∷ []) []) place in
    elim (cases_Bool (test y.kind)) [
      | inl e ↦ rw e (ap (λ (zs : List ℕ). k ∷ zs) goes_on)
      | inr e ↦ rw e goes_on
    ]

-- an element in each place of a list
at-place : {X : Type 0} → (xs : List X) (i : ℕ) → i < length xs → (x : X) × (slice_get xs i ≡ Some x)
at-place [] i l = absurd (omega arith)
at-place (y ∷ ys) zero l = (y, refl)
at-place (y ∷ ys) (suc i) l = at-place ys i (omega arith)

-- one number or none
abbrev either_list : Bool → ℕ → List ℕ
either_list b i = cond b (i ∷ []) []

-- the rows of one more point
pub rows-more : (s : Site) (kind : RowKind) (i : ℕ) (first old new : List Row) → i < length s.points → old ≡ first ++ rows_of kind (points_from (speaks_of kind) 0 (take i s.points))
    → new ≡ old ++ rows_of kind (point_where (speaks_of kind) s i) → new ≡ first ++ rows_of kind (points_from (speaks_of kind) 0 (take (i + 1) s.points))
rows-more s kind i first old new within e f =
    let at = at-place s.points i within in
    let x = at.0 in
    let grown : take (i + 1) s.points ≡ take i s.points ++ x ∷ [] = take_more s.points i x within ∙ ap (λ (y : Point). take i s.points ++ y ∷ []) (get_or_from_slice_get s.points i x x at.1) in
    let place : 0 + length (take i s.points) ≡ i = (let l = length-take-le i s.points (omega (arith, within)) in omega (arith, l)) in
    let here : cond (speaks_of kind x.kind) ((0 + length (take i s.points)) ∷ []) [] ≡ point_where (speaks_of kind) s i =
    ap (either_list (speaks_of kind x.kind)) place ∙ ap (λ (k : Kind). either_list (speaks_of kind k) i) (sym (ap kind_from at.1))
    in
    let points : points_from (speaks_of kind) 0 (take (i + 1) s.points) ≡ points_from (speaks_of kind) 0 (take i s.points) ++ point_where (speaks_of kind) s i =
    ap (points_from (speaks_of kind) 0) grown ∙ points-push (speaks_of kind) 0 (take i s.points) x ∙ ap (λ (zs : List ℕ). points_from (speaks_of kind) 0 (take i s.points) ++ zs) here
    in
    f ∙ ap (λ (zs : List Row). zs ++ rows_of kind (point_where (speaks_of kind) s i)) e ∙ append_assoc first (rows_of kind (points_from (speaks_of kind) 0 (take i s.points))) (rows_of kind (point_where (speaks_of kind) s i))
    ∙ ap (λ (zs : List Row). first ++ zs) (sym (map-append (point_row kind) (points_from (speaks_of kind) 0 (take i s.points)) (point_where (speaks_of kind) s i)))
    ∙ ap (λ (zs : List ℕ). first ++ rows_of kind zs) (sym points)

-- the row of a point of which rows of the kind speak, or none
pub rows-here : (s : Site) (kind : RowKind) (p : ℕ) (b : Bool) → speaks_of kind (kind_of s p) ≡ b → (old new : List Row) → new ≡ old ++ cond b (point_row kind p ∷ []) [] → new ≡ old ++ rows_of kind (point_where (speaks_of kind) s p)
rows-here s kind p true e old new f = f ∙ ap (λ (c : Bool). old ++ rows_of kind (cond c (p ∷ []) [])) (sym e)
rows-here s kind p false e old new f = f ∙ ap (λ (c : Bool). old ++ rows_of kind (cond c (p ∷ []) [])) (sym e)

-- whether rows of the kind speak of the point that was read
pub kind-read : (s : Site) (kind : RowKind) (p : ℕ) (points : List Point) (x : Point) (b : Bool) → points ≡ s.points → p < length s.points → speaks_of kind (get_or points p x).kind ≡ b
    → speaks_of kind (kind_of s p) ≡ b
kind-read s kind p points x b e within h =
    let at : slice_get s.points p ≡ Some (get_or points p x) = slice_get-get_or s.points p x within ∙ ap (λ (xs : List Point). Some (get_or xs p x)) (sym e) in
    ap (speaks_of kind) (ap kind_from at) ∙ h

-- ---- the first rows
-- what passes stands in the filtered list
kept-place : {X : Type 0} → (test : X → Bool) (xs : List X) (i : ℕ) (x : X) → slice_get xs i ≡ Some x → test x ≡ true → (j : ℕ) × (slice_get (filter test xs) j ≡ Some x)
kept-place test [] i x e h = absurd (cc)
kept-place test (y ∷ ys) zero x e h =
    let same : y ≡ x = cc in
    let g : test y ≡ true = ap test same ∙ h in
    rw g (0, e)
kept-place test (y ∷ ys) (suc i) x e h =
    let later = kept-place test ys i x e h in
    elim (cases_Bool (test y)) [
      | inl g ↦ rw g (suc later.0, later.1)
      | inr g ↦ rw g later
    ]

-- a point with a number
abbrev numbered_by : Point → ℕ → Option (ℕ × Point)
numbered_by x n = Some (n, x)

-- the row of a point of which rows of the kind speak stands among those rows
row-place : (s : Site) (kind : RowKind) (p : ℕ) → p < length s.points → speaks_of kind (kind_of s p) ≡ true → (r : ℕ) × (slice_get (rows_of kind (points_where (speaks_of kind) s)) r ≡ Some (point_row kind p))
row-place s kind p within h =
    let at = at-place s.points p within in
    let x = at.0 in
    let numbered : slice_get (enumerate_from 0 s.points) p ≡ Some (p, x) = enumerate_from-at s.points 0 p x at.1 ∙ ap (numbered_by x) (let q : 0 + p ≡ p = omega arith in q) in
    let passes : speaks_of kind x.kind ≡ true = ap (speaks_of kind) (sym (ap kind_from at.1)) ∙ h in
    let there = kept-place (λ (q : ℕ × Point). speaks_of kind q.1.kind) (enumerate_from 0 s.points) p (p, x) numbered passes in
    let kept = filter (λ (q : ℕ × Point). speaks_of kind q.1.kind) (enumerate_from 0 s.points) in
    let number : slice_get (map (λ (q : ℕ × Point). q.0) kept) there.0 ≡ Some p = slice_get-map (λ (q : ℕ × Point). q.0) kept there.0 ∙ ap (option_map (λ (q : ℕ × Point). q.0)) there.1 in
    (there.0, slice_get-map (point_row kind) (points_where (speaks_of kind) s) there.0 ∙ ap (option_map (point_row kind)) number)

-- each well-formed row of a kind stands among them
kind-place : (s : Site) (arcs : List Arc) (kind : RowKind) → IsTrue (has_one_member kind) → (row : Row) → row.kind ≡ kind → IsWellFormed s arcs row
    → (r : ℕ) × (slice_get (rows_of kind (points_where (speaks_of kind) s)) r ≡ Some row)
kind-place s arcs kind single row e w =
    let one = one_element row.members ((w RightCount 0 0).0 (ap has_one_member e ∙ single)) in
    let first : slice_get row.members 0 ≡ Some one.0 = ap (λ (xs : List ℕ). slice_get xs 0) one.1 in
    let within : one.0 < member_count s arcs row.kind = w InRange 0 0 one.0 first in
    let numbers : member_count s arcs row.kind ≡ length s.points = ap (member_count s arcs) e ∙ single-count s arcs kind single in
    let speaks : speaks_of kind (kind_of s one.0) ≡ true = ap (λ (k : RowKind). speaks_of k (kind_of s one.0)) (sym e) ∙ w RightKind 0 0 one.0 first in
    let same : row ≡ point_row kind one.0 = λ i. record { kind = e i; members = one.1 i } in
    let there = row-place s kind one.0 (omega (arith, within, numbers)) speaks in
    (there.0, there.1 ∙ ap (λ (x : Row). Some x) (sym same))

-- the first rows have all rows on the cables of single points
pub first-listed : (s : Site) (arcs : List Arc) → HasPointRows s arcs (first_rows s)
first-listed s arcs row (inl e) w =
    let there = kind-place s arcs Out refl row e w in
    let out = rows_of Out (points_where is_turbine s) in
    let inlet = rows_of Inlet (points_where (λ kind. true) s) in
    let bend = rows_of Bend (points_where is_bend s) in
    (there.0, append_left (out ++ inlet) bend there.0 row (append_left out inlet there.0 row there.1))
first-listed s arcs row (inr (inl e)) w =
    let there = kind-place s arcs Inlet refl row e w in
    let out = rows_of Out (points_where is_turbine s) in
    let inlet = rows_of Inlet (points_where (λ kind. true) s) in
    let bend = rows_of Bend (points_where is_bend s) in
    (length out + there.0, append_left (out ++ inlet) bend (length out + there.0) row (append_right out inlet there.0 ∙ there.1))
first-listed s arcs row (inr (inr e)) w =
    let there = kind-place s arcs Bend refl row e w in
    let out = rows_of Out (points_where is_turbine s) in
    let inlet = rows_of Inlet (points_where (λ kind. true) s) in
    let bend = rows_of Bend (points_where is_bend s) in
    (length (out ++ inlet) + there.0, append_right (out ++ inlet) bend there.0 ∙ there.1)

-- the three parts of the first rows
pub first-whole : (s : Site) (empty out inlet bend : List Row) → empty ≡ [] → out ≡ empty ++ rows_of Out (points_where is_turbine s) → inlet ≡ out ++ rows_of Inlet (points_where (λ kind. true) s)
    → bend ≡ inlet ++ rows_of Bend (points_where is_bend s) → bend ≡ first_rows s
first-whole s empty out inlet bend e f g h =
    let first = rows_of Out (points_where is_turbine s) in
    let second = rows_of Inlet (points_where (λ kind. true) s) in
    let third = rows_of Bend (points_where is_bend s) in
    h ∙ ap (λ (zs : List Row). zs ++ third) (g ∙ ap (λ (zs : List Row). zs ++ second) (f ∙ ap (λ (zs : List Row). zs ++ first) e))
