-- For callers too: what weights count by the ends of arcs, and by the weights on other rows.
use Rattle.std.proofs.Common.{◌≡◌, ◌≢◌, ℕ, zero, suc, ◌+◌, ◌*◌, ◌^◌, ◌<◌, ◌≤◌, inl, inr, ℤ, pos, negsuc, neg_ℤ, ◌+ℤ◌, ◌-ℤ◌, ◌*ℤ◌, unsigned_abs, cond, Bool, true, false, List, [], ◌∷◌, length, get_or, set, take, slice_get, Option, Some, None, to_z, of_z, refl, ap, sym, ◌∙◌, subst, arith}
use Rattle.std.specs.Prelude.{AllPairs, replicate, ◌||◌, ◌==◌}
use Rattle.std.specs.Int.{w64, w128}
use Rattle.std.proofs.lemmas.Bool.Decides.{eqb_tells}
use Rattle.std.proofs.lemmas.Int.{ints, unsigned_abs-mul, to_z-of_z}
use Rattle.std.proofs.lemmas.Nat.{mul-le}
use Rattle.std.proofs.lemmas.List.{take_more, take_all, length-take-le, get_or-take, get_or-set_same, get_or-set_other}
use Rattle.std.proofs.lemmas.List.Folds.{list_any-append}
use Rattle.std.proofs.lemmas.Option.{slice_get_within, get_or_from_slice_get}
use Rattle.cable_definitions.specs.declared.row.RowKind.{RowKind}
use Rattle.cable_definitions.specs.declared.row.RowKind.TheVariants.{Out, Flow, Inlet, Bend, Power, One, Cut}
use Rattle.cable_definitions.specs.Row.{Row, is_member, one_if, on_use, on_load}
use Rattle.cable_definitions.specs.Choice.{AreLawful, at_row, sum_weighted}
use Rattle.number_laws.proofs.Ring.{var, nat, plus, times, same_value}
use Rattle.number_laws.proofs.Sums.{sum_int-cons, sum_int-partial}
use Rattle.layout_laws.proofs.Typing.{all-at}
use Rattle.proof_laws.proofs.Lists.{list_any-place, true_or_false, false_from}
use Rattle.cable_rows.proofs.Weighing.{weighted_more}
use Rattle.cable_rows.specs.declared.sums.Part.{Part}
use Rattle.cable_rows.specs.declared.sums.Part.TheVariants.{UseFrom, UseTo, LoadFrom, LoadTo}
use Rattle.cable_rows.specs.declared.sums.PointSums.{PointSums}
use Rattle.cable_rows.specs.Sums.{sign, part_of, is_set_kind, row_is, sets_of, IsTable, ArePointSums, AreSmallSums}

-- ---- what one row counts by one end
sign_small : (part : Part) (kind : RowKind) → unsigned_abs (sign part kind) ≤ 1
sign_small = grind arith

if_small : (b : Bool) → unsigned_abs (one_if b) ≤ 1
if_small = grind arith

pub part_small : (part : Part) (p : ℕ) (row : Row) → unsigned_abs (part_of part p row) ≤ 1
part_small part p row =
    let a = sign_small part row.kind in
    let b = if_small (is_member row.members p) in
    let m = mul-le (unsigned_abs (sign part row.kind)) (unsigned_abs (one_if (is_member row.members p))) 1 1 a b in
    omega (arith, m, unsigned_abs-mul (sign part row.kind) (one_if (is_member row.members p)))

-- a row that counts by more than one end counts nothing by one
set_nothing : (part : Part) (kind : RowKind) → is_set_kind kind ≡ true → sign part kind ≡ pos 0
set_nothing = grind arith

pub set_parts : (part : Part) (p : ℕ) (row : Row) → is_set_kind row.kind ≡ true → part_of part p row ≡ pos 0
set_parts part p row e = ap (λ (z : ℤ). z *ℤ one_if (is_member row.members p)) (set_nothing part row.kind e) ∙ same_value (times (nat 0) (var (one_if (is_member row.members p)))) (nat 0) (omega arith)

-- another row counts by its two ends alone
by_start : (b c : Bool) → one_if b ≡ pos 1 *ℤ one_if b +ℤ pos 0 *ℤ one_if c
by_start = grind arith

by_end : (b c : Bool) → neg_ℤ (one_if c) ≡ pos 0 *ℤ one_if b +ℤ negsuc 0 *ℤ one_if c
by_end = grind arith

by_both : (b c : Bool) → one_if b -ℤ one_if c ≡ pos 1 *ℤ one_if b +ℤ negsuc 0 *ℤ one_if c
by_both = grind arith

by_none : (b c : Bool) → pos 0 ≡ pos 0 *ℤ one_if b +ℤ pos 0 *ℤ one_if c
by_none = grind arith

use_by_kind : (kind : RowKind) (members : List ℕ) (a p q : ℕ) → is_set_kind kind ≡ false → on_use kind members a p q ≡ sign UseFrom kind *ℤ one_if (is_member members p) +ℤ sign UseTo kind *ℤ one_if (is_member members q)
use_by_kind Out members a p q e = by_start (is_member members p) (is_member members q)
use_by_kind Flow members a p q e = by_none (is_member members p) (is_member members q)
use_by_kind Inlet members a p q e = by_end (is_member members p) (is_member members q)
use_by_kind Bend members a p q e = by_both (is_member members p) (is_member members q)
use_by_kind Power members a p q e = by_none (is_member members p) (is_member members q)
use_by_kind One members a p q e = absurd (cc)
use_by_kind Cut members a p q e = absurd (cc)

load_by_kind : (kind : RowKind) (members : List ℕ) (p q : ℕ) → is_set_kind kind ≡ false → on_load kind members p q ≡ sign LoadFrom kind *ℤ one_if (is_member members p) +ℤ sign LoadTo kind *ℤ one_if (is_member members q)
load_by_kind Out members p q e = by_none (is_member members p) (is_member members q)
load_by_kind Flow members p q e = by_both (is_member members p) (is_member members q)
load_by_kind Inlet members p q e = by_none (is_member members p) (is_member members q)
load_by_kind Bend members p q e = by_none (is_member members p) (is_member members q)
load_by_kind Power members p q e = by_end (is_member members p) (is_member members q)
load_by_kind One members p q e = absurd (cc)
load_by_kind Cut members p q e = absurd (cc)

-- ---- the weighted sums
nothing : (z : ℤ) → z *ℤ pos 0 ≡ pos 0
nothing z = same_value (times (var z) (nat 0)) (nat 0) (omega arith)

-- a weighted sum is that of two parts and that over the rows that have none
split_sum : (f g h : Row → ℤ) (rows : List Row) (ws : List (ℕ × ℤ)) → ((row : Row) → is_set_kind row.kind ≡ false → f row ≡ g row +ℤ h row)
    → ((row : Row) → is_set_kind row.kind ≡ true → (g row ≡ pos 0) × (h row ≡ pos 0))
    → sum_weighted f rows ws ≡ (sum_weighted g rows ws +ℤ sum_weighted h rows ws) +ℤ sum_weighted f rows (sets_of rows ws)
split_sum f g h rows [] parts none = refl
split_sum f g h rows (w ∷ ws) parts none =
    let k = split_sum f g h rows ws parts none in
    let p = sum_int-cons (λ (v : ℕ × ℤ). v.1 *ℤ at_row f (slice_get rows v.0)) w ws in
    let q = sum_int-cons (λ (v : ℕ × ℤ). v.1 *ℤ at_row g (slice_get rows v.0)) w ws in
    let r = sum_int-cons (λ (v : ℕ × ℤ). v.1 *ℤ at_row h (slice_get rows v.0)) w ws in
    elim (true_or_false (row_is (λ (row : Row). is_set_kind row.kind) (slice_get rows w.0))) [
      | inl t ↦
          let m = set_row f g h (slice_get rows w.0) none t in
          let x : sum_weighted f rows (sets_of rows (w ∷ ws)) ≡ w.1 *ℤ at_row f (slice_get rows w.0) +ℤ sum_weighted f rows (sets_of rows ws) =
          ap (sum_weighted f rows) (kept w (sets_of rows ws) (row_is (λ (row : Row). is_set_kind row.kind) (slice_get rows w.0)) t) ∙ sum_int-cons (λ (v : ℕ × ℤ). v.1 *ℤ at_row f (slice_get rows v.0)) w (sets_of rows ws) in
          let y = ap (λ (z : ℤ). w.1 *ℤ z) m.0 ∙ nothing w.1 in
          let z = ap (λ (z : ℤ). w.1 *ℤ z) m.1 ∙ nothing w.1 in
          omega (arith, ints, k, p, q, r, x, y, z)
      | inr t ↦
          let m = other_row f g h (slice_get rows w.0) parts t in
          let x : sum_weighted f rows (sets_of rows (w ∷ ws)) ≡ sum_weighted f rows (sets_of rows ws) = ap (sum_weighted f rows) (left_out w (sets_of rows ws) (row_is (λ (row : Row). is_set_kind row.kind) (slice_get rows w.0)) t) in
          let y = ap (λ (z : ℤ). w.1 *ℤ z) m ∙ apart w.1 (at_row g (slice_get rows w.0)) (at_row h (slice_get rows w.0)) in
          omega (arith, ints, k, p, q, r, x, y)
    ]
  where
    kept : (v : ℕ × ℤ) (vs : List (ℕ × ℤ)) (b : Bool) → b ≡ true → cond b (v ∷ vs) vs ≡ v ∷ vs
    kept v vs b e = ap (λ (c : Bool). cond c (v ∷ vs) vs) e

    left_out : (v : ℕ × ℤ) (vs : List (ℕ × ℤ)) (b : Bool) → b ≡ false → cond b (v ∷ vs) vs ≡ vs
    left_out v vs b e = ap (λ (c : Bool). cond c (v ∷ vs) vs) e

    apart : (x y z : ℤ) → x *ℤ (y +ℤ z) ≡ x *ℤ y +ℤ x *ℤ z
    apart x y z = same_value (times (var x) (plus (var y) (var z))) (plus (times (var x) (var y)) (times (var x) (var z))) (omega arith)

    set_row : (f g h : Row → ℤ) (o : Option Row) → ((row : Row) → is_set_kind row.kind ≡ true → (g row ≡ pos 0) × (h row ≡ pos 0)) → row_is (λ (row : Row). is_set_kind row.kind) o ≡ true → (at_row g o ≡ pos 0) × (at_row h o ≡ pos 0)
    set_row f g h None n e = (refl, refl)
    set_row f g h (Some row) n e = n row e

    other_row : (f g h : Row → ℤ) (o : Option Row) → ((row : Row) → is_set_kind row.kind ≡ false → f row ≡ g row +ℤ h row) → row_is (λ (row : Row). is_set_kind row.kind) o ≡ false → at_row f o ≡ at_row g o +ℤ at_row h o
    other_row f g h None n e = refl
    other_row f g h (Some row) n e = n row e

-- what weighted rows count a use as, and each unit of load
pub use_summed : (rows : List Row) (ws : List (ℕ × ℤ)) (a p q : ℕ)
    → sum_weighted (λ row. on_use row.kind row.members a p q) rows ws ≡ (sum_weighted (part_of UseFrom p) rows ws +ℤ sum_weighted (part_of UseTo q) rows ws) +ℤ sum_weighted (λ row. on_use row.kind row.members a p q) rows (sets_of rows ws)
use_summed rows ws a p q = split_sum (λ (row : Row). on_use row.kind row.members a p q) (part_of UseFrom p) (part_of UseTo q) rows ws (λ row e. use_by_kind row.kind row.members a p q e) (λ row e. (set_parts UseFrom p row e, set_parts UseTo q row e))

pub load_summed : (rows : List Row) (ws : List (ℕ × ℤ)) (p q : ℕ)
    → sum_weighted (λ row. on_load row.kind row.members p q) rows ws ≡ (sum_weighted (part_of LoadFrom p) rows ws +ℤ sum_weighted (part_of LoadTo q) rows ws) +ℤ sum_weighted (λ row. on_load row.kind row.members p q) rows (sets_of rows ws)
load_summed rows ws p q = split_sum (λ (row : Row). on_load row.kind row.members p q) (part_of LoadFrom p) (part_of LoadTo q) rows ws (λ row e. load_by_kind row.kind row.members p q e) (λ row e. (set_parts LoadFrom p row e, set_parts LoadTo q row e))

-- a weighted sum of counts of at most 1
pub sum_small : (f : Row → ℤ) (rows : List Row) (ws : List (ℕ × ℤ)) (i : ℕ) → AreLawful rows ws → ((row : Row) → unsigned_abs (f row) ≤ 1) → unsigned_abs (sum_weighted f rows (take i ws)) ≤ i * 2 ^ 76
sum_small f rows ws i h small = sum_int-partial (λ (w : ℕ × ℤ). w.1 *ℤ at_row f (slice_get rows w.0)) (2 ^ 76) ws i
    (λ k w e. (let a = all-at (λ (v : ℕ × ℤ). unsigned_abs v.1 ≤ 2 ^ 76) ws k w h.small e in
    let m = mul-le (unsigned_abs w.1) (unsigned_abs (at_row f (slice_get rows w.0))) (2 ^ 76) 1 a (at f (slice_get rows w.0) small) in
    omega (arith, m, unsigned_abs-mul w.1 (at_row f (slice_get rows w.0)))))
  where
    at : (g : Row → ℤ) (o : Option Row) → ((row : Row) → unsigned_abs (g row) ≤ 1) → unsigned_abs (at_row g o) ≤ 1
    at g None n = omega arith
    at g (Some row) n = n row

pub sum_small_all : (f : Row → ℤ) (rows : List Row) (ws : List (ℕ × ℤ)) → AreLawful rows ws → length ws ≤ 1024 → ((row : Row) → unsigned_abs (f row) ≤ 1) → unsigned_abs (sum_weighted f rows ws) ≤ 2 ^ 86
sum_small_all f rows ws h few small =
    let k = sum_small f rows ws 1024 h small in
    let s = subst (λ (vs : List (ℕ × ℤ)). unsigned_abs (sum_weighted f rows vs) ≤ 1024 * 2 ^ 76) (take_all 1024 ws few) k in
    omega (arith, s)

-- ---- tables
-- one row more, whose counts were added
pub table_more : (part : Part) (rows : List Row) (ws : List (ℕ × ℤ)) (i : ℕ) (w : ℕ × ℤ) (row : Row) (old new : List ℤ) (amount : ℤ) → slice_get ws i ≡ Some w → slice_get rows w.0 ≡ Some row → amount ≡ w.1 *ℤ sign part row.kind
    → ((p : ℕ) → p < 256 → get_or new p (pos 0) ≡ get_or old p (pos 0) +ℤ amount *ℤ one_if (is_member row.members p)) → IsTable part rows (take i ws) old → IsTable part rows (take (i + 1) ws) new
table_more part rows ws i w row old new amount e f is added h p l =
    let m = weighted_more (part_of part p) rows ws i w e in
    let o = ap (λ (x : Option Row). w.1 *ℤ at_row (part_of part p) x) f in
    let a = added p l in
    let b = h p l in
    let c = ap (λ (z : ℤ). z *ℤ one_if (is_member row.members p)) is ∙ same_value (times (times (var w.1) (var (sign part row.kind))) (var (one_if (is_member row.members p)))) (times (var w.1) (times (var (sign part row.kind)) (var (one_if (is_member row.members p))))) (omega arith) in
    omega (arith, ints, m, o, a, b, c)

-- a row that counts nothing by this end
pub table_same : (part : Part) (rows : List Row) (ws : List (ℕ × ℤ)) (i : ℕ) (w : ℕ × ℤ) (row : Row) (table : List ℤ) → slice_get ws i ≡ Some w → slice_get rows w.0 ≡ Some row → sign part row.kind ≡ pos 0
    → IsTable part rows (take i ws) table → IsTable part rows (take (i + 1) ws) table
table_same part rows ws i w row table e f none h =
    table_more part rows ws i w row table table (pos 0) e f (sym (ap (λ (z : ℤ). w.1 *ℤ z) none ∙ nothing w.1))
    (λ p l. same_value (var (get_or table p (pos 0))) (plus (var (get_or table p (pos 0))) (times (nat 0) (var (one_if (is_member row.members p))))) (omega arith)) h

-- ---- one weight at some points
-- a member that comes later isn't among those before it
pub not_earlier : (members : List ℕ) (i : ℕ) → AllPairs (λ m n. m < n) members → i < length members → is_member (take i members) (get_or members i 0) ≡ false
not_earlier members i h l = false_from (is_member (take i members) (get_or members i 0)) (λ t. none (list_any-place (λ m. m == get_or members i 0) (take i members) t))
  where
    none : (k : ℕ) × (m : ℕ) × (slice_get (take i members) k ≡ Some m) × ((m == get_or members i 0) ≡ true) → ⊥
    none (k, m, e, t) =
        let within = slice_get_within (take i members) k m e in
        let size = length-take-le i members (omega arith) in
        let k_below : k < i = omega (arith, within, size) in
        let m_is = get_or_from_slice_get (take i members) k m 0 e in
        let same = get_or-take i members k 0 k_below in
        let less = h k i 0 k_below l in
        elim (eqb_tells m (get_or members i 0)) [ inl x ↦ (let y = x.1 in omega (arith, m_is, same, less, y)) | inr x ↦ (let f : true ≡ false = sym t ∙ x.0 in cc) ]

-- one member more
pub added_more : (members : List ℕ) (i p : ℕ) (start old new : List ℤ) (weight : ℤ) → AllPairs (λ m n. m < n) members → i < length members
    → get_or old p (pos 0) ≡ get_or start p (pos 0) +ℤ weight *ℤ one_if (is_member (take i members) p)
    → ((p ≡ get_or members i 0) → get_or new p (pos 0) ≡ get_or old p (pos 0) +ℤ weight) → ((p ≢ get_or members i 0) → get_or new p (pos 0) ≡ get_or old p (pos 0))
    → get_or new p (pos 0) ≡ get_or start p (pos 0) +ℤ weight *ℤ one_if (is_member (take (i + 1) members) p)
added_more members i p start old new weight h l e here there = elim (eqb_tells (get_or members i 0) p) [
  | inl t ↦
      let n : is_member (take i members) p ≡ false = subst (λ (k : ℕ). is_member (take i members) k ≡ false) t.1 (not_earlier members i h l) in
      let m : is_member (take (i + 1) members) p ≡ true = more ∙ (λ j. n j || (t.0 j || false)) in
      let a = here (sym t.1) in
      let b = ap (λ (c : Bool). weight *ℤ one_if c) n ∙ nothing weight in
      let c = ap (λ (c : Bool). weight *ℤ one_if c) m ∙ same_value (times (var weight) (nat 1)) (var weight) (omega arith) in
      omega (arith, ints, e, a, b, c)
  | inr t ↦
      let m : is_member (take (i + 1) members) p ≡ is_member (take i members) p = more ∙ (λ j. is_member (take i members) p || (t.0 j || false)) ∙ or_false (is_member (take i members) p) in
      let a = there (λ q. t.1 (sym q)) in
      let c = ap (λ (c : Bool). weight *ℤ one_if c) m in
      omega (arith, ints, e, a, c)
]
  where
    or_false : (b : Bool) → (b || false) ≡ b
    or_false true = refl
    or_false false = refl

    more : is_member (take (i + 1) members) p ≡ (is_member (take i members) p || (get_or members i 0 == p || false))
    more = ap (λ (ms : List ℕ). is_member ms p) (take_more members i 0 l) ∙ list_any-append (λ n. n == p) (take i members) (get_or members i 0 ∷ [])

-- a table of zeros
pub zeros : (n p : ℕ) → get_or (replicate n (pos 0)) p (pos 0) ≡ pos 0
zeros zero p = refl
zeros (suc n) zero = refl
zeros (suc n) (suc p) = zeros n p

-- ---- numbers as the program adds them
abbrev Kept : ℤ → ℤ
Kept z = to_z w128 (of_z w128 z)

-- an entry of a table is small
pub entry_small : (part : Part) (rows : List Row) (ws : List (ℕ × ℤ)) (table : List ℤ) (p : ℕ) → AreLawful rows ws → length ws ≤ 1024 → IsTable part rows ws table → p < 256 → unsigned_abs (get_or table p (pos 0)) ≤ 2 ^ 86
entry_small part rows ws table p h few t l = subst (λ (z : ℤ). unsigned_abs z ≤ 2 ^ 86) (sym (t p l)) (sum_small_all (part_of part p) rows ws h few (part_small part p))

-- the sums of lawful weights are small
pub sums_small : (rows : List Row) (ws : List (ℕ × ℤ)) (sums : PointSums) → AreLawful rows ws → length ws ≤ 1024 → ArePointSums rows ws sums → AreSmallSums sums
sums_small rows ws sums h few t = record {
  use_from = λ p l. entry_small UseFrom rows ws sums.use_from p h few t.use_from_is l;
  use_to = λ p l. entry_small UseTo rows ws sums.use_to p h few t.use_to_is l;
  load_from = λ p l. entry_small LoadFrom rows ws sums.load_from p h few t.load_from_is l;
  load_to = λ p l. entry_small LoadTo rows ws sums.load_to p h few t.load_to_is l;
}

-- ---- what the loops write
-- an entry with a weight at one of its points
near : (start weight : ℤ) (b : Bool) → unsigned_abs start ≤ 2 ^ 86 → unsigned_abs weight ≤ 2 ^ 76 → unsigned_abs (start +ℤ weight *ℤ one_if b) ≤ 2 ^ 87
near start weight true h k = let e : weight *ℤ pos 1 ≡ weight = same_value (times (var weight) (nat 1)) (var weight) (omega arith) in omega (arith, ints, e, h, k)
near start weight false h k = let e = nothing weight in omega (arith, ints, e, h, k)

-- a weight that was added at a point
pub written_there : (old new : List ℤ) (m p : ℕ) (start weight : ℤ) (b : Bool) → m < length old → get_or old m (pos 0) ≡ start +ℤ Kept weight *ℤ one_if b → unsigned_abs start ≤ 2 ^ 86 → unsigned_abs weight ≤ 2 ^ 76
    → new ≡ set old m (Kept (Kept (get_or old m (pos 0)) +ℤ Kept weight)) → p ≡ m → get_or new p (pos 0) ≡ get_or old p (pos 0) +ℤ Kept weight
written_there old new m p start weight b l e h k w same =
    let kept : Kept weight ≡ weight = to_z-of_z w128 weight (omega (arith, ints, k)) in
    let size = subst (λ (z : ℤ). unsigned_abs z ≤ 2 ^ 87) (sym e) (near start (Kept weight) b h (subst (λ (z : ℤ). unsigned_abs z ≤ 2 ^ 76) (sym kept) k)) in
    let sum : Kept (Kept (get_or old m (pos 0)) +ℤ Kept weight) ≡ get_or old m (pos 0) +ℤ Kept weight = added_up (get_or old m (pos 0)) weight size k in
    let at = ap (λ (t : List ℤ). get_or t m (pos 0)) w ∙ get_or-set_same old m (Kept (Kept (get_or old m (pos 0)) +ℤ Kept weight)) (pos 0) l ∙ sum in
    subst (λ (q : ℕ). get_or new q (pos 0) ≡ get_or old q (pos 0) +ℤ Kept weight) (sym same) at
  where
    added_up : (a w : ℤ) → unsigned_abs a ≤ 2 ^ 87 → unsigned_abs w ≤ 2 ^ 76 → Kept (Kept a +ℤ Kept w) ≡ a +ℤ Kept w
    added_up a w h k = omega (arith, ints)

-- at another point
pub written_elsewhere : (old new : List ℤ) (m p : ℕ) (z : ℤ) → new ≡ set old m z → p ≢ m → get_or new p (pos 0) ≡ get_or old p (pos 0)
written_elsewhere old new m p z w n = ap (λ (t : List ℤ). get_or t p (pos 0)) w ∙ get_or-set_other old m p z (pos 0) n

-- a sign that was read as 0
pub no_sign : (z : ℤ) → unsigned_abs z ≤ 1 → of_z w64 z ≡ 0 → z ≡ pos 0
no_sign z h e = sym (to_z-of_z w64 z (omega (arith, ints, h))) ∙ ap (to_z w64) e
