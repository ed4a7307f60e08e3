-- For callers too: weighted sums, weight by weight, and how large they are.
use Rattle.std.proofs.Common.{◌≡◌, ℕ, ◌+◌, ◌*◌, ◌^◌, ◌≤◌, ◌<◌, ℤ, pos, neg_ℤ, ◌+ℤ◌, ◌-ℤ◌, ◌*ℤ◌, unsigned_abs, to_z, of_z, FitsSigned, Bool, List, [], ◌∷◌, ◌++◌, length, take, get_or, slice_get, Some, Option, ap, sym, ◌∙◌, subst, arith}
use Rattle.std.specs.Int.{w8, w64, w128}
use Rattle.std.proofs.lemmas.Int.{ints, to_z-of_z, unsigned_abs-mul}
use Rattle.std.proofs.lemmas.Nat.{mul-le}
use Rattle.std.proofs.lemmas.List.{take_more}
use Rattle.std.proofs.lemmas.Option.{slice_get_within, slice_get-get_or, get_or_from_slice_get}
use Rattle.cable_definitions.specs.declared.row.RowKind.{RowKind}
use Rattle.cable_definitions.specs.declared.row.RowKind.TheVariants.{Out, Flow, Inlet, Bend, Power, One, Cut}
use Rattle.cable_definitions.specs.Row.{Row, is_member, one_if, on_use, on_load}
use Rattle.cable_definitions.specs.Choice.{AreLawful, at_row, sum_weighted}
use Rattle.number_laws.proofs.Sums.{sum_int-append, sum_int-cons}
use Rattle.layout_laws.proofs.Typing.{all-at}
use Rattle.proof_laws.proofs.Lists.{some_at}

-- a number of this size is passed on as it is
pub back : (z : ℤ) → unsigned_abs z ≤ 2 ^ 120 → to_z w128 (of_z w128 z) ≡ z
back z h = to_z-of_z w128 z (omega (arith, ints))

-- a weight times a count
pub product : (weight count read : ℤ) → read ≡ count → unsigned_abs weight ≤ 2 ^ 76 → unsigned_abs count ≤ 76800000
    → (to_z w128 (of_z w128 (to_z w128 (of_z w128 weight) *ℤ to_z w128 (of_z w128 read))) ≡ weight *ℤ count) × (unsigned_abs (weight *ℤ count) ≤ 2 ^ 76 * unsigned_abs count)
product weight count read e h k =
    let size : unsigned_abs (weight *ℤ count) ≡ unsigned_abs weight * unsigned_abs count = unsigned_abs-mul weight count in
    let near = mul-le (unsigned_abs weight) (unsigned_abs count) (2 ^ 76) (unsigned_abs count) h (omega arith) in
    let weight_is = back weight (omega (arith, h)) in
    let read_is : to_z w128 (of_z w128 read) ≡ count = ap (λ z. to_z w128 (of_z w128 z)) e ∙ back count (omega (arith, k)) in
    ((λ i. to_z w128 (of_z w128 (weight_is i *ℤ read_is i))) ∙ back (weight *ℤ count) (omega (arith, size, near, k)), omega (arith, size, near))

-- one weight more
pub weighted_more : (f : Row → ℤ) (rows : List Row) (weights : List (ℕ × ℤ)) (i : ℕ) (w : ℕ × ℤ) → slice_get weights i ≡ Some w
    → sum_weighted f rows (take (i + 1) weights) ≡ sum_weighted f rows (take i weights) +ℤ w.1 *ℤ at_row f (slice_get rows w.0)
weighted_more f rows weights i w e =
    let term = λ (v : ℕ × ℤ). v.1 *ℤ at_row f (slice_get rows v.0) in
    let more : take (i + 1) weights ≡ take i weights ++ w ∷ [] = take_more weights i w (slice_get_within weights i w e) ∙ ap (λ (v : ℕ × ℤ). take i weights ++ v ∷ []) (get_or_from_slice_get weights i w w e) in
    ap (sum_weighted f rows) more
    ∙ sum_int-append term (take i weights) (w ∷ [])
    ∙ ap (λ z. sum_weighted f rows (take i weights) +ℤ z) (last (term w) (sum_weighted f rows (w ∷ [])) (sum_int-cons term w []))
  where
    last : (z total : ℤ) → total ≡ z +ℤ pos 0 → total ≡ z
    last z total e = omega (arith, ints, e)

-- the sum of two numbers as the program adds them, of which it read the first as `read`
pub added : (x y read : ℤ) (a b : ℕ) → read ≡ x → unsigned_abs x ≤ a → unsigned_abs y ≤ b → a + b ≤ 2 ^ 120
    → FitsSigned w128 (read +ℤ to_z w128 (of_z w128 y)) × (to_z w128 (of_z w128 (read +ℤ to_z w128 (of_z w128 y))) ≡ x +ℤ y) × (unsigned_abs (x +ℤ y) ≤ a + b)
added x y read a b e h k l =
    let near : unsigned_abs (x +ℤ y) ≤ a + b = omega (arith, ints, h, k) in
    let y_is = back y (omega (arith, k, l)) in
    let sum_is : read +ℤ to_z w128 (of_z w128 y) ≡ x +ℤ y = λ i. e i +ℤ y_is i in
    (subst (FitsSigned w128) (sym sum_is) (omega (arith, ints, near, l)), ap (λ z. to_z w128 (of_z w128 z)) sum_is ∙ back (x +ℤ y) (omega (arith, near, l)), near)

-- the weight at a place, with its row
pub record IsNext (rows : List Row) (weights : List (ℕ × ℤ)) (i : ℕ) (w : ℕ × ℤ) : Type 0 where
  pub few : i < 1024
  pub next : slice_get weights i ≡ Some w
  pub small : unsigned_abs w.1 ≤ 2 ^ 76
  pub row : Row
  pub listed : slice_get rows w.0 ≡ Some row

-- lawful weights have listed rows
pub next_weight : (rows : List Row) (weights items : List (ℕ × ℤ)) (i : ℕ) → AreLawful rows weights → items ≡ weights → i < length items → length weights ≤ 1024 → IsNext rows weights i (get_or items i (0, pos 0))
next_weight rows weights items i lawful e l most =
    let w = get_or items i (0, pos 0) in
    let next : slice_get weights i ≡ Some w = subst (λ (ws : List (ℕ × ℤ)). slice_get ws i ≡ Some w) e (slice_get-get_or items i (0, pos 0) l) in
    let within = slice_get_within weights i w next in
    let row = some_at rows w.0 (all-at (λ (v : ℕ × ℤ). v.0 < length rows) weights i w lawful.listed next) in
    record { few = omega (arith, within, most); next = next; small = all-at (λ (v : ℕ × ℤ). unsigned_abs v.1 ≤ 2 ^ 76) weights i w lawful.small next; row = row.0; listed = row.1 }

-- the weighted sum so far and the next weight times its row's count, which is at most m, as the program adds them
pub next_added : (f : Row → ℤ) (m : ℕ) (rows : List Row) (weights : List (ℕ × ℤ)) (i : ℕ) (w : ℕ × ℤ) (total read count term : ℤ) → m ≤ 76800000 → (n : IsNext rows weights i w)
    → total ≡ sum_weighted f rows (take i weights) → unsigned_abs total ≤ 2 ^ 76 * m * i → read ≡ total
    → count ≡ f n.row → unsigned_abs (f n.row) ≤ m → term ≡ to_z w128 (of_z w128 w.1) *ℤ to_z w64 (of_z w64 count)
    → FitsSigned w128 (read +ℤ to_z w128 (of_z w128 term))
    × (to_z w128 (of_z w128 (read +ℤ to_z w128 (of_z w128 term))) ≡ sum_weighted f rows (take (i + 1) weights))
    × (unsigned_abs (to_z w128 (of_z w128 (read +ℤ to_z w128 (of_z w128 term)))) ≤ 2 ^ 76 * m * (i + 1))
next_added f m rows weights i w total read count term most n so_far small e count_is count_small term_is =
    let few = n.few in
    let weight_small = n.small in
    let count_read : to_z w64 (of_z w64 count) ≡ f n.row = ap (λ z. to_z w64 (of_z w64 z)) count_is ∙ to_z-of_z w64 (f n.row) (omega (arith, ints, count_small, most)) in
    let weight_read = back w.1 (omega (arith, weight_small)) in
    let product_is : term ≡ w.1 *ℤ f n.row = term_is ∙ (λ j. weight_read j *ℤ count_read j) in
    let near = mul-le (unsigned_abs w.1) (unsigned_abs (f n.row)) (2 ^ 76) m weight_small count_small in
    let size : unsigned_abs term ≡ unsigned_abs w.1 * unsigned_abs (f n.row) = ap (λ (z : ℤ). unsigned_abs z) product_is ∙ unsigned_abs-mul w.1 (f n.row) in
    let room = mul-le m (i + 1) 76800000 1024 most (omega (arith, few)) in
    let sum = added total term read (2 ^ 76 * m * i) (2 ^ 76 * m) e small (omega (arith, near, size)) (omega (arith, room)) in
    let at : w.1 *ℤ f n.row ≡ w.1 *ℤ at_row f (slice_get rows w.0) = ap (λ (o : Option Row). w.1 *ℤ at_row f o) (sym n.listed) in
    let whole : total +ℤ term ≡ sum_weighted f rows (take (i + 1) weights) = (λ j. so_far j +ℤ (product_is ∙ at) j) ∙ sym (weighted_more f rows weights i w n.next) in
    let near_sum = sum.2 in
    (sum.0, sum.1 ∙ whole, subst (λ (z : ℤ). unsigned_abs z ≤ 2 ^ 76 * m * (i + 1)) (sym sum.1) (omega (arith, near_sum)))

-- the same for a coefficient of at most 1
pub coefficient_added : (f : Row → ℤ) (rows : List Row) (weights : List (ℕ × ℤ)) (i : ℕ) (w : ℕ × ℤ) (total coefficient count term : ℤ) → (n : IsNext rows weights i w)
    → total ≡ sum_weighted f rows (take i weights) → unsigned_abs total ≤ 2 ^ 76 * i
    → count ≡ to_z w8 (of_z w8 coefficient) → coefficient ≡ f n.row → unsigned_abs (f n.row) ≤ 1 → term ≡ to_z w128 (of_z w128 w.1) *ℤ to_z w64 (of_z w64 count)
    → FitsSigned w128 (to_z w128 (of_z w128 total) +ℤ to_z w128 (of_z w128 term))
    × (to_z w128 (of_z w128 (to_z w128 (of_z w128 total) +ℤ to_z w128 (of_z w128 term))) ≡ sum_weighted f rows (take (i + 1) weights))
    × (unsigned_abs (to_z w128 (of_z w128 (to_z w128 (of_z w128 total) +ℤ to_z w128 (of_z w128 term)))) ≤ 2 ^ 76 * (i + 1))
coefficient_added f rows weights i w total coefficient count term n so_far small count_is coefficient_is one term_is =
    let few = n.few in
    let total_read : to_z w128 (of_z w128 total) ≡ total = back total (omega (arith, small, few)) in
    let count_read : count ≡ f n.row = count_is ∙ ap (λ z. to_z w8 (of_z w8 z)) coefficient_is ∙ to_z-of_z w8 (f n.row) (omega (arith, ints, one)) in
    let sum = next_added f 1 rows weights i w total (to_z w128 (of_z w128 total)) count term (omega arith) n so_far (omega (arith, small)) total_read count_read one term_is in
    let near = sum.2 in
    (sum.0, sum.1, omega (arith, near))

-- ---- a row counts an arc as -1, 0 or 1
if_small : (b : Bool) → unsigned_abs (one_if b) ≤ 1
if_small = grind arith

unless_small : (b : Bool) → unsigned_abs (neg_ℤ (one_if b)) ≤ 1
unless_small = grind arith

difference_small : (b c : Bool) → unsigned_abs (one_if b -ℤ one_if c) ≤ 1
difference_small = grind arith

pub on_use-small : (kind : RowKind) (members : List ℕ) (a p q : ℕ) → unsigned_abs (on_use kind members a p q) ≤ 1
on_use-small Out members a p q = if_small (is_member members p)
on_use-small Flow members a p q = omega arith
on_use-small Inlet members a p q = unless_small (is_member members q)
on_use-small Bend members a p q = difference_small (is_member members p) (is_member members q)
on_use-small Power members a p q = omega arith
on_use-small One members a p q = unless_small (is_member members a)
on_use-small Cut members a p q = if_small _

pub on_load-small : (kind : RowKind) (members : List ℕ) (p q : ℕ) → unsigned_abs (on_load kind members p q) ≤ 1
on_load-small Out members p q = omega arith
on_load-small Flow members p q = difference_small (is_member members p) (is_member members q)
on_load-small Inlet members p q = omega arith
on_load-small Bend members p q = omega arith
on_load-small Power members p q = unless_small (is_member members q)
on_load-small One members p q = omega arith
on_load-small Cut members p q = omega arith
