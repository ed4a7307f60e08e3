-- The sums of what a row counts in the box of a node, arc by arc.
use Rattle.std.proofs.Common.{◌≡◌, ℕ, ◌+◌, ◌*◌, ◌<◌, ◌≤◌, ℤ, pos, ◌+ℤ◌, Bool, false, List, [], ◌∷◌, length, get_or, take, slice_get, Some, sym, subst, arith}
use Rattle.std.specs.Prelude.{AllPairs}
use Rattle.cable_definitions.specs.declared.row.Mark.{Mark}
use Rattle.cable_definitions.specs.Row.{is_member}
use Rattle.cable_definitions.specs.Choice.{AtMost, AtLeast}
use Rattle.cable_definitions.specs.Tree.{counted}
use Rattle.candidate_cables.specs.Tables.{IsFirstFrom}
use Rattle.node_reasons.specs.declared.boxed_row.BoxedRow.{BoxedRow}
use Rattle.node_reasons.specs.declared.extent.Extent.{Extent}
use Rattle.node_reasons.specs.Own.{starts_in, IsSumAt}
use Rattle.node_reasons.specs.RowBox.{IsArcEnd, IsArcExtent, IsEndAt, IsExtentAt}
use Rattle.node_reasons.proofs.OwnSums.{sum_none, sum_alike, one_out_more, one_point_more, one_number_more, within_more, within_sum, within_nothing, starts_below}

-- ---- no arcs
none_end : (R : ℤ → ℤ → Type 0) (b : BoxedRow) (test : ℕ → Bool) (most : ℕ) (z : ℤ) → z ≡ pos 0 → ((a : ℕ) → test a ≡ false) → IsEndAt R b test most z
none_end R b test most z e none = record {
  sum = λ r k. subst (λ (v : ℤ). IsSumAt R b.site.now b.arcs.now b.decisions.now (counted r) test v) (sym e) (sum_none R b.site.now b.arcs.now b.decisions.now (counted r) test none);
  small = within_nothing most z e;
}

-- no arc passes the test
pub none_extent : (b : BoxedRow) (test : ℕ → Bool) (most : ℕ) (x : Extent) → x.least ≡ pos 0 → x.greatest ≡ pos 0 → ((a : ℕ) → test a ≡ false) → IsExtentAt b test most x
none_extent b test most x e f none = record { least = none_end AtMost b test most x.least e none; greatest = none_end AtLeast b test most x.greatest f none }

-- ---- the same arcs
alike_end : (R : ℤ → ℤ → Type 0) (b : BoxedRow) (d e : ℕ → Bool) (m n : ℕ) (z : ℤ) → IsEndAt R b d m z → ((a : ℕ) → a < length b.arcs.now → d a ≡ e a) → m ≤ n → IsEndAt R b e n z
alike_end R b d e m n z h same l = record {
  sum = λ r k. sum_alike R b.site.now b.arcs.now b.decisions.now (counted r) d e z (h.sum r k) same;
  small = within_more m n z l h.small;
}

-- two tests that the same arcs pass
pub alike_extent : (b : BoxedRow) (d e : ℕ → Bool) (m n : ℕ) (x : Extent) → IsExtentAt b d m x → ((a : ℕ) → a < length b.arcs.now → d a ≡ e a) → m ≤ n → IsExtentAt b e n x
alike_extent b d e m n x h same l = record { least = alike_end AtMost b d e m n x.least h.least same l; greatest = alike_end AtLeast b d e m n x.greatest h.greatest same l }

-- ---- one more
out_end : (R : ℤ → ℤ → Type 0) (b : BoxedRow) (p first past n : ℕ) (sum z total : ℤ) (own : Mark) → IsFirstFrom b.arcs.now p first → IsFirstFrom b.arcs.now (p + 1) past → first ≤ n → n < past
    → slice_get b.decisions.now n ≡ Some own → IsArcEnd R b n own z → IsEndAt R b (starts_below b.arcs.now (p ∷ []) n) (2000000 * n) sum → total ≡ sum +ℤ z
    → IsEndAt R b (starts_below b.arcs.now (p ∷ []) (n + 1)) (2000000 * (n + 1)) total
out_end R b p first past n sum z total own h k l m e x y t = record {
  sum = λ r g. one_out_more R b.site.now b.arcs.now b.decisions.now (counted r) p first past n sum z total own h k l m e (λ arc f. x.extreme r arc g f) (y.sum r g) t;
  small = within_sum (2000000 * n) 2000000 (2000000 * (n + 1)) sum z total y.small x.small (omega arith) t;
}

-- one arc more out of a point
pub out_extent : (b : BoxedRow) (p first past n : ℕ) (sum one total : Extent) (own : Mark) → IsFirstFrom b.arcs.now p first → IsFirstFrom b.arcs.now (p + 1) past → first ≤ n → n < past
    → slice_get b.decisions.now n ≡ Some own → IsArcExtent b n own one → IsExtentAt b (starts_below b.arcs.now (p ∷ []) n) (2000000 * n) sum
    → total.least ≡ sum.least +ℤ one.least → total.greatest ≡ sum.greatest +ℤ one.greatest → IsExtentAt b (starts_below b.arcs.now (p ∷ []) (n + 1)) (2000000 * (n + 1)) total
out_extent b p first past n sum one total own h k l m e x y s t = record {
  least = out_end AtMost b p first past n sum.least one.least total.least own h k l m e x.least y.least s;
  greatest = out_end AtLeast b p first past n sum.greatest one.greatest total.greatest own h k l m e x.greatest y.greatest t;
}

point_end : (R : ℤ → ℤ → Type 0) (b : BoxedRow) (points : List ℕ) (i : ℕ) (sum z total : ℤ) → AllPairs (λ m n. m < n) points → i < length points
    → IsEndAt R b (λ a. starts_in (take i points) (slice_get b.arcs.now a)) (200000000000 * i) sum → IsEndAt R b (λ a. starts_in (get_or points i 0 ∷ []) (slice_get b.arcs.now a)) 200000000000 z → total ≡ sum +ℤ z
    → IsEndAt R b (λ a. starts_in (take (i + 1) points) (slice_get b.arcs.now a)) (200000000000 * (i + 1)) total
point_end R b points i sum z total h l x y t = record {
  sum = λ r g. one_point_more R b.site.now b.arcs.now b.decisions.now (counted r) points i sum z total h l (x.sum r g) (y.sum r g) t;
  small = within_sum (200000000000 * i) 200000000000 (200000000000 * (i + 1)) sum z total x.small y.small (omega arith) t;
}

-- the arcs out of one point more
pub point_extent : (b : BoxedRow) (points : List ℕ) (i : ℕ) (sum one total : Extent) → AllPairs (λ m n. m < n) points → i < length points
    → IsExtentAt b (λ a. starts_in (take i points) (slice_get b.arcs.now a)) (200000000000 * i) sum → IsExtentAt b (λ a. starts_in (get_or points i 0 ∷ []) (slice_get b.arcs.now a)) 200000000000 one
    → total.least ≡ sum.least +ℤ one.least → total.greatest ≡ sum.greatest +ℤ one.greatest → IsExtentAt b (λ a. starts_in (take (i + 1) points) (slice_get b.arcs.now a)) (200000000000 * (i + 1)) total
point_extent b points i sum one total h l x y s t = record {
  least = point_end AtMost b points i sum.least one.least total.least h l x.least y.least s;
  greatest = point_end AtLeast b points i sum.greatest one.greatest total.greatest h l x.greatest y.greatest t;
}

number_end : (R : ℤ → ℤ → Type 0) (b : BoxedRow) (numbers : List ℕ) (i : ℕ) (sum z total : ℤ) (own : Mark) → AllPairs (λ m n. m < n) numbers → i < length numbers → get_or numbers i 0 < length b.arcs.now
    → slice_get b.decisions.now (get_or numbers i 0) ≡ Some own → IsArcEnd R b (get_or numbers i 0) own z → IsEndAt R b (λ a. is_member (take i numbers) a) (2000000 * i) sum → total ≡ sum +ℤ z
    → IsEndAt R b (λ a. is_member (take (i + 1) numbers) a) (2000000 * (i + 1)) total
number_end R b numbers i sum z total own h l within e x y t = record {
  sum = λ r g. one_number_more R b.site.now b.arcs.now b.decisions.now (counted r) numbers i sum z total own h l within e (λ arc f. x.extreme r arc g f) (y.sum r g) t;
  small = within_sum (2000000 * i) 2000000 (2000000 * (i + 1)) sum z total y.small x.small (omega arith) t;
}

-- the arc of one number more
pub number_extent : (b : BoxedRow) (numbers : List ℕ) (i : ℕ) (sum one total : Extent) (own : Mark) → AllPairs (λ m n. m < n) numbers → i < length numbers → get_or numbers i 0 < length b.arcs.now
    → slice_get b.decisions.now (get_or numbers i 0) ≡ Some own → IsArcExtent b (get_or numbers i 0) own one → IsExtentAt b (λ a. is_member (take i numbers) a) (2000000 * i) sum
    → total.least ≡ sum.least +ℤ one.least → total.greatest ≡ sum.greatest +ℤ one.greatest → IsExtentAt b (λ a. is_member (take (i + 1) numbers) a) (2000000 * (i + 1)) total
number_extent b numbers i sum one total own h l within e x y s t = record {
  least = number_end AtMost b numbers i sum.least one.least total.least own h l within e x.least y.least s;
  greatest = number_end AtLeast b numbers i sum.greatest one.greatest total.greatest own h l within e x.greatest y.greatest t;
}
