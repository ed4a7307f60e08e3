-- Segments with a common point have boxes that meet.
use Rattle.std.proofs.Common.{◌≡◌, ℕ, ◌+◌, ◌-◌, ◌≤◌, ℤ, pos, negsuc, ◌+ℤ◌, ◌-ℤ◌, ◌*ℤ◌, ◌<ℤ◌, ◌≤ℤ◌, arith, refl, sym, subst}
use Rattle.std.proofs.lemmas.Int.{ints, by_lt_z}
use Rattle.std.proofs.lemmas.Nat.{mul-le}
use Rattle.number_laws.proofs.Ring.{var, nat, plus, minus, times, same_value_of}
use Rattle.plane_geometry.proofs.Clashing.{Meet-from_Clash}
use Rattle.plane_geometry.specs.Boxes.{BoxesMeet}
use Rattle.cable_definitions.specs.declared.place.Place.{Place}
use Rattle.cable_definitions.specs.Plane.{Meet, Clash}

-- of q + t parts, s are gone from m - k to m - l, and t from m + i to m + j: these are not one place
apart_of : (m : ℤ) (q t s k l i j : ℕ) → 1 ≤ q + t → s ≤ q + t → 1 ≤ i → 1 ≤ j
    → (pos (q + t) *ℤ (m -ℤ pos k) +ℤ pos s *ℤ ((m -ℤ pos l) -ℤ (m -ℤ pos k))) ≡ (pos (q + t) *ℤ (m +ℤ pos i) +ℤ pos t *ℤ ((m +ℤ pos j) -ℤ (m +ℤ pos i))) → ⊥
apart_of m q t s k l i j some gone hi hj e =
    let low = λ (n : ℕ). minus (var m) (nat n) in
    let high = λ (n : ℕ). plus (var m) (nat n) in
    let f = same_value_of (plus (times (nat (q + t)) (low k)) (times (nat s) (minus (low l) (low k)))) (plus (times (nat (q + t)) (high i)) (times (nat t) (minus (high j) (high i)))) e in
    omega (arith, f, mul-le s k (q + t) k gone (omega arith), mul-le q 1 q i (omega arith) hi, mul-le t 1 t j (omega arith) hj)

nat_of : (z : ℤ) → pos 0 ≤ℤ z → (n : ℕ) × (z ≡ pos n)
nat_of (pos n) h = (n, refl)
nat_of (negsuc n) h = absurd (omega (arith, ints))

-- the same, where m is no less than a and b and below c and d
apart_by : (n s t : ℕ) (m a b c d : ℤ) → 1 ≤ n → s ≤ n → t ≤ n → a ≤ℤ m → b ≤ℤ m → m <ℤ c → m <ℤ d
    → (pos n *ℤ a +ℤ pos s *ℤ (b -ℤ a)) ≡ (pos n *ℤ c +ℤ pos t *ℤ (d -ℤ c)) → ⊥
apart_by n s t m a b c d some on_first on_second ha hb hc hd e =
    let k = nat_of (m -ℤ a) (omega (arith, ints)) in
    let l = nat_of (m -ℤ b) (omega (arith, ints)) in
    let i = nat_of (c -ℤ m) (omega (arith, ints)) in
    let j = nat_of (d -ℤ m) (omega (arith, ints)) in
    let ea : a ≡ m -ℤ pos k.0 = omega (arith, ints, k.1) in
    let eb : b ≡ m -ℤ pos l.0 = omega (arith, ints, l.1) in
    let ec : c ≡ m +ℤ pos i.0 = omega (arith, ints, i.1) in
    let ed : d ≡ m +ℤ pos j.0 = omega (arith, ints, j.1) in
    let en : n ≡ (n - t) + t = omega (arith, on_second) in
    let e1 = subst (λ (x : ℤ). (pos n *ℤ x +ℤ pos s *ℤ (b -ℤ x)) ≡ (pos n *ℤ c +ℤ pos t *ℤ (d -ℤ c))) ea e in
    let e2 = subst (λ (x : ℤ). (pos n *ℤ (m -ℤ pos k.0) +ℤ pos s *ℤ (x -ℤ (m -ℤ pos k.0))) ≡ (pos n *ℤ c +ℤ pos t *ℤ (d -ℤ c))) eb e1 in
    let e3 = subst (λ (x : ℤ). (pos n *ℤ (m -ℤ pos k.0) +ℤ pos s *ℤ ((m -ℤ pos l.0) -ℤ (m -ℤ pos k.0))) ≡ (pos n *ℤ x +ℤ pos t *ℤ (d -ℤ x))) ec e2 in
    let e4 = subst (λ (x : ℤ). (pos n *ℤ (m -ℤ pos k.0) +ℤ pos s *ℤ ((m -ℤ pos l.0) -ℤ (m -ℤ pos k.0))) ≡ (pos n *ℤ (m +ℤ pos i.0) +ℤ pos t *ℤ (x -ℤ (m +ℤ pos i.0)))) ed e3 in
    let e5 = subst (λ (x : ℕ). (pos x *ℤ (m -ℤ pos k.0) +ℤ pos s *ℤ ((m -ℤ pos l.0) -ℤ (m -ℤ pos k.0))) ≡ (pos x *ℤ (m +ℤ pos i.0) +ℤ pos t *ℤ ((m +ℤ pos j.0) -ℤ (m +ℤ pos i.0)))) en e4 in
    apart_of m (n - t) t s k.0 l.0 i.0 j.0 (omega (arith, some, en)) (omega (arith, on_first, en)) (omega (arith, ints, i.1)) (omega (arith, ints, j.1)) e5

-- a place so far from a to b is none so far from c to d where both of a and b are below both of c and d
apart : (n s t : ℕ) (a b c d : ℤ) → 1 ≤ n → s ≤ n → t ≤ n → a <ℤ c → a <ℤ d → b <ℤ c → b <ℤ d
    → (pos n *ℤ a +ℤ pos s *ℤ (b -ℤ a)) ≡ (pos n *ℤ c +ℤ pos t *ℤ (d -ℤ c)) → ⊥
apart n s t a b c d some on_first on_second ac ad bc bd e =
    by_lt_z a b (λ lt. apart_by n s t b a b c d some on_first on_second (omega (arith, ints)) (omega (arith, ints)) bc bd e)
    (λ ge. apart_by n s t a a b c d some on_first on_second (omega (arith, ints)) ge ac ad e)

-- for callers: segments with a common point have boxes that meet
pub BoxesMeet-from_Meet : (a b c d : Place) → Meet a b c d → BoxesMeet a b c d
BoxesMeet-from_Meet a b c d m =
    let k = m.common in
    record {
      not_west = λ w. apart m.parts m.s m.t a.x b.x c.x d.x k.some_parts k.on_first k.on_second w.of_first.first w.of_second.first w.of_first.second w.of_second.second k.same_x;
      not_east = λ w. apart m.parts m.t m.s c.x d.x a.x b.x k.some_parts k.on_second k.on_first w.of_first.first w.of_second.first w.of_first.second w.of_second.second (sym k.same_x);
      not_south = λ w. apart m.parts m.s m.t a.y b.y c.y d.y k.some_parts k.on_first k.on_second w.of_first.first w.of_second.first w.of_first.second w.of_second.second k.same_y;
      not_north = λ w. apart m.parts m.t m.s c.y d.y a.y b.y k.some_parts k.on_second k.on_first w.of_first.first w.of_second.first w.of_first.second w.of_second.second (sym k.same_y);
    }

-- for callers: so have segments that clash
pub BoxesMeet-from_Clash : (a b c d : Place) → Clash a b c d → BoxesMeet a b c d
BoxesMeet-from_Clash a b c d k = BoxesMeet-from_Meet a b c d (Meet-from_Clash a b c d k)
