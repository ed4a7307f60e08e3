-- Places west and east of the square are outside of it.
use Rattle.std.proofs.Common.{◌≡◌, ◌%◌, ◌⊎◌, inl, inr, ℤ, pos, ◌-ℤ◌, ◌*ℤ◌, ◌≤ℤ◌, ◌<ℤ◌, [], ◌∷◌, Bool, true, false, ◌&&◌, ◌||◌, refl, ap, ◌∙◌, arith}
use Rattle.std.specs.Prelude.{int_lt, int_le, count_by}
use Rattle.std.proofs.lemmas.Int.{ints, by_lt_z}
use Rattle.std.proofs.lemmas.List.Elements.{All-nil, All-cons}
use Rattle.number_laws.proofs.Ring.{var, nat, minus, times, same_value}
use Rattle.cable_definitions.specs.declared.place.Place.{Place}
use Rattle.cable_definitions.specs.Plane.{orient, IsOn, edges, counts_for, IsOutside}
use Rattle.cable_definitions.specs.Drill.{IsPlaceAt}
use Rattle.plane_geometry.proofs.Lying.{Lies-from_IsOn, Between-from_Lies}
use Rattle.plane_geometry.specs.Sides.{Between}

-- west or east of the square
abbrev pub IsBesideAt : ℤ → Type 0
IsBesideAt x = (x <ℤ pos 4500) ⊎ (pos 4900 <ℤ x)

-- what lies between is no further out
between_in : (a b z : ℤ) → pos 4500 ≤ℤ a → a ≤ℤ pos 4900 → pos 4500 ≤ℤ b → b ≤ℤ pos 4900 → Between a b z → (pos 4500 ≤ℤ z) × (z ≤ℤ pos 4900)
between_in a b z a_low a_high b_low b_high (inl w) = (omega (arith, ints, w.0, a_low), omega (arith, ints, w.1, b_high))
between_in a b z a_low a_high b_low b_high (inr w) = (omega (arith, ints, w.0, b_low), omega (arith, ints, w.1, a_high))

-- no coordinate is both in the square and beside it
not_both : (z : ℤ) → (pos 4500 ≤ℤ z) × (z ≤ℤ pos 4900) → ¬ (IsBesideAt z)
not_both z h (inl west) = omega (arith, ints, west, h.0)
not_both z h (inr east) = omega (arith, ints, east, h.1)

-- no place beside the square is on an edge whose ends are in its range
not_on : (p u v : Place) → (pos 4500 ≤ℤ u.x) × (u.x ≤ℤ pos 4900) → (pos 4500 ≤ℤ v.x) × (v.x ≤ℤ pos 4900) → IsBesideAt p.x → ¬ (IsOn p u v)
not_on p u v in_u in_v beside on = not_both p.x (between_in u.x v.x p.x in_u.0 in_u.1 in_v.0 in_v.1 (Between-from_Lies u.x u.y v.x v.y p.x p.y (Lies-from_IsOn p u v on)).0) beside

-- the west corners and the east ones are in its range
in_west : (u : Place) (y : ℤ) → IsPlaceAt u (pos 4500) y → (pos 4500 ≤ℤ u.x) × (u.x ≤ℤ pos 4900)
in_west u y h = let e = h.0 in (omega (arith, ints, e), omega (arith, ints, e))

in_east : (u : Place) (y : ℤ) → IsPlaceAt u (pos 4900) y → (pos 4500 ≤ℤ u.x) × (u.x ≤ℤ pos 4900)
in_east u y h = let e = h.0 in (omega (arith, ints, e), omega (arith, ints, e))

-- a test with a part that fails fails
none_first : (a b c : Bool) → a ≡ false → (a && b && c) ≡ false
none_first a b c e = rw e refl

none_second : (a b c : Bool) → b ≡ false → (a && b && c) ≡ false
none_second true b c e = rw e refl
none_second false b c e = refl

neither : (a b : Bool) → a ≡ false → b ≡ false → (a || b) ≡ false
neither a b e f = rw (e, f) refl

-- no number is at least h and below a lower one
never : (h l y : ℤ) → l ≤ℤ h → (c : Bool) → (int_le h y && int_lt y l && c) ≡ false
never h l y lower c =
    by_lt_z y h (λ less. none_first (int_le h y) (int_lt y l) c (below y h less)) (λ more. none_second (int_le h y) (int_lt y l) c (above y l (omega (arith, ints, lower, more))))
  where
    below : (y h : ℤ) → y <ℤ h → int_le h y ≡ false
    below y h less = grind (arith, ints)

    above : (y l : ℤ) → l ≤ℤ y → int_lt y l ≡ false
    above y l more = grind (arith, ints)

-- a level edge counts for none
level : (p u v : Place) (h : ℤ) → u.y ≡ h → v.y ≡ h → counts_for p (u, v) ≡ false
level p u v h e f =
    neither (int_le u.y p.y && int_lt p.y v.y && int_lt (pos 0) (orient u v p)) (int_le v.y p.y && int_lt p.y u.y && int_lt (orient u v p) (pos 0))
    (never u.y v.y p.y (omega (arith, ints, e, f)) (int_lt (pos 0) (orient u v p)))
    (never v.y u.y p.y (omega (arith, ints, e, f)) (int_lt (orient u v p) (pos 0)))

-- the orientation of a place against an edge that goes straight up or down
straight : (p u v : Place) (x a b : ℤ) → u.x ≡ x → v.x ≡ x → u.y ≡ a → v.y ≡ b → orient u v p ≡ (b -ℤ a) *ℤ (x -ℤ p.x)
unfolding orient
straight p u v x a b ux vx uy vy =
    rw (ux, vx, uy, vy) (same_value (minus (times (minus (var x) (var x)) (minus (var p.y) (var a))) (times (minus (var b) (var a)) (minus (var p.x) (var x)))) (times (minus (var b) (var a)) (minus (var x) (var p.x))) (omega arith))

-- 400 metres times a difference, with its sign
up_by : (x y : ℤ) → pos 400 *ℤ (x -ℤ y) ≡ (pos 400 *ℤ x) -ℤ (pos 400 *ℤ y)
up_by x y = same_value (times (nat 400) (minus (var x) (var y))) (minus (times (nat 400) (var x)) (times (nat 400) (var y))) (omega arith)

down_by : (x y : ℤ) → (pos 500 -ℤ pos 900) *ℤ (x -ℤ y) ≡ (pos 400 *ℤ y) -ℤ (pos 400 *ℤ x)
down_by x y = same_value (times (minus (nat 500) (nat 900)) (minus (var x) (var y))) (minus (times (nat 400) (var y)) (times (nat 400) (var x))) (omega arith)

-- the test of a number above 0, and of one that isn't
above_zero : (z : ℤ) → pos 0 <ℤ z → int_lt (pos 0) z ≡ true
above_zero z h = grind (arith, ints)

not_above_zero : (z : ℤ) → z <ℤ pos 0 → int_lt (pos 0) z ≡ false
not_above_zero z h = grind (arith, ints)

below_zero : (z : ℤ) → z <ℤ pos 0 → int_lt z (pos 0) ≡ true
below_zero z h = grind (arith, ints)

not_below_zero : (z : ℤ) → pos 0 <ℤ z → int_lt z (pos 0) ≡ false
not_below_zero z h = grind (arith, ints)

-- with a last part that holds, or fails
all_of : (a b c : Bool) → c ≡ true → (a && b && c) ≡ (a && b)
all_of true true c e = e
all_of true false c e = refl
all_of false b c e = refl

none_third : (a b c : Bool) → c ≡ false → (a && b && c) ≡ false
none_third true true c e = e
none_third true false c e = refl
none_third false b c e = refl

only_second : (a b : Bool) → a ≡ false → (a || b) ≡ b
only_second a b e = rw e refl

only_first : (a b : Bool) → b ≡ false → (a || b) ≡ a
only_first true b e = refl
only_first false b e = e

-- whether a place is level with the square
abbrev level_with : Place → Bool
level_with p = int_le (pos 500) p.y && int_lt p.y (pos 900)

-- the west edge, which falls, counts for the places level with it that are west of it
west_counts : (p u v : Place) → IsPlaceAt u (pos 4500) (pos 900) → IsPlaceAt v (pos 4500) (pos 500) → p.x <ℤ pos 4500 → counts_for p (u, v) ≡ level_with p
west_counts p u v at_u at_v west =
    let o : orient u v p ≡ (pos 400 *ℤ p.x) -ℤ (pos 400 *ℤ pos 4500) = straight p u v (pos 4500) (pos 900) (pos 500) at_u.0 at_v.0 at_u.1 at_v.1 ∙ down_by (pos 4500) p.x in
    let sign : orient u v p <ℤ pos 0 = omega (arith, ints, o, west) in
    only_second (int_le u.y p.y && int_lt p.y v.y && int_lt (pos 0) (orient u v p)) (int_le v.y p.y && int_lt p.y u.y && int_lt (orient u v p) (pos 0))
    (none_third (int_le u.y p.y) (int_lt p.y v.y) (int_lt (pos 0) (orient u v p)) (not_above_zero (orient u v p) sign))
    ∙ all_of (int_le v.y p.y) (int_lt p.y u.y) (int_lt (orient u v p) (pos 0)) (below_zero (orient u v p) sign)
    ∙ ap (λ (z : ℤ). int_le z p.y && int_lt p.y u.y) at_v.1
    ∙ ap (λ (z : ℤ). int_le (pos 500) p.y && int_lt p.y z) at_u.1

west_counts_not : (p u v : Place) → IsPlaceAt u (pos 4500) (pos 900) → IsPlaceAt v (pos 4500) (pos 500) → pos 4900 <ℤ p.x → counts_for p (u, v) ≡ false
west_counts_not p u v at_u at_v east =
    let o : orient u v p ≡ (pos 400 *ℤ p.x) -ℤ (pos 400 *ℤ pos 4500) = straight p u v (pos 4500) (pos 900) (pos 500) at_u.0 at_v.0 at_u.1 at_v.1 ∙ down_by (pos 4500) p.x in
    let sign : pos 0 <ℤ orient u v p = omega (arith, ints, o, east) in
    let ey = at_u.1 in
    let fy = at_v.1 in
    neither (int_le u.y p.y && int_lt p.y v.y && int_lt (pos 0) (orient u v p)) (int_le v.y p.y && int_lt p.y u.y && int_lt (orient u v p) (pos 0))
    (never u.y v.y p.y (omega (arith, ints, ey, fy)) (int_lt (pos 0) (orient u v p)))
    (none_third (int_le v.y p.y) (int_lt p.y u.y) (int_lt (orient u v p) (pos 0)) (not_below_zero (orient u v p) sign))

-- the east edge, which rises, counts for the places level with it that are west of it
east_counts : (p u v : Place) → IsPlaceAt u (pos 4900) (pos 500) → IsPlaceAt v (pos 4900) (pos 900) → p.x <ℤ pos 4500 → counts_for p (u, v) ≡ level_with p
east_counts p u v at_u at_v west =
    let o : orient u v p ≡ (pos 400 *ℤ pos 4900) -ℤ (pos 400 *ℤ p.x) = straight p u v (pos 4900) (pos 500) (pos 900) at_u.0 at_v.0 at_u.1 at_v.1 ∙ up_by (pos 4900) p.x in
    let sign : pos 0 <ℤ orient u v p = omega (arith, ints, o, west) in
    let ey = at_u.1 in
    let fy = at_v.1 in
    only_first (int_le u.y p.y && int_lt p.y v.y && int_lt (pos 0) (orient u v p)) (int_le v.y p.y && int_lt p.y u.y && int_lt (orient u v p) (pos 0))
    (never v.y u.y p.y (omega (arith, ints, ey, fy)) (int_lt (orient u v p) (pos 0)))
    ∙ all_of (int_le u.y p.y) (int_lt p.y v.y) (int_lt (pos 0) (orient u v p)) (above_zero (orient u v p) sign)
    ∙ ap (λ (z : ℤ). int_le z p.y && int_lt p.y v.y) at_u.1
    ∙ ap (λ (z : ℤ). int_le (pos 500) p.y && int_lt p.y z) at_v.1

east_counts_not : (p u v : Place) → IsPlaceAt u (pos 4900) (pos 500) → IsPlaceAt v (pos 4900) (pos 900) → pos 4900 <ℤ p.x → counts_for p (u, v) ≡ false
east_counts_not p u v at_u at_v east =
    let o : orient u v p ≡ (pos 400 *ℤ pos 4900) -ℤ (pos 400 *ℤ p.x) = straight p u v (pos 4900) (pos 500) (pos 900) at_u.0 at_v.0 at_u.1 at_v.1 ∙ up_by (pos 4900) p.x in
    let sign : orient u v p <ℤ pos 0 = omega (arith, ints, o, east) in
    let ey = at_u.1 in
    let fy = at_v.1 in
    neither (int_le u.y p.y && int_lt p.y v.y && int_lt (pos 0) (orient u v p)) (int_le v.y p.y && int_lt p.y u.y && int_lt (orient u v p) (pos 0))
    (none_third (int_le u.y p.y) (int_lt p.y v.y) (int_lt (pos 0) (orient u v p)) (not_above_zero (orient u v p) sign))
    (never v.y u.y p.y (omega (arith, ints, ey, fy)) (int_lt (orient u v p) (pos 0)))

-- of four, two that are tested alike and two that fail
even_of : {X : Type 0} (f : X → Bool) (e1 e2 e3 e4 : X) (b : Bool) → f e1 ≡ b → f e2 ≡ false → f e3 ≡ b → f e4 ≡ false → count_by f (e1 ∷ e2 ∷ e3 ∷ e4 ∷ []) % 2 ≡ 0
even_of f e1 e2 e3 e4 true h1 h2 h3 h4 = rw (h1, h2, h3, h4) refl
even_of f e1 e2 e3 e4 false h1 h2 h3 h4 = rw (h1, h2, h3, h4) refl

-- an even number of edges counts
even_edges : (p a b c d : Place) → IsPlaceAt a (pos 4500) (pos 500) → IsPlaceAt b (pos 4900) (pos 500) → IsPlaceAt c (pos 4900) (pos 900) → IsPlaceAt d (pos 4500) (pos 900) → IsBesideAt p.x
    → count_by (counts_for p) (edges (a ∷ b ∷ c ∷ d ∷ [])) % 2 ≡ 0
even_edges p a b c d at_a at_b at_c at_d (inl west) =
    even_of (counts_for p) (d, a) (a, b) (b, c) (c, d) (level_with p) (west_counts p d a at_d at_a west) (level p a b (pos 500) at_a.1 at_b.1) (east_counts p b c at_b at_c west) (level p c d (pos 900) at_c.1 at_d.1)
even_edges p a b c d at_a at_b at_c at_d (inr east) =
    even_of (counts_for p) (d, a) (a, b) (b, c) (c, d) false (west_counts_not p d a at_d at_a east) (level p a b (pos 500) at_a.1 at_b.1) (east_counts_not p b c at_b at_c east) (level p c d (pos 900) at_c.1 at_d.1)

-- a place beside the square is outside of it
pub IsOutside-beside : (p a b c d : Place) → IsPlaceAt a (pos 4500) (pos 500) → IsPlaceAt b (pos 4900) (pos 500) → IsPlaceAt c (pos 4900) (pos 900) → IsPlaceAt d (pos 4500) (pos 900) → IsBesideAt p.x
    → IsOutside p (a ∷ b ∷ c ∷ d ∷ [])
IsOutside-beside p a b c d at_a at_b at_c at_d beside =
    let P : Place × Place → Type 0 = λ e. ¬ (IsOn p e.0 e.1) in
    let a_in = in_west a (pos 500) at_a in
    let b_in = in_east b (pos 500) at_b in
    let c_in = in_east c (pos 900) at_c in
    let d_in = in_west d (pos 900) at_d in
    record {
      on_no_edge = All-cons P (d, a) ((a, b) ∷ (b, c) ∷ (c, d) ∷ []) (not_on p d a d_in a_in beside)
          (All-cons P (a, b) ((b, c) ∷ (c, d) ∷ []) (not_on p a b a_in b_in beside)
          (All-cons P (b, c) ((c, d) ∷ []) (not_on p b c b_in c_in beside)
          (All-cons P (c, d) [] (not_on p c d c_in d_in beside) (All-nil P))));
      even = even_edges p a b c d at_a at_b at_c at_d beside;
    }
