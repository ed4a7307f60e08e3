-- The edges of a closed polygon, from some corner on.
use Rattle.std.proofs.Common.{◌≡◌, ℕ, ◌+◌, ◌-◌, ◌%◌, ◌<◌, ◌≤◌, List, [], ◌∷◌, length, drop, get_or, Bool, true, false, cond, Some, refl, ap, sym, ◌∙◌, subst, arith}
use Rattle.std.specs.Prelude.{All, count_by, slice_get}
use Rattle.std.proofs.lemmas.List.{drop_more}
use Rattle.std.proofs.lemmas.List.Sums.{sum_by-cons}
use Rattle.std.proofs.lemmas.Option.{get_or_from_slice_get}
use Rattle.std.proofs.lemmas.List.Elements.{All-cons, All-head, All-tail, All-nil}
use Rattle.std.proofs.Math.ListN.{drop_of_length-le}
use Rattle.cable_definitions.specs.declared.place.Place.{Place}
use Rattle.cable_definitions.specs.Plane.{edges, edges_from, last_corner, counts_for, IsOn, IsOutside}

-- P lies on no edge of these
abbrev pub LiesOnNone : Place → List (Place × Place) → Type 0
LiesOnNone p es = All (λ e. ¬ (IsOn p e.0 e.1)) es

-- the last corner is the one at the last index
last_corner-index : (corner d : Place) (corners : List Place) → last_corner corner corners ≡ get_or (corner ∷ corners) (length corners) d
last_corner-index corner d [] = refl
last_corner-index corner d (next ∷ corners) = last_corner-index next d corners

-- the edges of a polygon are those from its last corner on
edges-from_last : (last : Place) (corners : List Place) → slice_get corners (length corners - 1) ≡ Some last → edges corners ≡ edges_from last corners
edges-from_last last [] e = refl
edges-from_last last (corner ∷ corners) e =
    let at : length (corner ∷ corners) - 1 ≡ length corners = omega arith in
    let g : get_or (corner ∷ corners) (length corners) last ≡ last = get_or_from_slice_get (corner ∷ corners) (length corners) last last (rw (sym at) e) in
    ap (λ (c : Place). edges_from c (corner ∷ corners)) (last_corner-index corner last corners ∙ g)

-- the edges from corner number i on: the next one leads from the corner before to that corner
edges_from-next : (before corner : Place) (corners : List Place) (i : ℕ) → i < length corners → corner ≡ get_or corners i corner
    → edges_from before (drop i corners) ≡ (before, corner) ∷ edges_from corner (drop (i + 1) corners)
edges_from-next before corner corners i h e =
    ap (edges_from before) (drop_more corners i corner h ∙ ap (λ (c : Place). c ∷ drop (i + 1) corners) (sym e))

-- Of the polygon's edges those to the first i corners were passed: so many of them count, P lies on none of them, and the rest follows.
pub record Passed (p : Place) (corners : List Place) (before : Place) (i counted : ℕ) : Type 0 where
  pub bound : counted ≤ i
  pub total : count_by (counts_for p) (edges corners) ≡ counted + count_by (counts_for p) (edges_from before (drop i corners))
  pub forth : LiesOnNone p (edges corners) → LiesOnNone p (edges_from before (drop i corners))
  pub back : LiesOnNone p (edges_from before (drop i corners)) → LiesOnNone p (edges corners)

pub Passed-none : (p last : Place) (corners : List Place) → slice_get corners (length corners - 1) ≡ Some last → Passed p corners last 0 0
Passed-none p last corners e =
    let same = edges-from_last last corners e in
    record {
      bound = omega arith;
      total = omega (arith, ap (count_by (counts_for p)) same);
      forth = λ h. subst (LiesOnNone p) same h;
      back = λ h. subst (LiesOnNone p) (sym same) h;
    }

pub Passed-on : (p before corner : Place) (corners : List Place) (i counted : ℕ) → i < length corners → corner ≡ get_or corners i corner → Passed p corners before i counted
    → IsOn p before corner → ¬ (LiesOnNone p (edges corners))
Passed-on p before corner corners i counted h e f on all =
    All-head (λ e. ¬ (IsOn p e.0 e.1)) (before, corner) (edges_from corner (drop (i + 1) corners)) (subst (LiesOnNone p) (edges_from-next before corner corners i h e) (f.forth all)) on

Passed-next : (p before corner : Place) (corners : List Place) (i counted : ℕ) → i < length corners → corner ≡ get_or corners i corner → Passed p corners before i counted
    → ¬ (IsOn p before corner) → Passed p corners corner (i + 1) (counted + cond (counts_for p (before, corner)) 1 0)
Passed-next p before corner corners i counted h e f off =
    let next = edges_from-next before corner corners i h e in
    record {
      bound = omega (arith, at_most_one (counts_for p (before, corner)), f.bound);
      total = omega (arith, f.total, ap (count_by (counts_for p)) next, sum_by-cons (λ e. cond (counts_for p e) 1 0) (before, corner) (edges_from corner (drop (i + 1) corners)));
      forth = λ all. All-tail (λ e. ¬ (IsOn p e.0 e.1)) (before, corner) (edges_from corner (drop (i + 1) corners)) (subst (LiesOnNone p) next (f.forth all));
      back = λ all. f.back (subst (LiesOnNone p) (sym next) (All-cons (λ e. ¬ (IsOn p e.0 e.1)) (before, corner) (edges_from corner (drop (i + 1) corners)) off all));
    }
  where
    at_most_one : (b : Bool) → cond b 1 0 ≤ 1
    at_most_one true = omega arith
    at_most_one false = omega arith

pub Passed-all : (p before : Place) (corners : List Place) (i counted : ℕ) → length corners ≤ i → Passed p corners before i counted
    → (counted % 2 ≡ 0 → IsOutside p corners) × (IsOutside p corners → counted % 2 ≡ 0)
Passed-all p before corners i counted h f =
    let done : edges_from before (drop i corners) ≡ [] = ap (edges_from before) (drop_of_length-le corners h) in
    let total : count_by (counts_for p) (edges corners) ≡ counted = omega (arith, f.total, ap (count_by (counts_for p)) done) in (
      λ even. record { on_no_edge = f.back (subst (LiesOnNone p) (sym done) (All-nil (λ e. ¬ (IsOn p e.0 e.1)))); even = ap (λ (n : ℕ). n % 2) total ∙ even },
      λ o. ap (λ (n : ℕ). n % 2) (sym total) ∙ o.even,
    )

-- how many edges were counted, with one that counts
counted_with : (b : Bool) (n : ℕ) → b ≡ true → n + cond b 1 0 ≡ n + 1
counted_with b n e = rw e refl

-- and with one that doesn't
counted_without : (b : Bool) (n : ℕ) → b ≡ false → n + cond b 1 0 ≡ n
counted_without b n e = rw e (omega arith)

pub Passed-counting : (p before corner : Place) (corners : List Place) (i counted : ℕ) → i < length corners → corner ≡ get_or corners i corner → Passed p corners before i counted
    → ¬ (IsOn p before corner) → counts_for p (before, corner) ≡ true → Passed p corners corner (i + 1) (counted + 1)
Passed-counting p before corner corners i counted h e f off g =
    subst (λ (n : ℕ). Passed p corners corner (i + 1) n) (counted_with (counts_for p (before, corner)) counted g) (Passed-next p before corner corners i counted h e f off)

pub Passed-skipping : (p before corner : Place) (corners : List Place) (i counted : ℕ) → i < length corners → corner ≡ get_or corners i corner → Passed p corners before i counted
    → ¬ (IsOn p before corner) → counts_for p (before, corner) ≡ false → Passed p corners corner (i + 1) counted
Passed-skipping p before corner corners i counted h e f off g =
    subst (λ (n : ℕ). Passed p corners corner (i + 1) n) (counted_without (counts_for p (before, corner)) counted g) (Passed-next p before corner corners i counted h e f off)
