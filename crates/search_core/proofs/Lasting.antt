-- Weights and their values where further rows are listed.
use Rattle.std.proofs.Common.{◌≡◌, ℕ, zero, suc, ◌<◌, ℤ, pos, ◌≤ℤ◌, ◌*ℤ◌, ◌-ℤ◌, ◌+ℤ◌, List, [], ◌∷◌, ◌++◌, length, get_or, slice_get, refl, sym, ◌∙◌, ap, subst, arith, length-append}
use Rattle.std.specs.Prelude.{All, ◌*◌, ◌^◌}
use Rattle.std.proofs.lemmas.Int.{ints}
use Rattle.cable_definitions.specs.declared.cable.Arc.{Arc}
use Rattle.cable_definitions.specs.declared.row.Mark.{Mark}
use Rattle.cable_definitions.specs.Site.{Site}
use Rattle.cable_definitions.specs.Row.{Row, on_use, on_load, right}
use Rattle.cable_definitions.specs.Choice.{AreLawful, IsValue, IsSumOfExtremes, AtMost, at_row, sum_weighted, reduced_cost, use_of, load_of, cost_of_choice}
use Rattle.number_laws.proofs.Sums.{sum_int-cons}
use Rattle.row_lifts.proofs.Settling.{one_value}
use Rattle.search_core.specs.Raised.{BeatLast}

-- a row below the length of the old ones is the same
same-place : (old rows : List Row) (i : ℕ) → i < length old → slice_get (old ++ rows) i ≡ slice_get old i
same-place [] rows i l = absurd (omega arith)
same-place (x ∷ xs) rows zero l = refl
same-place (x ∷ xs) rows (suc i) l = same-place xs rows i (omega arith)

-- so what the weighted rows sum to is the same
same-sum : (f : Row → ℤ) (old rows : List Row) (ws : List (ℕ × ℤ)) → All (λ w. w.0 < length old) ws → sum_weighted f (old ++ rows) ws ≡ sum_weighted f old ws
same-sum f old rows [] all = refl
same-sum f old rows (w ∷ ws) all =
    let here : w.0 < length old = all 0 w (omega arith) in
    let later = same-sum f old rows ws (λ i d l. all (suc i) d (omega (arith, l))) in
    let first = sum_int-cons (λ (v : ℕ × ℤ). v.1 *ℤ at_row f (slice_get (old ++ rows) v.0)) w ws in
    let second = sum_int-cons (λ (v : ℕ × ℤ). v.1 *ℤ at_row f (slice_get old v.0)) w ws in
    let same = ap (λ o. w.1 *ℤ at_row f o) (same-place old rows w.0 here) in
    omega (arith, ints, later, first, second, same)

-- and what each choice leaves of its cost
same-left : (s : Site) (old rows : List Row) (ws : List (ℕ × ℤ)) → All (λ w. w.0 < length old) ws → reduced_cost s (old ++ rows) ws ≡ reduced_cost s old ws
same-left s old rows ws all = λ i a arc choice.
    (pos (2 ^ 20 * cost_of_choice s arc choice)
    -ℤ same-sum (λ row. on_use row.kind row.members a arc.from arc.to) old rows ws all i *ℤ pos (use_of choice))
    -ℤ same-sum (λ row. on_load row.kind row.members arc.from arc.to) old rows ws all i *ℤ pos (load_of choice)

-- lawful weights are lawful still
pub lawful-still : (old rows new : List Row) (ws : List (ℕ × ℤ)) → new ≡ old ++ rows → AreLawful old ws → AreLawful new ws
lawful-still old rows new ws e h = record {
  ascending = h.ascending;
  listed = λ i d l. (let below = h.listed i d l in let more = ap length e ∙ length-append old rows in omega (arith, below, more));
  not_zero = h.not_zero;
  small = h.small;
  signs = λ i d l row f. h.signs i d l row (sym (same-place old rows (get_or ws i d).0 (h.listed i d l)) ∙ ap (λ (all : List Row). slice_get all (get_or ws i d).0) (sym e) ∙ f);
}

-- and their value is the same
pub value-still : (s : Site) (arcs : List Arc) (old rows new : List Row) (marks : List Mark) (ws : List (ℕ × ℤ)) (value : ℤ) → new ≡ old ++ rows → AreLawful old ws → IsValue s arcs old marks ws value
    → IsValue s arcs new marks ws value
value-still s arcs old rows new marks ws value e h is =
    subst (λ (all : List Row). IsValue s arcs all marks ws value) (sym e) (record {
      least = is.least;
      is_least = subst (λ f. IsSumOfExtremes AtMost s arcs marks f is.least) (sym (same-left s old rows ws h.listed)) is.is_least;
      sum = is.sum ∙ ap (λ (z : ℤ). z +ℤ is.least) (sym (same-sum (λ row. right s row.kind row.members) old rows ws h.listed));
    })

-- weights that are worth at least as much as weights of before have a value that is at least theirs
pub value-risen : (s : Site) (arcs : List Arc) (old rows new : List Row) (marks : List Mark) (before after : List (ℕ × ℤ)) (low high : ℤ) → new ≡ old ++ rows → AreLawful old before
    → IsValue s arcs old marks before low → IsValue s arcs new marks after high → (AreLawful new before → BeatLast s arcs new new marks before after) → low ≤ℤ high
value-risen s arcs old rows new marks before after low high e h is_low is_high beats =
    let beaten = beats (lawful-still old rows new before e h) in
    let same = one_value s arcs new marks before beaten.low low beaten.is_low (value-still s arcs old rows new marks before low e h is_low) in
    let more = beaten.at_least high is_high in
    omega (arith, ints, same, more)

-- weights that beat the last ones do so with a greater value, over further rows
pub beaten-still : (s : Site) (arcs : List Arc) (before mid after : List Row) (marks : List Mark) (last between weights : List (ℕ × ℤ)) (low high : ℤ) → BeatLast s arcs before mid marks last between
    → IsValue s arcs mid marks between low → IsValue s arcs after marks weights high → low ≤ℤ high → BeatLast s arcs before after marks last weights
beaten-still s arcs before mid after marks last between weights low high beats is_low is_high up = record {
  low = beats.low;
  is_low = beats.is_low;
  at_least = λ value is.
      let first = beats.at_least low is_low in
      let same = one_value s arcs after marks weights high value is_high is in
      omega (arith, ints, first, same, up);
}
