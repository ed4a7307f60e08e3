-- Powers that add up along one walk: each point that it passes is marked, and has the power once.
use Rattle.std.proofs.Common.{◌≡◌, ℕ, ◌+◌, ◌-◌, ◌<◌, ◌≤◌, List, length, replicate, Bool, true, false, cond, eqb, Some, None, arith, refl, sym, ap, ◌∙◌}
use Rattle.std.specs.Prelude.{◌||◌, slice_index}
use Rattle.std.proofs.lemmas.List.{get_or-replicate}
use Rattle.std.specs.List.{slice_index_or}
use Rattle.cable_definitions.specs.declared.cable.Cable.{Cable}
use Rattle.cable_definitions.specs.Walk.{passes, most_steps, cable_out}
use Rattle.layout_meaning.specs.Loads.{IsTally, Marks, AddsAlong}
use Rattle.layout_meaning.proofs.Walking.{comes_to, comes_on, comes_no_further, comes_last, comes_all}

-- nothing is marked yet
unmarked : (p : ℕ) → p < 256 → slice_index_or (replicate {A = Bool} 256 false) p false ≡ false
unmarked p h = get_or-replicate {A = Bool} 256 p false false h

pub tally_start : (base : List ℕ) (power : ℕ) → length base ≡ 256 → length (replicate {A = Bool} 256 false) ≡ 256 → IsTally base power (replicate 256 false) base
tally_start base power room marks = record {
  room = room;
  marks = marks;
  at = λ p h. let n : cond (slice_index_or (replicate {A = Bool} 256 false) p false) power 0 ≡ 0 = ap (λ (b : Bool). cond b power 0) (unmarked p h) in omega (arith, n);
}

pub passed_start : (cables : List Cable) (t p : ℕ) → p < 256 → passes cables p t ≡ (slice_index_or (replicate {A = Bool} 256 false) p false || comes_to cables p (most_steps - 0) t)
passed_start cables t p h = comes_all cables p t ∙ ap (λ (b : Bool). b || comes_to cables p (most_steps - 0) t) (sym (unmarked p h))

-- what is added is small
pub tally_small : (base : List ℕ) (power : ℕ) (met : List Bool) (loads : List ℕ) (p : ℕ) → IsTally base power met loads → power ≤ 1000 → p < 256 → slice_index base p ≤ 256000 → slice_index loads p ≤ 257000
tally_small base power met loads p t few h small = by (slice_index_or met p false) (t.at p h)
  where
    by : (b : Bool) → slice_index loads p ≡ slice_index base p + cond b power 0 → slice_index loads p ≤ 257000
    by true e = omega arith
    by false e = omega arith

or_or : (a b c : Bool) → (a || (b || c)) ≡ ((a || b) || c)
or_or true b c = refl
or_or false b c = refl

-- the walk goes on along a cable
pub passed_on : (cables : List Cable) (t p i at : ℕ) (c : Cable) (old new : List Bool) → p < 256 → i < 256 → cable_out cables at ≡ Some c → Marks at old new
    → passes cables p t ≡ (slice_index_or old p false || comes_to cables p (most_steps - i) at)
    → passes cables p t ≡ (slice_index_or new p false || comes_to cables p (most_steps - (i + 1)) c.to)
passed_on cables t p i at c old new h below out marks e =
    e
    ∙ ap (λ (b : Bool). slice_index_or old p false || b) (comes_on cables p i at c below out)
    ∙ or_or (slice_index_or old p false) (eqb at p) (comes_to cables p (most_steps - (i + 1)) c.to)
    ∙ ap (λ (b : Bool). b || comes_to cables p (most_steps - (i + 1)) c.to) (sym (marks p h))

-- the walk comes to no further point, so all points that it passes are marked
pub all_added : (cables : List Cable) (t power at : ℕ) (base loads : List ℕ) (old new : List Bool) → Marks at old new → IsTally base power new loads
    → ((p : ℕ) → p < 256 → passes cables p t ≡ (slice_index_or old p false || eqb at p)) → AddsAlong cables t power base loads
all_added cables t power at base loads old new marks tally all p h = tally.at p h ∙ ap (λ (b : Bool). slice_index base p + cond b power 0) (marks p h ∙ sym (all p h))

-- no cable goes on
pub passed_none : (cables : List Cable) (t p i at : ℕ) (old : List Bool) → i < 256 → cable_out cables at ≡ None
    → passes cables p t ≡ (slice_index_or old p false || comes_to cables p (most_steps - i) at) → passes cables p t ≡ (slice_index_or old p false || eqb at p)
passed_none cables t p i at old below out e = e ∙ ap (λ (b : Bool). slice_index_or old p false || b) (comes_no_further cables p i at below out)

-- no step is left
pub passed_last : (cables : List Cable) (t p i at : ℕ) (old : List Bool) → 256 ≤ i
    → passes cables p t ≡ (slice_index_or old p false || comes_to cables p (most_steps - i) at) → passes cables p t ≡ (slice_index_or old p false || eqb at p)
passed_last cables t p i at old past e = e ∙ ap (λ (b : Bool). slice_index_or old p false || b) (comes_last cables p i at past)
