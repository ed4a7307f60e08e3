-- What layouts cost at least that differ in where the cable out of one point ends.
use Rattle.std.specs.Prelude.{ℕ, ◌<◌, ◌≤◌, ◌≢◌, ◌==◌, true, false, cond, List, length, take, sum_by, slice_index}
use Rattle.std.specs.List.{filter}
use Rattle.cable_definitions.specs.declared.cable.Cable.{Cable}
use Rattle.cable_definitions.specs.Site.{Site}
use Rattle.cable_definitions.specs.Arcs.{Bears, cost_of}
use Rattle.cable_definitions.specs.Walk.{load}
use Rattle.cable_definitions.specs.Layout.{IsCable, IsLegal}
use Rattle.cable_definitions.specs.Part.{AreCheapTyped}
use Rattle.start_layout.specs.declared.floors.Floor.{Floor}
use Rattle.start_layout.specs.Moves.{with_end}

-- the cables but those out of p
abbrev pub without : ℕ → List Cable → List Cable
without p cables = filter (λ c. cond (c.from == p) false true) cables

-- no type bears this load or a greater one from p to q for less
abbrev pub IsLeastCost : Site → ℕ → ℕ → ℕ → ℕ → Type 0
IsLeastCost s p q low least = (grade high : ℕ) → low ≤ high → Bears s grade high → least ≤ cost_of s p q grade high

-- what a cable of a list costs, or nothing where it starts in p
abbrev pub other_cost : Site → List Cable → ℕ → Cable → ℕ
other_cost s cables p c = cond (c.from == p) 0 (cost_of s c.from c.to c.grade (load s cables c.from))

-- each cable but that out of p costs at least what stands at its start, in each legal layout where the cable out of p ends in q
abbrev pub AreLeasts : Site → List Cable → ℕ → ℕ → List ℕ → Type 0
AreLeasts s cables p q leasts = (typed : List Cable) → AreCheapTyped s (with_end cables p q) typed → IsLegal s typed
    → (i : ℕ) (d : Cable) → IsCable typed i d → d.from ≢ p → slice_index leasts d.from ≤ cost_of s d.from d.to d.grade (load s typed d.from)

-- the first n cables but those out of p cost at least this much in each such layout
abbrev pub AreOthersAbove : Site → List Cable → ℕ → ℕ → ℕ → ℕ → Type 0
AreOthersAbove s cables p q n least = (typed : List Cable) → AreCheapTyped s (with_end cables p q) typed → IsLegal s typed
    → least ≤ sum_by (other_cost s typed p) (take n typed)

-- Wherever the cable out of the point ends, the others cost at least what the floor says, each and in all; and without that cable each cable bears
-- at least the load that stands at its start, and the cable out of the point the load of the floor.
pub record IsFloor (s : Site) (cables : List Cable) (f : Floor) : Type 0 where
  pub others_above : (q : ℕ) → AreOthersAbove s cables f.start q (length cables) f.others
  pub leasts_below : (q : ℕ) → AreLeasts s cables f.start q f.leasts
  pub loads_below : (r : ℕ) → r < length s.points → slice_index f.loads r ≤ load s (without f.start cables) r
  pub load_below : f.load ≤ load s (without f.start cables) f.start
