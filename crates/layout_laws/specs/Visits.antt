-- How often a walk comes to a point, walks that end, and cables that leave a set of points.
use Rattle.std.specs.Prelude.{ℕ, List, Bool, ◌==◌, cond, sum_by, count_by, IsTrue}
use Rattle.cable_definitions.specs.declared.cable.Cable.{Cable}
use Rattle.cable_definitions.specs.Walk.{walk, walk_end, most_steps, passes}
use Rattle.cable_definitions.specs.Layout.{IsCable, Starts}

-- how many points of the walk of t of so many steps are p
abbrev pub visits : List Cable → ℕ → ℕ → ℕ → ℕ
visits cables p steps t = count_by (λ q. q == p) (walk steps cables t)

-- how often that walk comes to the starts of the cables that end in p
abbrev pub visits_into : List Cable → ℕ → ℕ → ℕ → ℕ
visits_into cables p steps t = sum_by (λ c. cond (c.to == p) (visits cables c.from steps t) 0) cables

-- each walk comes to a point that starts no cable
abbrev pub WalksEnd : List Cable → Type 0
WalksEnd cables = (t : ℕ) → ¬ (Starts cables (walk_end most_steps cables t))

-- The walk of t passes over this cable, which starts in the set and ends outside.
pub record LeavesBy (cables : List Cable) (inside : ℕ → Bool) (t : ℕ) (c : Cable) : Type 0 where
  pub place : ℕ
  pub is_cable : IsCable cables place c
  pub from : IsTrue (inside c.from)
  pub to : ¬ (IsTrue (inside c.to))
  pub passed : IsTrue (passes cables c.from t)
