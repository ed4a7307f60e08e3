-- The first place at which something isn't kept.
use Rattle.std.specs.Prelude.{◌≢◌, ℕ, ◌<◌, List}
use Rattle.cable_definitions.specs.declared.cable.Cable.{Cable}
use Rattle.cable_definitions.specs.declared.cable.Rule.{Rule}
use Rattle.cable_definitions.specs.declared.cable.Rule.TheVariants.{Unjoined}
use Rattle.cable_definitions.specs.Layout.{IsCable, IsBefore, Keeps, rule_number}
use Rattle.cable_definitions.specs.Site.{Site}

-- it isn't kept at i, and is at all that is less
pub record IsFirst (Kept : ℕ → Type 0) (i : ℕ) : Type 0 where
  pub broken : ¬ (Kept i)
  pub earlier : (j : ℕ) → j < i → Kept j

-- this is the cable at the first place at which it isn't kept
pub record IsFirstCable (Kept : ℕ → Type 0) (cables : List Cable) (c : Cable) : Type 0 where
  pub place : ℕ
  pub cable : IsCable cables place c
  pub first : IsFirst Kept place

-- this cable starts in the first point at which it isn't kept
pub record IsFirstStart (Kept : ℕ → Type 0) (cables : List Cable) (c : Cable) : Type 0 where
  pub place : ℕ
  pub cable : IsCable cables place c
  pub first : IsFirst Kept c.from

-- it isn't kept at the pair (i, j), and is at all pairs before it
pub record IsFirstPair (Kept : ℕ → ℕ → Type 0) (i j : ℕ) : Type 0 where
  pub broken : ¬ (Kept i j)
  pub earlier : (k l : ℕ) → IsBefore k l i j → Kept k l

-- all rules of a number below n but `Unjoined` are kept
abbrev pub KeepsBelow : Site → List Cable → ℕ → Type 0
KeepsBelow s cables n = (rule : Rule) (i j : ℕ) → rule ≢ Unjoined → rule_number rule < n → Keeps s cables rule i j
