-- What the words of a line say, with its numbers within their limits or not.
use Rattle.std.specs.Prelude.{◌≡◌, ℕ, pos, List, map, IsTrue}
use Rattle.cable_definitions.specs.declared.claim.Cause.{Cause}
use Rattle.cable_definitions.specs.declared.claim.Cause.TheVariants.{Form, Limit}
use Rattle.cable_definitions.specs.Refusal.{DocLine, RowLine, WorkLine, LayoutLine, RawClaim, AnOptimal, AGap, AnOpen, AnInfeasible, Phase, line_spelling, HasMembers, is_allowed, IsWithinLimits}
use Rattle.line_words.specs.declared.judging.ItemLine.{ItemLine}
use Rattle.line_words.specs.declared.judging.ItemLine.TheVariants.{Row, Work, Layout}
use Rattle.line_words.specs.declared.judging.NamedClaim.{NamedClaim}
use Rattle.line_words.specs.declared.judging.NamedClaim.TheVariants.{Optimal, Gap, Open, Infeasible}

-- the words are a line that may stand there
pub record IsStanding (phase : Phase) (ws : List (List ℕ)) (l : DocLine) : Type 0 where
  pub words_are : ws ≡ line_spelling l
  pub members : HasMembers l
  pub allowed : IsTrue (is_allowed phase l)

-- the words are a line that may stand there, with its numbers within their limits
pub record IsGoodLine (phase : Phase) (ws : List (List ℕ)) (l : DocLine) : Type 0 where
  pub standing : IsStanding phase ws l
  pub limits : IsWithinLimits l

-- the words are no line that may stand there, or one with a number beyond its limits
abbrev pub IsBad : Phase → List (List ℕ) → Cause → Type 0
IsBad phase ws Form = (l : DocLine) → ¬ (IsStanding phase ws l)
IsBad phase ws Limit = (l : DocLine) × IsStanding phase ws l × (¬ (IsWithinLimits l))
IsBad phase ws cause = ⊥

-- the line of an item, a row with these members
abbrev pub item_line : ItemLine → List ℕ → DocLine
item_line (Row kind) members = RowLine kind (map pos members)
item_line (Work node count) members = WorkLine (pos node) (pos count)
item_line (Layout count) members = LayoutLine (pos count)

-- the verdict of a line
abbrev pub verdict_of : NamedClaim → RawClaim
verdict_of (Optimal c) = AnOptimal (pos c)
verdict_of (Gap c b) = AGap (pos c) (pos b)
verdict_of (Open b name) = AnOpen (pos b) name.now
verdict_of Infeasible = AnInfeasible
