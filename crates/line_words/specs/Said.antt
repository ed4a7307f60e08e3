-- What the words of a line say, before its numbers are looked at.
use Rattle.std.specs.Prelude.{◌≡◌, ℕ, ◌≤◌, ℤ, List, ◌∷◌, length, codes, IsTrue}
use Rattle.cable_definitions.specs.declared.row.RowKind.{RowKind}
use Rattle.cable_definitions.specs.Row.{has_one_member}
use Rattle.cable_definitions.specs.Text.{kind_word}
use Rattle.cable_definitions.specs.Refusal.{RawAct, ASplit, AStop, AFull, ADeadRow, ADeadPair, ADeadLoad, ADeadLoop, ADeadPower, ADeadCeiling, RawClaim, AnOptimal, AGap, AnOpen, AnInfeasible}
use Rattle.line_words.specs.declared.said.SaidAct.{SaidAct}
use Rattle.line_words.specs.declared.said.SaidAct.TheVariants.{Split, Stop, Full, Row, Pair, Load, Loop, Power, Ceiling}
use Rattle.line_words.specs.declared.said.SaidClaim.{SaidClaim}
use Rattle.line_words.specs.declared.said.SaidClaim.TheVariants.{Optimal, Gap, Open, Infeasible}
use Rattle.line_words.specs.Numbers.{Is}

-- the words are a row line of this kind with these words for its members, which may be so many
pub record IsRow (ws : List (List ℕ)) (kind : RowKind) (members : List (List ℕ)) : Type 0 where
  pub words_are : ws ≡ codes "row" ∷ kind_word kind ∷ members
  pub some : 1 ≤ length members
  pub single : IsTrue (has_one_member kind) → length members ≡ 1

-- the act that is held
abbrev pub IsAct : SaidAct → RawAct → Type 0
IsAct (Split n) raw = (z : ℤ) × (raw ≡ ASplit z) × Is n z
IsAct Stop raw = raw ≡ AStop
IsAct Full raw = raw ≡ AFull
IsAct (Row n) raw = (z : ℤ) × (raw ≡ ADeadRow z) × Is n z
IsAct (Pair m n) raw = (y z : ℤ) × (raw ≡ ADeadPair y z) × Is m y × Is n z
IsAct (Load n) raw = (z : ℤ) × (raw ≡ ADeadLoad z) × Is n z
IsAct (Loop n) raw = (z : ℤ) × (raw ≡ ADeadLoop z) × Is n z
IsAct (Power n) raw = (z : ℤ) × (raw ≡ ADeadPower z) × Is n z
IsAct Ceiling raw = raw ≡ ADeadCeiling

-- the verdict that is held
abbrev pub IsClaim : SaidClaim → RawClaim → Type 0
IsClaim (Optimal n) raw = (z : ℤ) × (raw ≡ AnOptimal z) × Is n z
IsClaim (Gap m n) raw = (y z : ℤ) × (raw ≡ AGap y z) × Is m y × Is n z
IsClaim (Open n name) raw = (z : ℤ) × (raw ≡ AnOpen z name.now) × Is n z
IsClaim Infeasible raw = raw ≡ AnInfeasible
