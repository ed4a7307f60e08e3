-- The words that the program is called with.
use Rattle.std.specs.Prelude.{ℕ, List, map}
use Rattle.std.specs.declared.string.String.{String}
use Rattle.std.specs.String.{string_bytes}
use Rattle.cable_definitions.specs.declared.command.Command.{Command}
use Rattle.cable_definitions.specs.declared.command.Command.TheVariants.{Plan, Check, Site, Migrate, Judge, Report, Rings, Carry, Drill}
use Rattle.cable_definitions.specs.Command.{Spells}

-- the bytes of each word
abbrev pub texts : {Z : Type 0} → List (String Z) → List (List ℕ)
texts words = map string_bytes words

-- the words ask for a command that the program knows: they are spelled as the command is
abbrev pub AsksFor : List (List ℕ) → Command → Type 0
AsksFor words (Plan n lanes) = Spells words (Plan n lanes)
AsksFor words Check = Spells words Check
AsksFor words Site = Spells words Site
AsksFor words Migrate = ⊥
AsksFor words Judge = Spells words Judge
AsksFor words Report = Spells words Report
AsksFor words Rings = ⊥
AsksFor words Carry = ⊥
AsksFor words (Drill k turbines n) = Spells words (Drill k turbines n)

-- the words ask for no command that the program knows
abbrev pub IsNoCommand : List (List ℕ) → Type 0
IsNoCommand words = (command : Command) → ¬ (AsksFor words command)
