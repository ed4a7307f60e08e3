-- The fields of a line that is written.
use Rattle.std.specs.Prelude.{ℕ, List, ◌∷◌}
use Rattle.std.specs.Fmt.{decimal}
use Rattle.cable_definitions.specs.Text.{number}
use Rattle.cable_definitions.specs.Report.{left_in, right_in}
use Rattle.cable_text.specs.declared.line.Field.{Field}
use Rattle.cable_text.specs.declared.line.Field.TheVariants.{Word, Number, Left, Right}

-- the text of a field, with its spaces where it asks for places
abbrev pub field_text : Field → List ℕ
field_text (Word word) = word.now
field_text (Number z) = number z
field_text (Left places text) = left_in places text.now
field_text (Right places value) = right_in places (decimal value)

-- a field with a space before it
abbrev pub spaced : Field → List ℕ
spaced field = 32 ∷ field_text field
