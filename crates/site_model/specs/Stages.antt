-- The stages of a builder, by the numbers of the definition.
use Rattle.std.specs.Prelude.{ℕ}
use Rattle.site_model.specs.declared.builder.Stage.{Stage}
use Rattle.site_model.specs.declared.builder.Stage.TheVariants.{Types, Points, Obstacles, Pairs}

-- the number of a stage
abbrev pub stage_number : Stage → ℕ
stage_number Types = 2
stage_number Points = 3
stage_number Obstacles = 4
stage_number Pairs = 5
