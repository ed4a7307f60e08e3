-- What the right side of a row sums of its points.
use Rattle.std.specs.Prelude.{ℕ}
use Rattle.cable_definitions.specs.Site.{Site}
use Rattle.cable_definitions.specs.Arcs.{kind_of, power_of}
use Rattle.cable_definitions.specs.Row.{inlet_limit, power_limit}
use Rattle.cable_rows.specs.declared.sides.Amount.{Amount}
use Rattle.cable_rows.specs.declared.sides.Amount.TheVariants.{Power, Inlets, Limit}

abbrev pub amount_of : Site → Amount → ℕ → ℕ
amount_of s Power q = power_of s q
amount_of s Inlets q = inlet_limit s.mode (kind_of s q)
amount_of s Limit q = power_limit (kind_of s q)
