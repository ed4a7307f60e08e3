-- Claims that can be written.
use Rattle.std.specs.Prelude.{◌<◌, length}
use Rattle.cable_definitions.specs.declared.claim.Claim.{Claim}
use Rattle.cable_definitions.specs.declared.claim.Claim.TheVariants.{Optimal, Gap, Partial, Infeasible}
use Rattle.cable_definitions.specs.Site.{Site}

-- a turbine that the claim names is a point of the site
abbrev pub NamesPoint : Site → Claim → Type 0
NamesPoint s (Optimal cost) = Unit {0}
NamesPoint s (Gap cost bound) = Unit {0}
NamesPoint s (Partial bound stuck) = stuck < length s.points
NamesPoint s Infeasible = Unit {0}
