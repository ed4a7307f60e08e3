-- Arcs with the length and the charge that a site gives them.
use Rattle.std.specs.Prelude.{◌≡◌, ◌<◌, length, slice_get}
use Rattle.cable_definitions.specs.declared.cable.Arc.{Arc}
use Rattle.cable_definitions.specs.Site.{Site}
use Rattle.cable_definitions.specs.Arcs.{length_between, charge_of}

-- the arc joins two points of the site, and has their length and the charge on their pair
pub record IsMeasured (s : Site) (a : Arc) : Type 0 where
  pub from : a.from < length s.points
  pub to : a.to < length s.points
  pub metres : a.length ≡ length_between (slice_get s.points a.from) (slice_get s.points a.to)
  pub charged : a.charge ≡ charge_of s a.from a.to
