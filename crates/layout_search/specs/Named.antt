-- Cables whose numbers are of a site.
use Rattle.std.specs.Prelude.{◌<◌, length}
use Rattle.cable_definitions.specs.declared.cable.Cable.{Cable}
use Rattle.cable_definitions.specs.Site.{Site}

-- the start and the end are points of the site, and the type is one of its types
pub record IsNamed (s : Site) (c : Cable) : Type 0 where
  pub from : c.from < length s.points
  pub to : c.to < length s.points
  pub grade : c.grade < length s.types
