-- Layouts that are reported.
use Rattle.std.specs.Prelude.{◌<◌, ◌≤◌, List, length}
use Rattle.cable_definitions.specs.declared.cable.Cable.{Cable}
use Rattle.cable_definitions.specs.Site.{Site}
use Rattle.cable_definitions.specs.Arcs.{capacity_of}
use Rattle.cable_definitions.specs.Walk.{load}

-- the cable joins points of the site by a type of the site that bears its load
pub record IsReported (s : Site) (cables : List Cable) (c : Cable) : Type 0 where
  pub from : c.from < length s.points
  pub to : c.to < length s.points
  pub grade : c.grade < length s.types
  pub borne : load s cables c.from ≤ capacity_of s c.grade
