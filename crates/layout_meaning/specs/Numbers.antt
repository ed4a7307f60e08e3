-- Numbers of the site, and starts that come again.
use Rattle.std.specs.Prelude.{◌≡◌, ℕ, ◌<◌, List, length}
use Rattle.cable_definitions.specs.declared.cable.Cable.{Cable}
use Rattle.cable_definitions.specs.Layout.{IsCable}
use Rattle.cable_definitions.specs.Site.{Site}

-- the start, the end and the type of the cable are of the site
pub record AreNumbers (s : Site) (c : Cable) : Type 0 where
  pub from : c.from < length s.points
  pub to : c.to < length s.points
  pub grade : c.grade < length s.types

-- one of the first so many cables starts in p
pub record IsEarlierStart (cables : List Cable) (count p : ℕ) : Type 0 where
  pub place : ℕ
  pub earlier : place < count
  pub cable : Cable
  pub is_cable : IsCable cables place cable
  pub start : cable.from ≡ p
