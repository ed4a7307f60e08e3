-- Cables between the points of a site.
use Rattle.std.specs.Prelude.{ℕ, ◌<◌, List, length}
use Rattle.cable_definitions.specs.declared.cable.Cable.{Cable}
use Rattle.cable_definitions.specs.Site.{Site}
use Rattle.cable_definitions.specs.Layout.{IsCable}

-- both ends of each cable are points of the site
abbrev pub JoinPoints : Site → List Cable → Type 0
JoinPoints s cables = (i : ℕ) (c : Cable) → IsCable cables i c → (c.from < length s.points) × (c.to < length s.points)
