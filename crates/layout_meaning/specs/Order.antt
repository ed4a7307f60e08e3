-- The order in which the cables of an arranged layout stand.
use Rattle.std.specs.Prelude.{◌≡◌, ◌<◌, ◌≤◌, ◌⊎◌}
use Rattle.cable_definitions.specs.declared.cable.Cable.{Cable}

-- by start, then by end, then by type; two equal cables stand in either order
abbrev pub ComesBefore : Cable → Cable → Type 0
ComesBefore c d = (c.from < d.from) ⊎ ((c.from ≡ d.from) × ((c.to < d.to) ⊎ ((c.to ≡ d.to) × (c.grade ≤ d.grade))))
