-- What the writers of a document are given, and the text of a layout.
use Rattle.std.specs.Prelude.{ℕ, ◌<◌, List, [], ◌∷◌, ◌++◌, length, map, codes}
use Rattle.std.specs.List.{concat}
use Rattle.std.specs.Fmt.{decimal}
use Rattle.cable_definitions.specs.declared.cable.Cable.{Cable}
use Rattle.cable_definitions.specs.Site.{Site}
use Rattle.cable_definitions.specs.Text.{line, cable_line}

-- the ends of the cable are points of the site
pub record EndsAtPoints (s : Site) (c : Cable) : Type 0 where
  pub from : c.from < length s.points
  pub to : c.to < length s.points

-- the line with the number of cables, and the lines of the cables
abbrev pub layout_lines : Site → List Cable → List ℕ
layout_lines s cables = line (codes "layout" ∷ decimal (length cables) ∷ []) ++ concat (map (cable_line s) cables)

-- a space and a number
abbrev pub spaced_number : ℕ → List ℕ
spaced_number n = 32 ∷ decimal n
