-- A node as its reasons see it.
use Rattle.std.specs.Prelude.{◌≡◌, List, length}
use Rattle.cable_definitions.specs.declared.cable.Arc.{Arc}
use Rattle.cable_definitions.specs.declared.row.Mark.{Mark}
use Rattle.cable_definitions.specs.Site.{Site, IsValid}
use Rattle.cable_definitions.specs.Arcs.{AreArcs}
use Rattle.node_reasons.specs.Used.{UsedList, AreUsed}

-- a site, its arcs, and the node's mark of each
pub record NodeParts : Type 0 where
  pub site : Site
  pub arcs : List Arc
  pub marks : List Mark

-- the site is valid, the arcs are its own, each has a mark, and those that are marked used are gathered
pub record IsNodeBox (s : Site) (arcs : List Arc) (marks : List Mark) (used : UsedList) : Type 0 where
  pub valid : IsValid s
  pub are_arcs : AreArcs s arcs
  pub count : length marks ≡ length arcs
  pub gathered : AreUsed arcs marks used
