-- The rules of legal layouts, one by one, for callers.
use Rattle.std.proofs.Common.{ℕ, List}
use Rattle.cable_definitions.specs.declared.cable.Cable.{Cable}
use Rattle.cable_definitions.specs.declared.cable.Rule.{Rule}
use Rattle.cable_definitions.specs.declared.cable.Rule.TheVariants.{Range, Candidate, Start, Unjoined, Bend, Lost, Overload, Feeders, Power, Branch, Clash}
use Rattle.cable_definitions.specs.Site.{Site}
use Rattle.cable_definitions.specs.Layout.{Keeps, IsLegal, IsFirstBroken}

-- a legal layout keeps each rule at each place
pub kept_where_legal : (s : Site) (cables : List Cable) → IsLegal s cables → (rule : Rule) (i j : ℕ) → Keeps s cables rule i j
kept_where_legal s cables l Range i j = l.range i
kept_where_legal s cables l Candidate i j = l.candidate i
kept_where_legal s cables l Start i j = l.start i
kept_where_legal s cables l Unjoined p j = l.joined p
kept_where_legal s cables l Bend p j = l.bend p
kept_where_legal s cables l Lost p j = l.ends p
kept_where_legal s cables l Overload p j = l.capacity p
kept_where_legal s cables l Feeders p j = l.feeders p
kept_where_legal s cables l Power p j = l.power p
kept_where_legal s cables l Branch p j = l.string p
kept_where_legal s cables l Clash a b = l.clear a b

-- so none of them is broken
pub broken_not_legal : (s : Site) (cables : List Cable) (rule : Rule) (a b : ℕ) → IsFirstBroken s cables rule a b → ¬ (IsLegal s cables)
broken_not_legal s cables rule a b broken l = broken.broken (kept_where_legal s cables l rule broken.place broken.second_place)
