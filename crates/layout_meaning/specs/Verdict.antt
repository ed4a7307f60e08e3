-- What a verdict says of a list of cables.
use Rattle.std.specs.Prelude.{◌≡◌, List}
use Rattle.cable_definitions.specs.declared.cable.Cable.{Cable}
use Rattle.cable_definitions.specs.Layout.{IsLegal, IsFirstBroken, cost}
use Rattle.cable_definitions.specs.Site.{Site}
use Rattle.layout_meaning.specs.declared.verdict.Verdict.{Verdict}
use Rattle.layout_meaning.specs.declared.verdict.Verdict.TheVariants.{Legal, Broken}

-- the cables are a legal layout of this cost, or this is the first broken rule with the two numbers that are named
abbrev pub IsVerdict : Site → List Cable → Verdict → Type 0
IsVerdict s cables (Legal c) = (IsLegal s cables) × (c ≡ cost s cables)
IsVerdict s cables (Broken rule a b) = IsFirstBroken s cables rule a b
