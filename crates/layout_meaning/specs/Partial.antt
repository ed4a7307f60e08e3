-- Grown parts that have their cheapest types.
use Rattle.std.specs.Prelude.{List}
use Rattle.cable_definitions.specs.declared.cable.Cable.{Cable}
use Rattle.cable_definitions.specs.Site.{Site}
use Rattle.cable_definitions.specs.Part.{IsGrown, AreCheapTyped}

-- a site and some cables
pub record SitePart : Type 0 where
  pub site : Site
  pub cables : List Cable

-- all rules but `Unjoined` are kept, and each cable has the cheapest type that bears its load
pub record IsCheapPart (s : Site) (cables : List Cable) : Type 0 where
  pub grown : IsGrown s cables
  pub cheapest : AreCheapTyped s cables cables
