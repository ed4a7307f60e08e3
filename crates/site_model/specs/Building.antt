-- The items that the calls of a builder give.
use Rattle.std.specs.Prelude.{ℕ, ℤ, pos, List, Option, Some, None}
use Rattle.cable_definitions.specs.declared.site.Version.{Version}
use Rattle.cable_definitions.specs.declared.site.Version.TheVariants.{One, Two}
use Rattle.cable_definitions.specs.Items.{RawKind as KindItem, ATurbine, ASubstation, ABend, RawRule, ACharge, AClosing, RawItem, AType, APoint, APair, Stray}
use Rattle.site_model.specs.declared.raw.RawKind.{RawKind}
use Rattle.site_model.specs.declared.raw.RawKind.TheVariants.{Turbine, Substation, Bend}

-- the kind of a point with its numbers as they are given
abbrev pub kind_item : RawKind → KindItem
kind_item (Turbine power) = ATurbine (Some power)
kind_item (Substation feeders power) = ASubstation (Some feeders) (Some power)
kind_item Bend = ABend

-- the item of a cable type, which tells its loss in version 2 alone; told otherwise, it may not stand
abbrev pub type_item : Version → ℤ → ℤ → Option ℤ → RawItem
type_item One capacity price None = AType (Some capacity) (Some price) (Some (pos 0))
type_item One capacity price (Some loss) = Stray
type_item Two capacity price None = Stray
type_item Two capacity price (Some loss) = AType (Some capacity) (Some price) (Some loss)

-- the item of a point
abbrev pub point_item : List ℕ → ℤ → ℤ → RawKind → RawItem
point_item name x y kind = APoint name (Some x) (Some y) (kind_item kind)

-- the rule of a pair: a charge, or its closing where none is given
abbrev pub rule_item : Option ℤ → RawRule
rule_item None = AClosing
rule_item (Some amount) = ACharge (Some amount)

-- the item of a pair rule
abbrev pub pair_item : List ℕ → List ℕ → Option ℤ → RawItem
pair_item a b amount = APair a b (rule_item amount)
