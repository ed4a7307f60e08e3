-- Items of another shape.
use Rattle.std.specs.Prelude.{IsTrue, All, IsSome, cond, is_some, codes}
use Rattle.serde_json.specs.Data.{Data}
use Rattle.serde_json.specs.Find.{get}
use Rattle.cable_definitions.specs.Items.{RawItem, RawKind, APoint, Misshapen, is_readable, fields_of}
use Rattle.run_definitions.specs.Json.{whole, text, text_or_none}

-- the item can't be read, or one of its numbers is none
abbrev pub IsMisshapen : RawItem → Type 0
IsMisshapen item = ¬ (IsTrue (is_readable item) × All (λ f. IsSome f.value) (fields_of item))

-- a point of this kind, where a text stands as its name
abbrev pub named_point : RawKind → Data → RawItem
named_point kind d =
    cond (is_some (text (get (codes "name") d))) (APoint (text_or_none (get (codes "name") d)) (whole (get (codes "x") d)) (whole (get (codes "y") d)) kind) Misshapen
