-- What a line behind the mode gives the builder of a site, and what is answered of it.
use Rattle.std.specs.Prelude.{◌≡◌, ◌≢◌, ℕ, ◌-◌, ◌^◌, ℤ, pos, List, Bool, true, false, Option, Some, None, Result, Ok, Err, IfOk, OnOk}
use Rattle.cable_definitions.specs.declared.site.Version.{Version}
use Rattle.cable_definitions.specs.declared.site.Version.TheVariants.{One, Two}
use Rattle.cable_definitions.specs.declared.site.SiteCode.{SiteCode}
use Rattle.cable_definitions.specs.declared.site.SiteCode.TheVariants.{Range, Shape}
use Rattle.cable_definitions.specs.Text.{Whole}
use Rattle.cable_definitions.specs.Items.{RawItem, TheEnd, Draft, IsGood, IsFirstCode, Adds, IsItemOf}
use Rattle.site_model.specs.declared.fault.BuildFault.{BuildFault}
use Rattle.site_model.specs.declared.fault.BuildFault.TheVariants.{Refused, Memory}
use Rattle.site_text.specs.declared.add.Progress.{Progress}
use Rattle.site_text.specs.declared.add.Progress.TheVariants.{Added}

-- the number that the builder is told: one beyond every range in the place of one that isn't spelled
abbrev pub told : Option ℤ → ℤ
told None = pos (2 ^ 127 - 1)
told (Some z) = z

-- the loss that the builder is told, which takes none in version 1
abbrev pub loss_for : Version → Option ℤ → Option ℤ
loss_for One loss = None
loss_for Two loss = Some (told loss)

-- the code of an item with a word that spells no number, where the builder was told one beyond every range in its place
abbrev pub unspelled : SiteCode → SiteCode
unspelled Range = Shape
unspelled code = code

-- what is answered of an item that the builder was told
abbrev pub answer_of : Result (Unit {0}) BuildFault → Bool → Result Progress BuildFault
answer_of (Ok u) is_spelled = Ok Added
answer_of (Err Memory) is_spelled = Err Memory
answer_of (Err (Refused code)) true = Err (Refused code)
answer_of (Err (Refused code)) false = Err (Refused (unspelled code))

-- the item is good after the items so far, and makes this of them
pub record TakesItem (d : Draft) (item : RawItem) (e : Draft) : Type 0 where
  pub good : IsGood d item
  pub adds : Adds d item e

-- what is answered of an item: it is added where it is good, and else refused by the first code that it breaks
pub record Answers (r : Result Progress BuildFault) (d : Draft) (item : RawItem) (e : Draft) : Type 0 where
  pub progress : IfOk r (λ p. p ≡ Added)
  pub takes : OnOk r (TakesItem d item e)
  pub refused : (code : SiteCode) → r ≡ Err (Refused code) → IsFirstCode d item code

-- the text of a line is an item before the end that is good after the items so far, and makes this of them
pub record TextAdds (d : Draft) (text : List ℕ) (e : Draft) : Type 0 where
  pub item : RawItem
  pub item_of : IsItemOf d.site.version (Whole text) item
  pub takes : TakesItem d item e
  pub other : item ≢ TheEnd

-- the text of a line is an item that breaks this code first
pub record TextBreaks (d : Draft) (text : List ℕ) (code : SiteCode) : Type 0 where
  pub item : RawItem
  pub item_of : IsItemOf d.site.version (Whole text) item
  pub first : IsFirstCode d item code
