-- The items of lines as the reader holds them, and what they stand for.
use Rattle.std.specs.Prelude.{◌≡◌, ℕ, ◌-◌, ◌^◌, ℤ, pos, negsuc, int_le, ◌&&◌, List, length, true, Option, Some, None, ◌⊎◌, if◌then◌else◌}
use Rattle.cable_definitions.specs.declared.site.Version.{Version}
use Rattle.cable_definitions.specs.declared.site.Mode.{Mode}
use Rattle.cable_definitions.specs.Text.{Reads, Whole}
use Rattle.cable_definitions.specs.Items.{RawKind, ATurbine, ASubstation, ABend, RawRule, ACharge, AClosing, RawItem, AVersion, AMode, AType, APoint, AnObstacle, ACorner, APair, TheEnd, Misshapen, Stray as AStray, Unended, Missing, Overlong, NamesMode, HasWords, IsItemOf}
use Rattle.site_text.specs.declared.item.ItemKind.{ItemKind}
use Rattle.site_text.specs.declared.item.ItemKind.TheVariants.{Turbine, Substation, Bend}
use Rattle.site_text.specs.declared.item.ItemRule.{ItemRule}
use Rattle.site_text.specs.declared.item.ItemRule.TheVariants.{Charge, Closing}
use Rattle.site_text.specs.declared.item.Item.{Item}
use Rattle.site_text.specs.declared.item.Item.TheVariants.{Version as VersionItem, Mode as ModeItem, CableType, Point, Obstacle, Corner, Pair, End, Stray}
use Rattle.site_text.specs.Words.{are_fields}

-- the kind of an item
abbrev pub kind_held : ItemKind → RawKind
kind_held (Turbine power) = ATurbine power
kind_held (Substation feeders power) = ASubstation feeders power
kind_held Bend = ABend

-- the rule of an item
abbrev pub rule_held : ItemRule → RawRule
rule_held (Charge amount) = ACharge amount
rule_held Closing = AClosing

-- an item as it is held
abbrev pub item_held : Item → RawItem
item_held (VersionItem v) = AVersion v
item_held (ModeItem m) = AMode m
item_held (CableType capacity price loss) = AType capacity price loss
item_held (Point name x y kind) = APoint name.now x y (kind_held kind)
item_held (Obstacle k) = AnObstacle k
item_held (Corner x y) = ACorner x y
item_held (Pair a b rule) = APair a.now b.now (rule_held rule)
item_held End = TheEnd
item_held Stray = AStray

-- a number as 128 bits hold it: one beyond them is held as the greatest
abbrev pub held_in_128 : ℤ → ℤ
held_in_128 z = if int_le (negsuc (2 ^ 127 - 1)) z && int_le z (pos (2 ^ 127 - 1)) then z else pos (2 ^ 127 - 1)

-- the same of what a word spells
abbrev pub held_number : Option ℤ → Option ℤ
held_number None = None
held_number (Some z) = Some (held_in_128 z)

-- the kind of a point with each of its numbers changed so
abbrev pub map_kind : (Option ℤ → Option ℤ) → RawKind → RawKind
map_kind f (ATurbine power) = ATurbine (f power)
map_kind f (ASubstation feeders power) = ASubstation (f feeders) (f power)
map_kind f ABend = ABend

-- the rule of a pair with its number changed so
abbrev pub map_rule : (Option ℤ → Option ℤ) → RawRule → RawRule
map_rule f (ACharge amount) = ACharge (f amount)
map_rule f AClosing = AClosing

-- an item with each of its numbers changed so
abbrev pub map_item : (Option ℤ → Option ℤ) → RawItem → RawItem
map_item f (AVersion v) = AVersion (f v)
map_item f (AMode m) = AMode m
map_item f (AType capacity price loss) = AType (f capacity) (f price) (f loss)
map_item f (APoint name x y kind) = APoint name (f x) (f y) (map_kind f kind)
map_item f (AnObstacle k) = AnObstacle (f k)
map_item f (ACorner x y) = ACorner (f x) (f y)
map_item f (APair a b rule) = APair a b (map_rule f rule)
map_item f TheEnd = TheEnd
map_item f Misshapen = Misshapen
map_item f AStray = AStray
map_item f Unended = Unended
map_item f Missing = Missing
map_item f Overlong = Overlong

-- an item with its numbers as they are held
abbrev pub held_item : RawItem → RawItem
held_item item = map_item held_number item

-- the word is read as this number, as it is held
pub record ReadsAs (word : List ℕ) (number : Option ℤ) : Type 0 where
  pub value : Option ℤ
  pub reads : Reads word value
  pub held_is : number ≡ held_number value

-- the word names this mode
abbrev pub NamesModeOf : List ℕ → Option Mode → Type 0
NamesModeOf word mode = NamesMode word mode

-- no word of these is empty
abbrev pub HaveNoEmpty : List (List ℕ) → Type 0
HaveNoEmpty ws = are_fields (length ws) ws ≡ true

-- the words say this item, as it is held, or it is stray and they say none
pub record IsSaid (version : Version) (ws : List (List ℕ)) (item : Item) : Type 0 where
  pub raw : RawItem
  pub held_is : item_held item ≡ held_item raw
  pub says : (HaveNoEmpty ws × HasWords version ws raw) ⊎ ((raw ≡ AStray) × ((other : RawItem) → HaveNoEmpty ws → HasWords version ws other → ⊥))

-- the line's text says this item, as it is held
pub record IsItemOfLine (version : Version) (text : List ℕ) (item : Item) : Type 0 where
  pub raw : RawItem
  pub held_is : item_held item ≡ held_item raw
  pub item_of : IsItemOf version (Whole text) raw
