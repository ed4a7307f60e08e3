-- What a line or a member of a JSON site says, the site so far, and the first fault of a site. One relation serves lines, JSON and the builder.
use Rattle.std.specs.Prelude.{◌≡◌, ◌≢◌, ℕ, zero, suc, ◌+◌, ◌≤◌, ◌<◌, ◌⊎◌, ℤ, pos, neg_ℤ, ◌+ℤ◌, ◌≤ℤ◌, ◌<ℤ◌, List, [], ◌∷◌, ◌++◌, length, Bool, true, false, ◌&&◌, ◌==◌, nat_le, IsTrue, All, Any, sum_by, Option, Some, None, IsSome, is_some, codes}
use Rattle.cable_definitions.specs.declared.place.Place.{Place}
use Rattle.cable_definitions.specs.declared.site.Version.{Version}
use Rattle.cable_definitions.specs.declared.site.Version.TheVariants.{One, Two}
use Rattle.cable_definitions.specs.declared.site.Mode.{Mode}
use Rattle.cable_definitions.specs.declared.site.Mode.TheVariants.{Tree}
use Rattle.cable_definitions.specs.declared.site.Kind.{Kind}
use Rattle.cable_definitions.specs.declared.site.Kind.TheVariants.{Turbine, Substation, Bend}
use Rattle.cable_definitions.specs.declared.site.Point.{Point}
use Rattle.cable_definitions.specs.declared.site.CableType.{CableType}
use Rattle.cable_definitions.specs.declared.site.PairRule.{PairRule}
use Rattle.cable_definitions.specs.declared.site.PairRule.TheVariants.{Charge, Closed}
use Rattle.cable_definitions.specs.declared.site.Pair.{Pair}
use Rattle.cable_definitions.specs.declared.site.SiteCode.{SiteCode}
use Rattle.cable_definitions.specs.declared.site.SiteCode.TheVariants.{TooLong, Form, Shape, Range, BadName, SameName, SamePlace, UnknownName, SamePair, InObstacle, TooMany}
use Rattle.cable_definitions.specs.Naming.{IsName}
use Rattle.cable_definitions.specs.Plane.{IsOutside}
use Rattle.cable_definitions.specs.Site.{Site, version_number, latest_version}
use Rattle.cable_definitions.specs.Text.{IsWord, Reads, Piece, Whole, LongLine, CutLine, NoLine, IsNext, words, mode_word, name_of}

-- ---- items as they are written; a number is none where its word or member spells no number
-- the kind of a point, with its numbers
pub data RawKind : Type 0 where
  ATurbine : Option ℤ → RawKind
  ASubstation : Option ℤ → Option ℤ → RawKind
  ABend : RawKind

-- a charge on a pair, or its closing
pub data RawRule : Type 0 where
  ACharge : Option ℤ → RawRule
  AClosing : RawRule

-- An item, or what stands in the place of one: a JSON member of another shape, a line that is none of the forms (and in JSON the first type where
-- there is none), the input's end inside a line, a missing line, and a line that is too long.
pub data RawItem : Type 0 where
  AVersion : Option ℤ → RawItem
  AMode : Option Mode → RawItem
  AType : Option ℤ → Option ℤ → Option ℤ → RawItem
  APoint : List ℕ → Option ℤ → Option ℤ → RawKind → RawItem
  AnObstacle : Option ℤ → RawItem
  ACorner : Option ℤ → Option ℤ → RawItem
  APair : List ℕ → List ℕ → RawRule → RawItem
  TheEnd : RawItem
  Misshapen : RawItem
  Stray : RawItem
  Unended : RawItem
  Missing : RawItem
  Overlong : RawItem

-- a kind, as it is written
abbrev pub raw_kind : Kind → RawKind
raw_kind (Turbine power) = ATurbine (Some (pos power))
raw_kind (Substation feeders power) = ASubstation (Some (pos feeders)) (Some (pos power))
raw_kind Bend = ABend

-- the rule of a pair, as it is written
abbrev pub raw_rule : PairRule → RawRule
raw_rule (Charge amount) = ACharge (Some (pos amount))
raw_rule Closed = AClosing

-- ---- the site so far
-- What good items have given: a stage (0 where the version is to come, 1 the mode, 2 types, 3 points, 4 obstacles, 5 pair rules, 6 nothing), the
-- lists so far, and of an obstacle that isn't complete its corners so far and how many are still missing.
pub record Draft : Type 0 where
  pub stage : ℕ
  pub site : Site
  pub corners : List Place
  pub missing : ℕ

-- nothing was read yet; the version and the mode play no part before their items
abbrev pub empty_draft : Draft
empty_draft = record {
  stage = 0;
  site = record { version = One; mode = Tree; types = []; points = []; obstacles = []; pairs = [] };
  corners = [];
  missing = 0;
}

-- some type stands, and no obstacle lacks a corner
abbrev pub is_settled : Draft → Bool
is_settled d = nat_le 1 (length d.site.types) && (d.missing == 0)

-- whether the item may stand after the items so far
abbrev pub may_stand : Draft → RawItem → Bool
may_stand d (AVersion v) = d.stage == 0
may_stand d (AMode m) = d.stage == 1
may_stand d (AType capacity price loss) = d.stage == 2
may_stand d (APoint name x y kind) = is_settled d && nat_le d.stage 3
may_stand d (AnObstacle k) = is_settled d && nat_le d.stage 4
may_stand d (ACorner x y) = (d.stage == 4) && nat_le 1 d.missing
may_stand d (APair a b rule) = is_settled d && nat_le d.stage 5
may_stand d TheEnd = is_settled d && nat_le d.stage 5
may_stand d Misshapen = true
may_stand d Stray = false
may_stand d Unended = false
may_stand d Missing = false
may_stand d Overlong = false

-- a number with the least and the greatest that it may be
pub record Field : Type 0 where
  pub value : Option ℤ
  pub least : ℤ
  pub most : ℤ

-- a number that has to lie from least to most
abbrev pub within : Option ℤ → ℤ → ℤ → Field
within value least most = record { value = value; least = least; most = most }

-- a coordinate
abbrev pub coordinate : Option ℤ → Field
coordinate value = within value (neg_ℤ (pos 1000000)) (pos 1000000)

-- the numbers of a kind
abbrev pub kind_fields : RawKind → List Field
kind_fields (ATurbine power) = within power (pos 1) (pos 1000) ∷ []
kind_fields (ASubstation feeders power) = within feeders (pos 0) (pos 256) ∷ within power (pos 0) (pos 300000) ∷ []
kind_fields ABend = []

-- the number of a charge
abbrev pub rule_fields : RawRule → List Field
rule_fields (ACharge amount) = within amount (pos 0) (pos 1000000000000) ∷ []
rule_fields AClosing = []

-- the numbers of an item with their ranges
abbrev pub fields_of : RawItem → List Field
fields_of (AVersion v) = within v (pos 1) (pos latest_version) ∷ []
fields_of (AType capacity price loss) = within capacity (pos 1) (pos 10000) ∷ within price (pos 0) (pos 1000000) ∷ within loss (pos 0) (pos 100) ∷ []
fields_of (APoint name x y kind) = coordinate x ∷ coordinate y ∷ kind_fields kind
fields_of (AnObstacle k) = within k (pos 3) (pos 1024) ∷ []
fields_of (ACorner x y) = coordinate x ∷ coordinate y ∷ []
fields_of (APair a b rule) = rule_fields rule
fields_of item = []

-- whether the item is more than a member of another shape or a mode of another word
abbrev pub is_readable : RawItem → Bool
is_readable (AMode m) = is_some m
is_readable Misshapen = false
is_readable item = true

-- the names of an item
abbrev pub names_of : RawItem → List (List ℕ)
names_of (APoint name x y kind) = name ∷ []
names_of (APair a b rule) = a ∷ b ∷ []
names_of item = []

-- the number, where it is one, is within its range
abbrev pub IsWithin : Field → Type 0
IsWithin f = (z : ℤ) → f.value ≡ Some z → (f.least ≤ℤ z) × (z ≤ℤ f.most)

-- some point so far has this name
abbrev pub HasNamed : Draft → List ℕ → Type 0
HasNamed d name = Any (λ p. p.name ≡ name) d.site.points

-- the place whose coordinates these are
pub record IsAt (x y : Option ℤ) (at : Place) : Type 0 where
  pub x_is : x ≡ Some at.x
  pub y_is : y ≡ Some at.y

-- the point has the name of an earlier one
abbrev pub HasSameName : Draft → RawItem → Type 0
HasSameName d (APoint name x y kind) = HasNamed d name
HasSameName d item = ⊥

-- the point has the place of an earlier one
abbrev pub HasSamePlace : Draft → RawItem → Type 0
HasSamePlace d (APoint name x y kind) = Any (λ p. IsAt x y p.at) d.site.points
HasSamePlace d item = ⊥

-- the pair names no point so far
abbrev pub HasUnknownName : Draft → RawItem → Type 0
HasUnknownName d (APair a b rule) = (¬ (HasNamed d a)) ⊎ (¬ (HasNamed d b))
HasUnknownName d item = ⊥

-- the pair rule is on the two points of these names, in either order
abbrev pub IsOnNames : Site → List ℕ → List ℕ → Pair → Type 0
IsOnNames s a b p = ((name_of s p.a ≡ a) × (name_of s p.b ≡ b)) ⊎ ((name_of s p.a ≡ b) × (name_of s p.b ≡ a))

-- the pair names one point twice, or an unordered pair that an earlier rule is on
abbrev pub HasSamePair : Draft → RawItem → Type 0
HasSamePair d (APair a b rule) = (a ≡ b) ⊎ Any (IsOnNames d.site a b) d.site.pairs
HasSamePair d item = ⊥

-- the last corner of an obstacle that some point isn't outside of
abbrev pub HasPointInside : Draft → RawItem → Type 0
HasPointInside d (ACorner x y) = (d.missing ≡ 1) × ((corner : Place) × IsAt x y corner × Any (λ p. ¬ (IsOutside p.at (d.corners ++ corner ∷ []))) d.site.points)
HasPointInside d item = ⊥

-- the 257th point, the 9th type, the 65th obstacle, or an obstacle whose corners take the sum above 1,024
abbrev pub IsOneTooMany : Draft → RawItem → Type 0
IsOneTooMany d (AType capacity price loss) = 8 ≤ length d.site.types
IsOneTooMany d (APoint name x y kind) = 256 ≤ length d.site.points
IsOneTooMany d (AnObstacle k) = (64 ≤ length d.site.obstacles) ⊎ ((z : ℤ) × (k ≡ Some z) × (pos 1024 <ℤ (pos (sum_by length d.site.obstacles) +ℤ z)))
IsOneTooMany d item = ⊥

-- the item breaks the rule of this code after the items so far
abbrev pub Breaks : Draft → RawItem → SiteCode → Type 0
Breaks d item TooLong = item ≡ Overlong
Breaks d item Form = ¬ (IsTrue (may_stand d item))
Breaks d item Shape = ¬ (IsTrue (is_readable item) × All (λ f. IsSome f.value) (fields_of item))
Breaks d item Range = ¬ (All IsWithin (fields_of item))
Breaks d item BadName = ¬ (All IsName (names_of item))
Breaks d item SameName = HasSameName d item
Breaks d item SamePlace = HasSamePlace d item
Breaks d item UnknownName = HasUnknownName d item
Breaks d item SamePair = HasSamePair d item
Breaks d item InObstacle = HasPointInside d item
Breaks d item TooMany = IsOneTooMany d item

-- the number of a code, in the order of the rules
abbrev pub code_number : SiteCode → ℕ
code_number TooLong = 1
code_number Form = 2
code_number Shape = 3
code_number Range = 4
code_number BadName = 5
code_number SameName = 6
code_number SamePlace = 7
code_number UnknownName = 8
code_number SamePair = 9
code_number InObstacle = 10
code_number TooMany = 11

-- the least code among the rules that the item breaks
pub record IsFirstCode (d : Draft) (item : RawItem) (code : SiteCode) : Type 0 where
  pub broken : Breaks d item code
  pub least : (other : SiteCode) → code_number other < code_number code → ¬ (Breaks d item other)

-- the item breaks no rule
abbrev pub IsGood : Draft → RawItem → Type 0
IsGood d item = (code : SiteCode) → ¬ (Breaks d item code)

-- with a further corner: an obstacle that lacks no more is complete
abbrev pub with_corner : Draft → Place → ℕ → Draft
with_corner d corner zero = d
with_corner d corner (suc zero) = record d { site = record d.site { obstacles = d.site.obstacles ++ (d.corners ++ corner ∷ []) ∷ [] }; corners = []; missing = 0 }
with_corner d corner (suc (suc n)) = record d { corners = d.corners ++ corner ∷ []; missing = suc n }

-- what a good item makes of the site so far
abbrev pub Adds : Draft → RawItem → Draft → Type 0
Adds d (AVersion v) e = (version : Version) × (v ≡ Some (pos (version_number version))) × (e ≡ record d { stage = 1; site = record d.site { version = version } })
Adds d (AMode m) e = (mode : Mode) × (m ≡ Some mode) × (e ≡ record d { stage = 2; site = record d.site { mode = mode } })
Adds d (AType capacity price loss) e = (t : CableType) × (capacity ≡ Some (pos t.capacity)) × (price ≡ Some (pos t.price)) × (loss ≡ Some (pos t.loss))
    × (e ≡ record d { site = record d.site { types = d.site.types ++ t ∷ [] } })
Adds d (APoint name x y kind) e = (p : Point) × (p.name ≡ name) × IsAt x y p.at × (kind ≡ raw_kind p.kind)
    × (e ≡ record d { stage = 3; site = record d.site { points = d.site.points ++ p ∷ [] } })
Adds d (AnObstacle k) e = (n : ℕ) × (k ≡ Some (pos n)) × (e ≡ record d { stage = 4; corners = []; missing = n })
Adds d (ACorner x y) e = (corner : Place) × IsAt x y corner × (e ≡ with_corner d corner d.missing)
Adds d (APair a b rule) e = (p : Pair) × (p.a < length d.site.points) × (p.b < length d.site.points) × (name_of d.site p.a ≡ a) × (name_of d.site p.b ≡ b) × (rule ≡ raw_rule p.rule)
    × (e ≡ record d { stage = 5; site = record d.site { pairs = d.site.pairs ++ p ∷ [] } })
Adds d TheEnd e = e ≡ record d { stage = 6 }
Adds d item e = ⊥

-- the items are good, one after another, and lead from d to e
abbrev pub Builds : Draft → List RawItem → Draft → Type 0
Builds d [] e = e ≡ d
Builds d (item ∷ items) e = (f : Draft) × IsGood d item × Adds d item f × Builds f items e

-- The fault of a list of items: the first that breaks a rule, with the least code among those that it breaks; its place is counted from 1.
pub record IsItemFault (items : List RawItem) (code : SiteCode) (place : ℕ) : Type 0 where
  pub good : List RawItem
  pub bad : RawItem
  pub further : List RawItem
  pub draft : Draft
  pub items_are : items ≡ good ++ bad ∷ further
  pub builds : Builds empty_draft good draft
  pub first : IsFirstCode draft bad code
  pub place_is : place ≡ length good + 1

-- ---- items as lines
-- the mode that the word names; none where it names none
abbrev pub NamesMode : List ℕ → Option Mode → Type 0
NamesMode word (Some mode) = word ≡ mode_word mode
NamesMode word None = (mode : Mode) → word ≢ mode_word mode

-- `type CAPACITY PRICE` in version 1, where the loss is 0, and `type CAPACITY PRICE LOSS` in version 2
abbrev pub HasTypeWords : Version → List (List ℕ) → Option ℤ → Option ℤ → Option ℤ → Type 0
HasTypeWords One ws capacity price loss = (c p : List ℕ) × (ws ≡ codes "type" ∷ c ∷ p ∷ []) × Reads c capacity × Reads p price × (loss ≡ Some (pos 0))
HasTypeWords Two ws capacity price loss = (c p l : List ℕ) × (ws ≡ codes "type" ∷ c ∷ p ∷ l ∷ []) × Reads c capacity × Reads p price × Reads l loss

-- `turbine NAME X Y POWER`, `substation NAME X Y FEEDERS POWER` or `bend NAME X Y`
abbrev pub HasPointWords : List (List ℕ) → List ℕ → Option ℤ → Option ℤ → RawKind → Type 0
HasPointWords ws name x y (ATurbine power) = (u v w : List ℕ) × (ws ≡ codes "turbine" ∷ name ∷ u ∷ v ∷ w ∷ []) × Reads u x × Reads v y × Reads w power
HasPointWords ws name x y (ASubstation feeders power) = (u v f w : List ℕ) × (ws ≡ codes "substation" ∷ name ∷ u ∷ v ∷ f ∷ w ∷ []) × Reads u x × Reads v y × Reads f feeders × Reads w power
HasPointWords ws name x y ABend = (u v : List ℕ) × (ws ≡ codes "bend" ∷ name ∷ u ∷ v ∷ []) × Reads u x × Reads v y

-- `charge NAME NAME AMOUNT` or `closed NAME NAME`
abbrev pub HasPairWords : List (List ℕ) → List ℕ → List ℕ → RawRule → Type 0
HasPairWords ws a b (ACharge amount) = (w : List ℕ) × (ws ≡ codes "charge" ∷ a ∷ b ∷ w ∷ []) × Reads w amount
HasPairWords ws a b AClosing = ws ≡ codes "closed" ∷ a ∷ b ∷ []

-- the words of a line in this version say this item
abbrev pub HasWords : Version → List (List ℕ) → RawItem → Type 0
HasWords version ws (AVersion v) = (w : List ℕ) × (ws ≡ codes "site" ∷ w ∷ []) × Reads w v
HasWords version ws (AMode m) = (w : List ℕ) × (ws ≡ codes "mode" ∷ w ∷ []) × NamesMode w m
HasWords version ws (AType capacity price loss) = HasTypeWords version ws capacity price loss
HasWords version ws (APoint name x y kind) = HasPointWords ws name x y kind
HasWords version ws (AnObstacle k) = (w : List ℕ) × (ws ≡ codes "obstacle" ∷ w ∷ []) × Reads w k
HasWords version ws (ACorner x y) = (u v : List ℕ) × (ws ≡ codes "corner" ∷ u ∷ v ∷ []) × Reads u x × Reads v y
HasWords version ws (APair a b rule) = HasPairWords ws a b rule
HasWords version ws TheEnd = ws ≡ codes "end" ∷ codes "site" ∷ []
HasWords version ws item = ⊥

-- the line has words that say the item
pub record IsLineOf (version : Version) (text : List ℕ) (item : RawItem) : Type 0 where
  pub ws : List (List ℕ)
  pub are_words : All IsWord ws
  pub text_is : text ≡ words ws
  pub says : HasWords version ws item

-- the item of a line, or what stands in its place; a line that says no item is stray
abbrev pub IsItemOf : Version → Piece → RawItem → Type 0
IsItemOf version (Whole text) item = IsLineOf version text item ⊎ ((item ≡ Stray) × ((other : RawItem) → ¬ (IsLineOf version text other)))
IsItemOf version LongLine item = item ≡ Overlong
IsItemOf version CutLine item = item ≡ Unended
IsItemOf version NoLine item = item ≡ Missing

-- the next item of the bytes, and what is left
pub record IsItemAt (version : Version) (bytes : List ℕ) (item : RawItem) (rest : List ℕ) : Type 0 where
  pub piece : Piece
  pub next : IsNext bytes piece rest
  pub item_is : IsItemOf version piece item

-- the lines at the front of the bytes are these good items, which lead from d to e, and this is left
abbrev pub ReadsItems : Draft → List ℕ → List RawItem → Draft → List ℕ → Type 0
ReadsItems d bytes [] e rest = (e ≡ d) × (rest ≡ bytes)
ReadsItems d bytes (item ∷ items) e rest =
    (f : Draft) × (after : List ℕ) × IsItemAt d.site.version bytes item after × IsGood d item × Adds d item f × ReadsItems f after items e rest

-- the line is missing, too long or unended
abbrev pub is_broken_line : RawItem → Bool
is_broken_line Unended = true
is_broken_line Missing = true
is_broken_line Overlong = true
is_broken_line item = false

-- The fault of a site in lines at the front of the bytes: the first line up to `end site` that breaks a rule, with the least code among those that
-- it breaks. Its place is counted from `base`, the number of the first line; `broken_line` says whether the line is missing, too long or unended.
pub record IsLineFault (bytes : List ℕ) (base : ℕ) (code : SiteCode) (place : ℕ) (broken_line : Bool) : Type 0 where
  pub good : List RawItem
  pub draft : Draft
  pub left : List ℕ
  pub reads : ReadsItems empty_draft bytes good draft left
  pub not_ended : draft.stage ≢ 6
  pub bad : RawItem
  pub rest : List ℕ
  pub bad_at : IsItemAt draft.site.version left bad rest
  pub first : IsFirstCode draft bad code
  pub place_is : place ≡ base + length good
  pub broken_line_is : broken_line ≡ is_broken_line bad
