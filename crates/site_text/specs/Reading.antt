-- How a site is read from lines, one line after another.
use Rattle.std.specs.Prelude.{◌≡◌, ◌≢◌, ℕ, ◌+◌, ◌-◌, ◌^◌, ◌≤◌, min, List, [], ◌∷◌, ◌++◌, length, Bool, false, Option, Some, None}
use Rattle.cable_definitions.specs.declared.site.Version.{Version}
use Rattle.cable_definitions.specs.declared.site.Mode.{Mode}
use Rattle.cable_definitions.specs.declared.site.Mode.TheVariants.{Tree}
use Rattle.cable_definitions.specs.declared.site.SiteCode.{SiteCode}
use Rattle.cable_definitions.specs.Text.{Whole, HasNoNewline}
use Rattle.cable_definitions.specs.Items.{RawItem, TheEnd, Draft, IsFirstCode, IsItemOf, IsItemAt, is_broken_line}
use Rattle.site_model.specs.declared.fault.BuildFault.{BuildFault}
use Rattle.site_model.specs.declared.fault.BuildFault.TheVariants.{Refused, Memory}
use Rattle.site_model.specs.declared.fault.SiteFault.{SiteFault}
use Rattle.site_model.specs.declared.fault.SiteFault.TheVariants.{Refused as RefusedSite, Memory as NoMemory}
use Rattle.cable_definitions.specs.Stream.{GivesFront}
use Rattle.cable_text.specs.Lines.{LinesState, StandsNext, next_number}
use Rattle.site_text.specs.Adding.{TakesItem}

-- how many lines were read after this many more, up to the last value of a count
abbrev pub lines_after : ℕ → ℕ → ℕ
lines_after lines more = min (lines + more) (2 ^ 64 - 1)

-- more lines than a site has
abbrev pub most_lines : ℕ
most_lines = 34100

-- the site so far behind the line of the version
abbrev pub versioned : Version → Draft
versioned version = record {
  stage = 1;
  site = record { version = version; mode = Tree; types = []; points = []; obstacles = []; pairs = [] };
  corners = [];
  missing = 0;
}

-- the site so far behind the line of the mode
abbrev pub begun : Version → Mode → Draft
begun version mode = record {
  stage = 2;
  site = record { version = version; mode = mode; types = []; points = []; obstacles = []; pairs = [] };
  corners = [];
  missing = 0;
}

-- the fault of a whole line that the builder refuses
abbrev pub fault_of_line : BuildFault → ℕ → SiteFault
fault_of_line (Refused code) place = RefusedSite code place false
fault_of_line Memory place = NoMemory

-- a whole line was read
pub record ReadsText (before after : Option (List ℕ)) (old new : LinesState) : Type 0 where
  pub finds : StandsNext before (Whole new.text) after
  pub plain : HasNoNewline new.text
  pub short : length new.text ≤ 4096
  pub number : new.number ≡ next_number old.lines
  pub lines : new.lines ≡ next_number old.lines
  pub no_fault : new.fault ≡ None

-- a line was read that says this item
pub record ReadsItemLine (version : Version) (item : RawItem) (before after : Option (List ℕ)) (old new : ℕ) : Type 0 where
  pub text : List ℕ
  pub plain : HasNoNewline text
  pub short : length text ≤ 4096
  pub gives : GivesFront before after (text ++ 10 ∷ [])
  pub item_of : IsItemOf version (Whole text) item
  pub lines : new ≡ next_number old

-- a line before the end was read that is good after the items so far, and makes this of them
pub record ReadsItem (d e : Draft) (before after : Option (List ℕ)) (old new : ℕ) : Type 0 where
  pub item : RawItem
  pub line : ReadsItemLine d.site.version item before after old new
  pub takes : TakesItem d item e
  pub other : item ≢ TheEnd

-- the line that stands next in the bytes is the first fault, after the items so far
pub record IsNextFault (d : Draft) (bytes : List ℕ) (code : SiteCode) (broken : Bool) : Type 0 where
  pub bad : RawItem
  pub rest : List ℕ
  pub bad_at : IsItemAt d.site.version bytes bad rest
  pub first : IsFirstCode d bad code
  pub broken_is : broken ≡ is_broken_line bad

-- the same of bytes that are told
abbrev pub FaultsNext : Draft → Option (List ℕ) → SiteCode → Bool → Type 0
FaultsNext d None code broken = Unit {0}
FaultsNext d (Some bytes) code broken = IsNextFault d bytes code broken

-- the next line is the first fault, and this is its place
pub record Faults (d : Draft) (bytes : Option (List ℕ)) (lines : ℕ) (code : SiteCode) (place : ℕ) (broken : Bool) : Type 0 where
  pub next : FaultsNext d bytes code broken
  pub place_is : place ≡ next_number lines
