-- The bytes that are a site, in lines or in JSON, and the fault of the bytes that are none.
use Rattle.std.specs.Prelude.{◌≡◌, ℕ, ◌≤◌, ◌<◌, ◌⊎◌, List, [], take, length, Bool, Some, IsTrue, IsUtf8, ◌∷◌}
use Rattle.serde_json.specs.Data.{Data}
use Rattle.serde_json.specs.Read.{read}
use Rattle.cable_definitions.specs.declared.site.SiteCode.{SiteCode}
use Rattle.cable_definitions.specs.declared.site.SiteCode.TheVariants.{TooLong, Form, Shape}
use Rattle.cable_definitions.specs.Site.{Site, IsValid}
use Rattle.cable_definitions.specs.Items.{Draft, empty_draft, Builds, IsItemFault, IsLineFault}
use Rattle.cable_definitions.specs.Document.{IsSiteAtFront, IsSiteText, IsFaultAfter}
use Rattle.run_definitions.specs.Json.{is_top, raw_items}

-- the input is in line form where its first byte is `s`
abbrev pub IsLineForm : List ℕ → Type 0
IsLineForm bytes = take 1 bytes ≡ 115 ∷ []

-- the bytes are UTF-8 and read as this tree
abbrev pub IsJsonTree : List ℕ → Data → Type 0
IsJsonTree bytes tree = IsUtf8 bytes × (read bytes ≡ Some tree)

-- the bytes are no longer than a JSON site may be, and their tree's items are all good and give this site
pub record IsJsonSite (bytes : List ℕ) (s : Site) : Type 0 where
  pub short : length bytes ≤ 8388608
  pub tree : Data
  pub is_tree : IsJsonTree bytes tree
  pub top : IsTrue (is_top tree)
  pub draft : Draft
  pub builds : Builds empty_draft (raw_items tree) draft
  pub site_is : draft.site ≡ s
  pub valid : IsValid s

-- The fault of a JSON text: it is too long, can't be read, or has another shape at the top; or else the fault of its items.
pub data IsJsonFault (bytes : List ℕ) : SiteCode → ℕ → Type 0 where
  too_long : 8388608 < length bytes → IsJsonFault bytes TooLong 0
  unreadable : length bytes ≤ 8388608 → ((tree : Data) → ¬ (IsJsonTree bytes tree)) → IsJsonFault bytes Form 0
  other_top : (tree : Data) → length bytes ≤ 8388608 → IsJsonTree bytes tree → ¬ (IsTrue (is_top tree)) → IsJsonFault bytes Shape 1
  of_items : (tree : Data) (code : SiteCode) (place : ℕ) → length bytes ≤ 8388608 → IsJsonTree bytes tree → IsTrue (is_top tree)
      → IsItemFault (raw_items tree) code place → IsJsonFault bytes code place

-- the bytes are this site: its lines, or a JSON text of it
abbrev pub IsSiteOf : List ℕ → Site → Type 0
IsSiteOf bytes s = IsSiteText bytes s ⊎ ((¬ (IsLineForm bytes)) × IsJsonSite bytes s)

-- the site that stands at the front of the bytes, in lines up to `end site`, or that a JSON text is; what follows `end site` plays no part
abbrev pub IsFrontSite : List ℕ → Site → Type 0
IsFrontSite bytes s = ((rest : List ℕ) × IsSiteAtFront bytes s rest) ⊎ ((¬ (IsLineForm bytes)) × IsJsonSite bytes s)

-- the fault of bytes in lines, of which nothing may follow the site
abbrev pub IsWholeLineFault : List ℕ → SiteCode → ℕ → Type 0
IsWholeLineFault bytes code place = ((broken_line : Bool) × IsLineFault bytes 1 code place broken_line) ⊎ IsFaultAfter bytes code place

-- the fault of the bytes that `plan` reads
abbrev pub IsPlanFault : List ℕ → SiteCode → ℕ → Type 0
IsPlanFault bytes code place = (IsLineForm bytes × IsWholeLineFault bytes code place) ⊎ ((¬ (IsLineForm bytes)) × IsJsonFault bytes code place)

-- the fault of the bytes that `site` reads: what follows `end site` plays no part
abbrev pub IsFrontFault : List ℕ → SiteCode → ℕ → Type 0
IsFrontFault bytes code place =
    (IsLineForm bytes × ((broken_line : Bool) × IsLineFault bytes 1 code place broken_line)) ⊎ ((¬ (IsLineForm bytes)) × IsJsonFault bytes code place)
