-- Cable lines, and the cables that they name.
use Rattle.std.specs.Prelude.{◌≡◌, ◌≢◌, ℕ, suc, ◌<◌, ℤ, pos, List, [], ◌∷◌, length, codes, Bool, true, false, All, Option}
use Rattle.cable_definitions.specs.declared.cable.Cable.{Cable}
use Rattle.cable_definitions.specs.declared.claim.Cause.{Cause}
use Rattle.cable_definitions.specs.declared.claim.Cause.TheVariants.{Form, Layout}
use Rattle.cable_definitions.specs.Site.{Site}
use Rattle.cable_definitions.specs.Numeral.{spelling}
use Rattle.cable_definitions.specs.Text.{name_of}
use Rattle.cable_definitions.specs.Refusal.{Phase, AtCables, AtAnyCables, Reader, DocLine}
use Rattle.proof_text.specs.Reading.{ReadsTo}

-- the numbers of the cable are of the site
pub record HasNumbersOf (s : Site) (c : Cable) : Type 0 where
  pub from : c.from < length s.points
  pub to : c.to < length s.points
  pub grade : c.grade < length s.types

-- the cable between the points of these names, with this type
pub record IsCableNamed (s : Site) (a b : List ℕ) (t : ℤ) (c : Cable) : Type 0 where
  pub listed : HasNumbersOf s c
  pub from : name_of s c.from ≡ a
  pub to : name_of s c.to ≡ b
  pub grade : t ≡ pos c.grade

-- where cables stand in order of start, the cable starts after all before it
abbrev pub IsAhead : Bool → List Cable → Cable → Type 0
IsAhead true cables c = All (λ d. d.from < c.from) cables
IsAhead false cables c = Unit {0}

-- so many cables are to come, in order of start or in any order
abbrev pub cables_left : Bool → ℕ → Phase
cables_left true k = AtCables k
cables_left false k = AtAnyCables k

-- a cable line of this site is to come behind these cables
abbrev pub AwaitsCable : Site → Bool → List Cable → Site → Reader → Type 0
AwaitsCable site ordered cables s r = (s ≡ site) × (k : ℕ) × (r.phase ≡ cables_left ordered (suc k)) × (r.cables ≡ cables)

-- the words of a cable line
abbrev pub cable_line_words : List ℕ → List ℕ → ℤ → List (List ℕ)
cable_line_words a b t = codes "cable" ∷ a ∷ b ∷ spelling t ∷ []

-- the words name this cable, which stands where it may
pub record IsCableLine (s : Site) (ordered : Bool) (cables : List Cable) (ws : List (List ℕ)) (c : Cable) : Type 0 where
  pub a : List ℕ
  pub b : List ℕ
  pub t : ℤ
  pub words_are : ws ≡ cable_line_words a b t
  pub named : IsCableNamed s a b t c
  pub ahead : IsAhead ordered cables c

-- the words are no cable line, or one that names no cable that may stand there
abbrev pub IsNoCable : Site → Bool → List Cable → List (List ℕ) → Cause → Type 0
IsNoCable s ordered cables ws Form = (a b : List ℕ) (t : ℤ) → ws ≢ cable_line_words a b t
IsNoCable s ordered cables ws Layout = (a b : List ℕ) × (t : ℤ) × (ws ≡ cable_line_words a b t) × ((c : Cable) → IsCableNamed s a b t c → ¬ (IsAhead ordered cables c))
IsNoCable s ordered cables ws cause = ⊥

-- so many cable lines lead a reader that has no cable from `before` to these cables
pub record ReadsCables (s : Site) (ordered : Bool) (count left : ℕ) (before after : Option (List ℕ)) (cables : List Cable) : Type 0 where
  pub read_lines : List DocLine
  pub lines_count : length read_lines ≡ length cables
  pub reads : (r : Reader) → r.phase ≡ cables_left ordered count → r.cables ≡ [] → ReadsTo s r before after read_lines (record r { phase = cables_left ordered left; cables = cables })
