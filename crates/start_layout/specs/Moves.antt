-- One cable ended elsewhere, and what that makes.
use Rattle.std.specs.Prelude.{◌≡◌, ℕ, ◌<◌, ◌≤◌, ◌==◌, cond, List, length, map, slice_get, Some}
use Rattle.cable_definitions.specs.declared.cable.Arc.{Arc}
use Rattle.cable_definitions.specs.declared.cable.Cable.{Cable}
use Rattle.cable_definitions.specs.Site.{Site}
use Rattle.cable_definitions.specs.Layout.{IsLegal, Starts, cost}
use Rattle.cable_definitions.specs.Part.{AreCheapTyped}

-- the cable, which ends in q if it starts in p
abbrev pub re_ended : ℕ → ℕ → Cable → Cable
re_ended p q c = record { from = c.from; to = cond (c.from == p) q c.to; grade = c.grade }

-- the same cables, of which those out of p end in q
abbrev pub with_end : List Cable → ℕ → ℕ → List Cable
with_end cables p q = map (re_ended p q) cables

-- with this arc's end the cheapest types make a legal layout of this cost
abbrev pub MakesLegal : Site → List Cable → Arc → ℕ → Type 0
MakesLegal s cables a c = (typed : List Cable) → AreCheapTyped s (with_end cables a.from a.to) typed → (IsLegal s typed) × (c ≡ cost s typed)

-- with this arc's end, where a cable starts in its start, they make no legal layout that costs less than the bound
abbrev pub MakesNoneBelow : Site → List Cable → ℕ → Arc → Type 0
MakesNoneBelow s cables bound a = Starts cables a.from → (typed : List Cable) → AreCheapTyped s (with_end cables a.from a.to) typed → IsLegal s typed → bound ≤ cost s typed

-- nor with the end of any of the first n arcs
abbrev pub AllMakeNoneBelow : Site → List Arc → List Cable → ℕ → ℕ → Type 0
AllMakeNoneBelow s arcs cables n bound = (k : ℕ) (a : Arc) → k < n → slice_get arcs k ≡ Some a → MakesNoneBelow s cables bound a

-- with this arc's end a legal layout of this cost is made, which is less than that of the cables
pub record IsMove (s : Site) (cables : List Cable) (least : ℕ) (a : Arc) : Type 0 where
  pub within : a.to < length s.points
  pub legal : MakesLegal s cables a least
  pub cheaper : least < cost s cables

-- such an arc, where no arc makes a cheaper one
pub record IsBestMove (s : Site) (arcs : List Arc) (cables : List Cable) (a : Arc) : Type 0 where
  pub least : ℕ
  pub move : IsMove s cables least a
  pub best : AllMakeNoneBelow s arcs cables (length arcs) least
