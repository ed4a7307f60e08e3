-- Arcs that are added to a grown part.
use Rattle.std.specs.Prelude.{◌⊎◌, ℕ, List, IsTrue, Result, Ok, Err}
use Rattle.cable_definitions.specs.declared.cable.Cable.{Cable}
use Rattle.cable_definitions.specs.declared.cable.Rule.{Rule}
use Rattle.cable_definitions.specs.Site.{Site}
use Rattle.cable_definitions.specs.Arcs.{IsCandidate, kind_of, is_turbine}
use Rattle.cable_definitions.specs.Layout.{Starts}
use Rattle.cable_definitions.specs.Part.{IsGrown, IsTarget, SameArcs, AreCheapTyped, IsFirstBrokenOfPart}
use Rattle.layout_laws.specs.Typable.{extended_by}
use Rattle.layout_meaning.specs.declared.joining.JoinFault.{JoinFault}
use Rattle.layout_meaning.specs.declared.joining.JoinFault.TheVariants.{Joined, Target, Candidate, Breaks}

-- a turbine of the site that the part doesn't join
pub record IsUnjoined (s : Site) (part : List Cable) (p : ℕ) : Type 0 where
  pub turbine : IsTrue (is_turbine (kind_of s p))
  pub not_joined : ¬ (Starts part p)

-- a candidate arc from such a turbine to a joined turbine or a substation
pub record IsFreeArc (s : Site) (part : List Cable) (from to : ℕ) : Type 0 where
  pub unjoined : IsUnjoined s part from
  pub target : IsTarget s part to
  pub candidate : IsCandidate s from to

-- such an arc, with which the part is grown when all cables have these cheapest types
pub record Joins (s : Site) (part : List Cable) (from to : ℕ) (typed : List Cable) : Type 0 where
  pub free : IsFreeArc s part from to
  pub cheapest : AreCheapTyped s (extended_by part from to) typed
  pub grown : IsGrown s typed

-- such an arc, with which the part breaks a rule when all cables have their cheapest types
pub record BreaksWith (s : Site) (part : List Cable) (from to : ℕ) (rule : Rule) (a b : ℕ) : Type 0 where
  pub free : IsFreeArc s part from to
  pub typed : List Cable
  pub cheapest : AreCheapTyped s (extended_by part from to) typed
  pub broken : IsFirstBrokenOfPart s typed rule a b

-- from is no turbine, or a cable starts there
abbrev pub IsTaken : Site → List Cable → ℕ → Type 0
IsTaken s part from = (¬ (IsTrue (is_turbine (kind_of s from)))) ⊎ (Starts part from)

-- no types make the part with the arc grown
abbrev pub NeverGrown : Site → List Cable → ℕ → ℕ → Type 0
NeverGrown s part from to = (typed : List Cable) → SameArcs typed (extended_by part from to) → ¬ (IsGrown s typed)

-- some arc from the point can be added
abbrev pub CanJoin : Site → List Cable → ℕ → Type 0
CanJoin s part from = (to : ℕ) × (typed : List Cable) × Joins s part from to typed

-- the part with the arc, or the first reason why it can't be added
abbrev pub IsJoining : Site → List Cable → ℕ → ℕ → Result (List Cable) JoinFault → Type 0
IsJoining s part from to (Ok typed) = Joins s part from to typed
IsJoining s part from to (Err Joined) = ¬ (IsUnjoined s part from)
IsJoining s part from to (Err Target) = IsUnjoined s part from × (¬ (IsTarget s part to))
IsJoining s part from to (Err Candidate) = IsUnjoined s part from × IsTarget s part to × (¬ (IsCandidate s from to))
IsJoining s part from to (Err (Breaks rule a b)) = BreaksWith s part from to rule a b
