-- Turbines that are refused everywhere.
use Rattle.std.proofs.Common.{◌≡◌, ℕ, ◌<◌, inl, inr, List, length, arith}
use Rattle.std.specs.Prelude.{Result, Err}
use Rattle.std.proofs.lemmas.Option.{slice_get_within}
use Rattle.cable_definitions.specs.declared.cable.Cable.{Cable}
use Rattle.cable_definitions.specs.declared.cable.Rule.{Rule}
use Rattle.cable_definitions.specs.Site.{Site}
use Rattle.cable_definitions.specs.Arcs.{IsCandidate}
use Rattle.cable_definitions.specs.Part.{IsGrown, IsTarget, IsBlocked}
use Rattle.layout_meaning.specs.declared.joining.JoinFault.{JoinFault}
use Rattle.layout_meaning.specs.declared.joining.JoinFault.TheVariants.{Joined, Target, Candidate, Breaks}
use Rattle.layout_meaning.specs.Joining.{IsTaken, IsUnjoined, IsFreeArc, NeverGrown}

-- a free arc that is refused makes no grown part
pub refused : {A : Type 0} → (s : Site) (part : List Cable) (p q : ℕ) (r : Result A JoinFault) (fault : JoinFault) → r ≡ Err fault
    → (r ≡ Err Joined → IsTaken s part p)
    → (r ≡ Err Target → IsUnjoined s part p × (¬ (IsTarget s part q)))
    → (r ≡ Err Candidate → IsUnjoined s part p × IsTarget s part q × (¬ (IsCandidate s p q)))
    → ((rule : Rule) × (a : ℕ) × (b : ℕ) × (r ≡ Err (Breaks rule a b)) → IsFreeArc s part p q × NeverGrown s part p q)
    → IsFreeArc s part p q → NeverGrown s part p q
refused {A} s part p q r Joined e joined target candidate breaks free = absurd (by (joined e))
  where
    by : IsTaken s part p → ⊥
    by (inl n) = n free.unjoined.turbine
    by (inr h) = free.unjoined.not_joined h
refused {A} s part p q r Target e joined target candidate breaks free = absurd ((target e).1 free.target)
refused {A} s part p q r Candidate e joined target candidate breaks free = absurd ((candidate e).2 free.candidate)
refused {A} s part p q r (Breaks rule a b) e joined target candidate breaks free = (breaks (rule, a, b, e)).1

-- a turbine whose free arcs are all refused is blocked
pub blocked_where_refused : (s : Site) (part : List Cable) (p n : ℕ) → IsGrown s part → n ≡ length s.points
    → ((q : ℕ) → q < n → IsFreeArc s part p q → NeverGrown s part p q) → IsUnjoined s part p → IsBlocked s part p
blocked_where_refused s part p n grown count none u = record {
  grown = grown;
  turbine_is = u.turbine;
  not_joined = u.not_joined;
  no_arc = λ q typed target candidate arcs g.
      let within : q < length s.points = slice_get_within s.points q candidate.to candidate.to_is in
      none q (omega arith) (record { unjoined = u; target = target; candidate = candidate }) typed arcs g;
}
