-- The least cost of the arcs out of a point that aren't marked unused, arc by arc.
use Rattle.std.proofs.Common.{◌≡◌, ◌≢◌, ℕ, ◌+◌, ◌<◌, ◌≤◌, ◌⊎◌, inl, inr, List, length, slice_get, Option, Some, None, IfSome, IfNone, min, below_more, refl, ◌∙◌, subst, arith}
use Rattle.std.proofs.lemmas.Bool.{cases_lt}
use Rattle.std.proofs.lemmas.Option.{slice_get_cases}
use Rattle.number_laws.proofs.Places.{same_item}
use Rattle.cable_definitions.specs.declared.cable.Arc.{Arc}
use Rattle.cable_definitions.specs.declared.row.Mark.{Mark}
use Rattle.cable_definitions.specs.declared.row.Mark.TheVariants.{Unused}
use Rattle.cable_definitions.specs.Site.{Site}
use Rattle.cable_definitions.specs.Arcs.{Bears, power_of, cost_of}
use Rattle.candidate_cables.specs.Tables.{IsFirstFrom}
use Rattle.site_model.specs.Best.{most_cost}
use Rattle.turbine_weights.specs.Turbines.{IsLeft, IsLeastLeft}
use Rattle.candidate_cables.specs.OwnCosts.{IsOwnCost}
use Rattle.candidate_cables.proofs.OwnCosts.{own_cost-least}
use Rattle.turbine_weights.specs.Least.{lesser_cost}

-- what a least cost says of arc number b
abbrev pub IsUnder : Site → List Arc → List Mark → ℕ → ℕ → ℕ → Type 0
IsUnder s arcs marks p cost b = (other : ℕ) (beside : Arc) → IsLeft arcs marks p b beside → Bears s other (power_of s p) → cost ≤ cost_of s p beside.to other (power_of s p)

-- the least cost of an arc out of p below number n that isn't marked unused
pub record IsLeastLeftBelow (s : Site) (arcs : List Arc) (marks : List Mark) (p n cost : ℕ) : Type 0 where
  pub a : ℕ
  pub arc : Arc
  pub grade : ℕ
  pub is_left : IsLeft arcs marks p a arc
  pub bears : Bears s grade (power_of s p)
  pub reached : cost ≡ cost_of s p arc.to grade (power_of s p)
  pub least : (b : ℕ) → b < n → IsUnder s arcs marks p cost b

-- that cost, or none where there is no such arc
abbrev pub IsLeastBelow : Site → List Arc → List Mark → ℕ → ℕ → Option ℕ → Type 0
IsLeastBelow s arcs marks p n None = (a : ℕ) → a < n → (arc : Arc) → ¬ (IsLeft arcs marks p a arc)
IsLeastBelow s arcs marks p n (Some cost) = IsLeastLeftBelow s arcs marks p n cost

-- what is known of the cost of arc number n
pub record IsCostLeft (s : Site) (arcs : List Arc) (marks : List Mark) (n : ℕ) (cost : Option ℕ) : Type 0 where
  pub none : IfNone cost (slice_get marks n ≡ Some Unused)
  pub left : IfSome cost (λ c. slice_get marks n ≢ Some Unused)
  pub own : IfSome cost (λ c. (arc : Arc) → slice_get arcs n ≡ Some arc → IsOwnCost s arc c)

-- a mark that isn't `Unused`
pub mark_left : (marks : List Mark) (i : ℕ) (mark : Mark) → slice_get marks i ≡ Some mark → mark ≢ Unused → slice_get marks i ≢ Some Unused
mark_left marks i mark e n f = n (same_item marks i mark Unused e f)

-- the own cost of an arc is under those of its types
under_own : (s : Site) (arcs : List Arc) (marks : List Mark) (arc : Arc) (n cost low : ℕ) → slice_get arcs n ≡ Some arc → IsOwnCost s arc cost → low ≤ cost → IsUnder s arcs marks arc.from low n
under_own s arcs marks arc n cost low e own l other beside left bears =
    let same = same_item arcs n arc beside e left.listed in
    subst (λ (a : Arc). low ≤ cost_of s arc.from a.to other (power_of s arc.from)) same (omega (arith, l, own_cost-least s arc cost own other bears))

-- one arc more out of the point
more_left : (s : Site) (arcs : List Arc) (marks : List Mark) (arc : Arc) (n : ℕ) (least cost : Option ℕ) → slice_get arcs n ≡ Some arc → IsCostLeft s arcs marks n cost
    → IsLeastBelow s arcs marks arc.from n least → IsLeastBelow s arcs marks arc.from (n + 1) (lesser_cost least cost)
more_left s arcs marks arc n None None e c h = below_more (λ (k : ℕ). (other : Arc) → ¬ (IsLeft arcs marks arc.from k other)) n h (λ other left. left.not_unused c.none)
more_left s arcs marks arc n None (Some cost) e c h = record {
  a = n;
  arc = arc;
  grade = (c.own arc e).grade;
  is_left = record { listed = e; start = refl; not_unused = c.left };
  bears = (c.own arc e).cheapest.bears;
  reached = (c.own arc e).reached;
  least = below_more (IsUnder s arcs marks arc.from cost) n (λ k l other beside left. absurd (h k l beside left)) (under_own s arcs marks arc n cost cost e (c.own arc e) (omega arith));
}
more_left s arcs marks arc n (Some least) None e c h = record {
  a = h.a;
  arc = h.arc;
  grade = h.grade;
  is_left = h.is_left;
  bears = h.bears;
  reached = h.reached;
  least = below_more (IsUnder s arcs marks arc.from least) n h.least (λ other beside left. absurd (left.not_unused c.none));
}
more_left s arcs marks arc n (Some least) (Some cost) e c h = by (cases_lt cost least)
  where
    by : (cost < least) ⊎ (least ≤ cost) → IsLeastLeftBelow s arcs marks arc.from (n + 1) (min least cost)
    by (inl l) = let m : min least cost ≡ cost = omega arith in record {
      a = n;
      arc = arc;
      grade = (c.own arc e).grade;
      is_left = record { listed = e; start = refl; not_unused = c.left };
      bears = (c.own arc e).cheapest.bears;
      reached = m ∙ (c.own arc e).reached;
      least = below_more (IsUnder s arcs marks arc.from (min least cost)) n (λ k k_below other beside left b. omega (arith, m, l, h.least k k_below other beside left b)) (under_own s arcs marks arc n cost (min least cost) e (c.own arc e) (omega (arith, m)));
    }
    by (inr l) = let m : min least cost ≡ least = omega arith in record {
      a = h.a;
      arc = h.arc;
      grade = h.grade;
      is_left = h.is_left;
      bears = h.bears;
      reached = m ∙ h.reached;
      least = below_more (IsUnder s arcs marks arc.from (min least cost)) n (λ k k_below other beside left b. omega (arith, m, h.least k k_below other beside left b)) (under_own s arcs marks arc n cost (min least cost) e (c.own arc e) (omega (arith, m, l)));
    }

-- before the first arc out of the point
pub left_begin : (s : Site) (arcs : List Arc) (marks : List Mark) (p first : ℕ) → IsFirstFrom arcs p first → IsLeastBelow s arcs marks p first None
left_begin s arcs marks p first f a l arc left = omega (arith, f.earlier a arc l left.listed, left.start)

-- a place of a list has an element
pub some_at : {X : Type 0} → (xs : List X) (i : ℕ) → i < length xs → (x : X) × (slice_get xs i ≡ Some x)
some_at xs i l = elim (slice_get_cases xs i).1 [
  | inl h ↦ (h.0, h.2)
  | inr h ↦ absurd (omega (arith, h.0))
]

-- one arc more
pub left_more : (s : Site) (arcs : List Arc) (marks : List Mark) (p first past n : ℕ) (least cost : Option ℕ) → IsFirstFrom arcs p first → IsFirstFrom arcs (p + 1) past → first ≤ n → n < past
    → IsCostLeft s arcs marks n cost → IsLeastBelow s arcs marks p n least → IsLeastBelow s arcs marks p (n + 1) (lesser_cost least cost)
left_more s arcs marks p first past n least cost f g l k c =
    let here = some_at arcs n (omega (arith, k, g.within)) in
    let from : here.0.from ≡ p = omega (arith, f.later n here.0 l here.1, g.earlier n here.0 k here.1) in
    subst (λ (q : ℕ). IsLeastBelow s arcs marks q n least → IsLeastBelow s arcs marks q (n + 1) (lesser_cost least cost)) from (more_left s arcs marks here.0 n least cost here.1 c)

-- no arc out of the point comes past its last
left_within : (arcs : List Arc) (marks : List Mark) (p past n a : ℕ) (arc : Arc) → IsFirstFrom arcs (p + 1) past → past ≤ n → IsLeft arcs marks p a arc → a < n
left_within arcs marks p past n a arc g l left = elim (cases_lt a n) [
  | inl k ↦ k
  | inr k ↦ absurd (omega (arith, g.later a arc (omega arith) left.listed, left.start))
]

-- after all arcs
pub left_none : (s : Site) (arcs : List Arc) (marks : List Mark) (p past n : ℕ) (least : Option ℕ) → IsFirstFrom arcs (p + 1) past → past ≤ n → IsLeastBelow s arcs marks p n least
    → IfNone least ((a : ℕ) (arc : Arc) → ¬ (IsLeft arcs marks p a arc))
left_none s arcs marks p past n None g l h = λ a arc left. h a (left_within arcs marks p past n a arc g l left) arc left
left_none s arcs marks p past n (Some cost) g l h = tt

pub left_some : (s : Site) (arcs : List Arc) (marks : List Mark) (p past n : ℕ) (least : Option ℕ) → IsFirstFrom arcs (p + 1) past → past ≤ n → IsLeastBelow s arcs marks p n least
    → IfSome least (IsLeastLeft s arcs marks p)
left_some s arcs marks p past n None g l h = tt
left_some s arcs marks p past n (Some cost) g l h = record {
  a = h.a;
  arc = h.arc;
  grade = h.grade;
  is_left = h.is_left;
  bears = h.bears;
  reached = h.reached;
  least = λ b other beside left. h.least b (left_within arcs marks p past n b beside g l left) other beside left;
}

-- the lesser of two small costs is small
pub lesser_small : (least cost : Option ℕ) → IfSome least (λ n. n ≤ most_cost) → IfSome cost (λ n. n ≤ most_cost) → IfSome (lesser_cost least cost) (λ n. n ≤ most_cost)
lesser_small None cost h k = k
lesser_small (Some least) None h k = h
lesser_small (Some least) (Some cost) h k = omega (arith, h, k)
