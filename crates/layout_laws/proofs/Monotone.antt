-- Costs at greater loads.
use Rattle.std.proofs.Common.{ℕ, ◌+◌, ◌*◌, ◌≤◌, List, Option, Some, None, slice_get, arith, mul-le-mul}
use Rattle.cable_definitions.specs.declared.cable.Cable.{Cable}
use Rattle.cable_definitions.specs.declared.site.CableType.{CableType}
use Rattle.cable_definitions.specs.Site.{Site}
use Rattle.cable_definitions.specs.Arcs.{IsCandidate, power_of, cost_by, cost_from, cost_of, length_between, charge_of, Bears, IsCheapest}
use Rattle.cable_definitions.specs.Walk.{load}
use Rattle.cable_definitions.specs.Layout.{IsCable, KeepsCapacity, KeepsRange, KeepsCandidate}
use Rattle.cable_definitions.specs.Budget.{IsLeastOut}
use Rattle.layout_laws.proofs.Flow.{power_of-le-own_load}
use Rattle.layout_laws.proofs.Typing.{cheapest-le}
use Rattle.layout_laws.proofs.Typed.{bears-own}

-- a greater number has the greater square, times the loss
squares-le : (loss low high : ℕ) → low ≤ high → loss * low * low ≤ loss * high * high
squares-le loss low high h =
    let a : loss ≤ loss = omega arith in
    let b : loss * low ≤ loss * high = mul-le-mul a h in
    mul-le-mul b h

-- a cable of one length and type costs no less at a greater load
pub cost_by-le : (length : ℕ) (t : CableType) (low high charge : ℕ) → low ≤ high → cost_by length t low charge ≤ cost_by length t high charge
cost_by-le length t low high charge h = by length t.price t.loss (squares-le t.loss low high h)
  where
    by : (length price loss : ℕ) → loss * low * low ≤ loss * high * high → length * (price + loss * low * low) + charge ≤ length * (price + loss * high * high) + charge
    by length price loss l =
        let a : length ≤ length = omega arith in
        let b : price + loss * low * low ≤ price + loss * high * high = omega arith in
        let c : length * (price + loss * low * low) ≤ length * (price + loss * high * high) = mul-le-mul a b in
        plus (length * (price + loss * low * low)) (length * (price + loss * high * high)) c
      where
        plus : (m n : ℕ) → m ≤ n → m + charge ≤ n + charge
        plus m n l = omega arith

-- the same of type numbers
pub cost_of-le : (s : Site) (p q grade low high : ℕ) → low ≤ high → cost_of s p q grade low ≤ cost_of s p q grade high
cost_of-le s p q grade low high h = by (slice_get s.types grade)
  where
    by : (t : Option CableType) → cost_from s p q t low ≤ cost_from s p q t high
    by None = omega arith
    by (Some t) = cost_by-le (length_between (slice_get s.points p) (slice_get s.points q)) t low high (charge_of s p q) h

-- a type that bears a load bears each lower one
pub Bears-lower : (s : Site) (grade low high : ℕ) → low ≤ high → Bears s grade high → Bears s grade low
Bears-lower s grade low high h b = let l = b.enough in record { listed = b.listed; enough = omega arith }

-- at a lower load the cheapest type costs no more than any type that bears the greater load
pub cheapest-le_higher : (s : Site) (p q low high grade other : ℕ) → low ≤ high → IsCheapest s p q low grade → Bears s other high → cost_of s p q grade low ≤ cost_of s p q other high
cheapest-le_higher s p q low high grade other h c b =
    by (cost_of s p q grade low) (cost_of s p q other low) (cost_of s p q other high)
    (cheapest-le s p q low grade other c (Bears-lower s other low high h b)) (cost_of-le s p q other low high h)
  where
    by : (a b c : ℕ) → a ≤ b → b ≤ c → a ≤ c
    by a b c h k = omega arith

-- the cheapest types cost no less at a greater load
pub cheapest-monotone : (s : Site) (p q low high grade other : ℕ) → low ≤ high → IsCheapest s p q low grade → IsCheapest s p q high other → cost_of s p q grade low ≤ cost_of s p q other high
cheapest-monotone s p q low high grade other h c d = cheapest-le_higher s p q low high grade other h c d.bears

-- the least cost out of a point is at most the cost of any candidate arc at a load that is at least the point's power
pub least_out-le : (s : Site) (p q grade load least : ℕ) → IsLeastOut s p least → IsCandidate s p q → power_of s p ≤ load → Bears s grade load → least ≤ cost_of s p q grade load
least_out-le s p q grade load least l candidate h b =
    by (cost_of s p q grade (power_of s p)) (cost_of s p q grade load)
    (l.least q grade candidate (Bears-lower s grade (power_of s p) load h b)) (cost_of-le s p q grade (power_of s p) load h)
  where
    by : (b c : ℕ) → least ≤ b → b ≤ c → least ≤ c
    by b c h k = omega arith

-- each cable costs at least what the cheapest type costs at its start's own power
pub cable-le_cheapest : (s : Site) (cables : List Cable) → ((i : ℕ) → KeepsRange s cables i) → ((p : ℕ) → KeepsCapacity s cables p)
    → (i : ℕ) (c : Cable) → IsCable cables i c → (grade : ℕ) → IsCheapest s c.from c.to (power_of s c.from) grade
    → cost_of s c.from c.to grade (power_of s c.from) ≤ cost_of s c.from c.to c.grade (load s cables c.from)
cable-le_cheapest s cables range capacity i c h grade cheapest =
    cheapest-le_higher s c.from c.to (power_of s c.from) (load s cables c.from) grade c.grade (power_of-le-own_load s cables c.from) cheapest (bears-own s cables range capacity i c h)

-- and at least the least cost out of its start
pub cable-le_least : (s : Site) (cables : List Cable) → ((i : ℕ) → KeepsRange s cables i) → ((i : ℕ) → KeepsCandidate s cables i) → ((p : ℕ) → KeepsCapacity s cables p)
    → (i : ℕ) (c : Cable) → IsCable cables i c → (least : ℕ) → IsLeastOut s c.from least → least ≤ cost_of s c.from c.to c.grade (load s cables c.from)
cable-le_least s cables range candidate capacity i c h least l =
    least_out-le s c.from c.to c.grade (load s cables c.from) least l (candidate i c h) (power_of-le-own_load s cables c.from) (bears-own s cables range capacity i c h)
