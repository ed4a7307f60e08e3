-- Arcs with the length and the charge of their pairs.
use Rattle.std.proofs.Common.{◌≡◌, ℕ, ◌≤◌, slice_get, Some, None, Option, sym, ap, ◌∙◌, arith}
use Rattle.plane_geometry.proofs.Lengths.{length_is, length_small, IsLength-length_of}
use Rattle.cable_definitions.specs.declared.cable.Arc.{Arc}
use Rattle.cable_definitions.specs.declared.site.CableType.{CableType}
use Rattle.cable_definitions.specs.declared.site.Point.{Point}
use Rattle.cable_definitions.specs.Plane.{IsLength, length_of}
use Rattle.cable_definitions.specs.Site.{Site, IsValid}
use Rattle.cable_definitions.specs.Arcs.{IsPoint, length_between, charge_of, cost_by, cost_of}
use Rattle.site_model.specs.Measured.{IsMeasured}
use Rattle.site_model.proofs.Costs.{charge_small, cost_read, cost_from_read}

-- the length of two points that were read
pub between_is : (s : Site) (p q metres : ℕ) (from to : Point) → IsPoint s p from → IsPoint s q to → IsLength from.at to.at metres → metres ≡ length_between (slice_get s.points p) (slice_get s.points q)
between_is s p q metres from to f t l =
    length_is from.at to.at metres l
    ∙ ap (λ (x : Option Point). length_between x (Some to)) (sym f)
    ∙ ap (λ (x : Option Point). length_between (slice_get s.points p) x) (sym t)

-- no pair is longer than this
pub between_small : (a b : Option Point) → length_between a b ≤ 2828428
between_small a b = by a b
  where
    by : (a b : Option Point) → length_between a b ≤ 2828428
    by (Some p) (Some q) = length_small p.at q.at (length_of p.at q.at) (IsLength-length_of p.at q.at)
    by (Some p) None = omega arith
    by None q = omega arith

-- for callers: an arc with the length and the charge of its pair is no longer than this
pub measured_short : (s : Site) (a : Arc) → IsMeasured s a → a.length ≤ 2828428
measured_short s a m = omega (arith, m.metres, between_small (slice_get s.points a.from) (slice_get s.points a.to))

-- and its charge is no more than this
pub measured_cheap : (s : Site) (a : Arc) → IsValid s → IsMeasured s a → a.charge ≤ 1000000000000
measured_cheap s a v m = omega (arith, m.charged, charge_small s a.from a.to v)

-- the cost on an arc
pub cost_on_is : (s : Site) (a : Arc) (grade load : ℕ) (t : CableType) → IsMeasured s a → slice_get s.types grade ≡ Some t → cost_by a.length t load a.charge ≡ cost_of s a.from a.to grade load
cost_on_is s a grade load t m h =
    ap (λ (l : ℕ). cost_by l t load a.charge) m.metres
    ∙ ap (λ (charge : ℕ). cost_by (length_between (slice_get s.points a.from) (slice_get s.points a.to)) t load charge) m.charged
    ∙ ap (λ (x : Option CableType). cost_read (slice_get s.points a.from) (slice_get s.points a.to) x load (charge_of s a.from a.to)) (sym h)
    ∙ sym (cost_from_read s a.from a.to load (slice_get s.types grade))
