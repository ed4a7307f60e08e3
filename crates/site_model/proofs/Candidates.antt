-- A candidate arc by its tests.
use Rattle.std.proofs.Common.{◌≡◌, ◌≢◌, ℕ, ◌<◌, ◌≤◌, List, length, get_or, Some, Bool, false, IsTrue, ◌↔◌, sym, ◌∙◌, subst, ap, arith}
use Rattle.std.specs.Prelude.{All}
use Rattle.std.proofs.lemmas.Bool.{false≢true}
use Rattle.std.proofs.lemmas.Option.{slice_get_read}
use Rattle.cable_definitions.specs.declared.site.PairRule.TheVariants.{Closed}
use Rattle.cable_definitions.specs.declared.site.Point.{Point}
use Rattle.cable_definitions.specs.Plane.{edges}
use Rattle.cable_definitions.specs.Site.{Site}
use Rattle.cable_definitions.specs.Arcs.{IsPoint, IsCandidate, is_substation, rule_of, power_of_kind, largest_capacity}
use Rattle.site_model.specs.Passing.{PassesNone, IsClear}

-- a read point is the point of its number
pub point_is : (s : Site) (points : List Point) (p : ℕ) (point : Point) → points ≡ s.points → p < length s.points → point ≡ get_or points p point → IsPoint s p point
point_is s points p point e h r = slice_get_read s.points (length s.points) p point (omega arith) h (r ∙ ap (λ xs. get_or xs p point) e)

-- one number has one point
pub same_point : (s : Site) (p : ℕ) (a b : Point) → IsPoint s p a → IsPoint s p b → a ≡ b
same_point s p a b h k = cc

-- where all but the last test succeed, the last one decides
pub candidate_if : (s : Site) (p q : ℕ) (from to : Point) (clear : Bool) → IsPoint s p from → IsPoint s q to → is_substation from.kind ≡ false → p ≢ q
    → rule_of s p q ≢ Some Closed → power_of_kind from.kind ≤ largest_capacity s → PassesNone s.points p q from.at to.at
    → IsTrue clear ↔ All (λ corners. IsClear from.at to.at (edges corners)) s.obstacles → IsTrue clear ↔ IsCandidate s p q
candidate_if s p q from to clear f t no_substation different not_closed bearable passes says = (
  λ e. record {
    from = from;
    to = to;
    from_is = f;
    to_is = t;
    no_substation = λ h. false≢true (sym no_substation ∙ h);
    different = different;
    not_closed = not_closed;
    passes_none = passes;
    clear = says.0 e;
    bearable = bearable;
  },
  λ k. says.1 (subst (λ (x : Point). All (λ corners. IsClear x.at to.at (edges corners)) s.obstacles) (same_point s p k.from from k.from_is f) (subst (λ (x : Point). All (λ corners. IsClear k.from.at x.at (edges corners)) s.obstacles) (same_point s q k.to to k.to_is t) k.clear)),
)

-- a candidate arc passes no turbine or substation
pub candidate_passes : (s : Site) (p q : ℕ) (from to : Point) → IsPoint s p from → IsPoint s q to → IsCandidate s p q → PassesNone s.points p q from.at to.at
candidate_passes s p q from to f t k =
    subst (λ (x : Point). PassesNone s.points p q x.at to.at) (same_point s p k.from from k.from_is f) (subst (λ (x : Point). PassesNone s.points p q k.from.at x.at) (same_point s q k.to to k.to_is t) k.passes_none)
