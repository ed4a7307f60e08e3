-- The poorest set so far.
use Rattle.std.proofs.Common.{◌≡◌, ℕ, ◌≤◌, ◌<◌, Bool, true, List, Some, length, refl, ap, sym, ◌∙◌, arith, subst}
use Rattle.std.specs.Prelude.{slice_set, IfSome, IfNone, Option, None}
use Rattle.cable_definitions.specs.declared.cable.Arc.{Arc}
use Rattle.cable_definitions.specs.Site.{Site}
use Rattle.cable_definitions.specs.Arcs.{kind_of, is_turbine, is_substation}
use Rattle.cut_makers.specs.declared.connect.PoorSet.{PoorSet}
use Rattle.cut_makers.specs.Ends.{is_end, IsLeftBy, AreEnds}
use Rattle.cut_makers.specs.Reached.{IsPoorlyLeft, AreLeftBy, IsPoorest}
use Rattle.cut_makers.proofs.Endings.{AreEnds-more, AreEnds-lower, substations_are_ends}
use Rattle.cut_makers.proofs.Sets.{all_left_by}

-- Each set of an end is left by the level, which a set that was found is left by, if any, and which is a whole cable else.
pub record IsPoorestSoFar (s : Site) (arcs : List Arc) (shares : List ℕ) (ends : List Bool) (level : ℕ) (poorest : Option PoorSet) : Type 0 where
  pub small : level ≤ 1048576
  pub are_ends : AreEnds s arcs shares level ends
  pub none : IfNone poorest (level ≡ 1048576)
  pub set : IfSome poorest (λ set. IsPoorlyLeft s arcs shares set.turbine set.left_by set.reached)
  pub at_level : IfSome poorest (λ set. set.left_by ≡ level)
  pub less : IfSome poorest (λ set. set.left_by < 1048576)
  pub is_one : IfSome poorest (λ set. is_turbine (kind_of s set.turbine) ≡ true)

-- no set was found
pub none_so_far : (s : Site) (arcs : List Arc) (shares : List ℕ) (ends : List Bool) → length ends ≡ 256 → ((p : ℕ) → is_end ends p ≡ is_substation (kind_of s p))
    → IsPoorestSoFar s arcs shares ends 1048576 None
none_so_far s arcs shares ends size same = record {
  small = omega arith;
  are_ends = substations_are_ends s arcs shares 1048576 ends size same;
  none = refl;
  set = tt;
  at_level = tt;
  less = tt;
  is_one = tt;
}

-- a turbine that is left by the level
pub poorest_stays : (s : Site) (arcs : List Arc) (shares : List ℕ) (ends : List Bool) (level : ℕ) (poorest : Option PoorSet) (p : ℕ) → IsPoorestSoFar s arcs shares ends level poorest
    → p < 256 → IsLeftBy s arcs shares level p → IsPoorestSoFar s arcs shares (slice_set ends p true) level poorest
poorest_stays s arcs shares ends level poorest p is h left = record {
  small = is.small;
  are_ends = AreEnds-more s arcs shares level ends p is.are_ends h left;
  none = is.none;
  set = is.set;
  at_level = is.at_level;
  less = is.less;
  is_one = is.is_one;
}

-- one that is left by less
pub poorest_found : (s : Site) (arcs : List Arc) (shares : List ℕ) (ends : List Bool) (level : ℕ) (poorest : Option PoorSet) (p : ℕ) (set : PoorSet)
    → IsPoorestSoFar s arcs shares ends level poorest → p < 256 → is_turbine (kind_of s p) ≡ true → set.turbine ≡ p → IsPoorlyLeft s arcs shares p set.left_by set.reached
    → set.left_by < level → IsPoorestSoFar s arcs shares (slice_set ends p true) set.left_by (Some set)
poorest_found s arcs shares ends level poorest p set is h turbine same left lower = record {
  small = omega (arith, is.small, lower);
  are_ends = AreEnds-more s arcs shares set.left_by ends p (AreEnds-lower s arcs shares level set.left_by ends (omega (arith, lower)) is.are_ends) h left.others;
  none = tt;
  set = subst (λ q. IsPoorlyLeft s arcs shares q set.left_by set.reached) (sym same) left;
  at_level = refl;
  less = omega (arith, is.small, lower);
  is_one = ap (λ q. is_turbine (kind_of s q)) same ∙ turbine;
}

-- all turbines are ends, and no set was found
pub none_poorest : (s : Site) (arcs : List Arc) (shares : List ℕ) (ends : List Bool) (level : ℕ) (poorest : Option PoorSet) → IsPoorestSoFar s arcs shares ends level poorest
    → ((p : ℕ) → is_turbine (kind_of s p) ≡ true → is_end ends p ≡ true) → IfNone poorest (AreLeftBy s arcs shares 1048576)
none_poorest s arcs shares ends level None is each = subst (AreLeftBy s arcs shares) is.none (all_left_by s arcs shares level ends is.are_ends each)
none_poorest s arcs shares ends level (Some set) is each = tt

-- or one was
pub some_poorest : (s : Site) (arcs : List Arc) (shares : List ℕ) (ends : List Bool) (level : ℕ) (poorest : Option PoorSet) → IsPoorestSoFar s arcs shares ends level poorest
    → ((p : ℕ) → is_turbine (kind_of s p) ≡ true → is_end ends p ≡ true)
    → IfSome poorest (λ set. IsPoorest s arcs shares set.turbine set.left_by set.reached)
some_poorest s arcs shares ends level None is each = tt
some_poorest s arcs shares ends level (Some set) is each = record {
  set = is.set;
  less = is.less;
  is_one = is.is_one;
  least = subst (AreLeftBy s arcs shares) (sym is.at_level) (all_left_by s arcs shares level ends is.are_ends each);
}
