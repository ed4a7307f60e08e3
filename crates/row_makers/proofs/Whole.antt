-- All turbines and bends.
use Rattle.std.proofs.Common.{◌≡◌, ◌≢◌, ℕ, zero, suc, ◌+◌, ◌≤◌, ◌<◌, ◌⊎◌, inl, inr, Bool, true, false, cond, List, [], ◌∷◌, ◌++◌, Some, slice_get, length, length-append, sum_by, refl, ap, ap₂, sym, ◌∙◌, arith, subst, eqb, ne_eqb}
use Rattle.std.specs.Prelude.{◌&&◌, ◌||◌, ◌==◌, not}
use Rattle.std.proofs.lemmas.Bool.{false≢true}
use Rattle.std.proofs.lemmas.Bool.Decides.{eqb_tells}
use Rattle.std.proofs.lemmas.List.Folds.{list_any-append}
use Rattle.std.proofs.lemmas.List.Sums.{sum_by-append, sum_by-cons}
use Rattle.std.proofs.lemmas.Option.{slice_get_within, get_or_from_slice_get}
use Rattle.number_laws.proofs.Keys.{slice_get-append_one}
use Rattle.layout_laws.proofs.Ending.{power_of-substation}
use Rattle.cable_definitions.specs.declared.cable.Arc.{Arc}
use Rattle.cable_definitions.specs.Site.{Site}
use Rattle.cable_definitions.specs.Arcs.{AreArcs, kind_of, kind_from, is_substation, power_of}
use Rattle.cable_definitions.specs.Row.{is_member}
use Rattle.bound_shares.specs.Shares.{shares_where, leaves, leaving_shares}
use Rattle.row_makers.specs.Sums.{ends_in_substation}
use Rattle.row_makers.specs.Tried.{points_below, turbines_and_bends}
use Rattle.row_makers.proofs.Upto.{shares_where-same}

-- one point more: it is listed where it is no substation
pub points_below-more : (s : Site) (n : ℕ) → points_below s (n + 1) ≡ cond (is_substation (kind_of s n)) (points_below s n) (points_below s n ++ n ∷ [])
points_below-more s n = let e : n + 1 ≡ suc n = omega arith in ap (points_below s) e

pub listed_next : (s : Site) (n : ℕ) → is_substation (kind_of s n) ≡ false → points_below s (n + 1) ≡ points_below s n ++ n ∷ []
listed_next s n e = points_below-more s n ∙ ap (λ (b : Bool). cond b (points_below s n) (points_below s n ++ n ∷ [])) e

pub passed_next : (s : Site) (n : ℕ) → is_substation (kind_of s n) ≡ true → points_below s (n + 1) ≡ points_below s n
passed_next s n e = points_below-more s n ∙ ap (λ (b : Bool). cond b (points_below s n) (points_below s n ++ n ∷ [])) e

-- ---- who is a member
-- a later point is none
pub later_no_member : (s : Site) (n p : ℕ) → n ≤ p → is_member (points_below s n) p ≡ false
later_no_member s zero p h = refl
later_no_member s (suc n) p h = by_kind (is_substation (kind_of s n)) (later_no_member s n p (omega (arith, h)))
  where
    by_kind : (b : Bool) → is_member (points_below s n) p ≡ false → is_member (cond b (points_below s n) (points_below s n ++ n ∷ [])) p ≡ false
    by_kind true before = before
    by_kind false before =
        list_any-append (λ (m : ℕ). m == p) (points_below s n) (n ∷ [])
        ∙ ap₂ (λ (b c : Bool). b || (c || false)) before (ne_eqb n p (λ e. omega (arith, e, h)))

-- an earlier one is one where it is no substation
pub member_where : (s : Site) (n p : ℕ) → p < n → is_member (points_below s n) p ≡ not (is_substation (kind_of s p))
member_where s zero p h = absurd (omega (arith, h))
member_where s (suc n) p h = by_place (λ k. member_where s n p k) (eqb_tells n p)
  where
    by_place : (p < n → is_member (points_below s n) p ≡ not (is_substation (kind_of s p))) → ((eqb n p ≡ true) × (n ≡ p)) ⊎ ((eqb n p ≡ false) × (n ≢ p))
        → is_member (points_below s (suc n)) p ≡ not (is_substation (kind_of s p))
    by_place before (inl (t, same)) = by_kind (is_substation (kind_of s n)) ∙ ap (λ (q : ℕ). not (is_substation (kind_of s q))) same
      where
        by_kind : (b : Bool) → is_member (cond b (points_below s n) (points_below s n ++ n ∷ [])) p ≡ not b
        by_kind true = later_no_member s n p (omega (arith, same))
        by_kind false =
            list_any-append (λ (m : ℕ). m == p) (points_below s n) (n ∷ [])
            ∙ ap₂ (λ (b c : Bool). b || (c || false)) (later_no_member s n p (omega (arith, same))) t
    by_place before (inr (t, other)) = by_kind (is_substation (kind_of s n)) ∙ before (lower other)
      where
        lower : n ≢ p → p < n
        lower k = grind (arith, h, k)

        or_nothing : (b : Bool) → (b || (false || false)) ≡ b
        or_nothing true = refl
        or_nothing false = refl

        by_kind : (b : Bool) → is_member (cond b (points_below s n) (points_below s n ++ n ∷ [])) p ≡ is_member (points_below s n) p
        by_kind true = refl
        by_kind false =
            (list_any-append (λ (m : ℕ). m == p) (points_below s n) (n ∷ [])
            ∙ ap (λ (c : Bool). is_member (points_below s n) p || (c || false)) t)
            ∙ or_nothing (is_member (points_below s n) p)

-- ---- what leaves them
-- the ends of an arc of a site
pub ends_of : (s : Site) (arcs : List Arc) (a : ℕ) (arc : Arc) → AreArcs s arcs → slice_get arcs a ≡ Some arc
    → (arc.from < length s.points) × (arc.to < length s.points) × (is_substation (kind_of s arc.from) ≡ false) × (arc.from ≢ arc.to)
ends_of s arcs a arc are e =
    let candidate = are.candidates a arc (slice_get_within arcs a arc e) in
    let same = get_or_from_slice_get arcs a arc arc e in
    let there : (slice_get s.points arc.from ≡ Some candidate.from) = subst (λ (x : Arc). slice_get s.points x.from ≡ Some candidate.from) same candidate.from_is in (
      slice_get_within s.points arc.from candidate.from there,
      subst (λ (x : Arc). x.to < length s.points) same (slice_get_within s.points _ candidate.to candidate.to_is),
      none (is_substation (kind_of s arc.from)) (ap (λ o. is_substation (kind_from o)) there) candidate.no_substation,
      subst (λ (x : Arc). x.from ≢ x.to) same candidate.different,
    )
  where
    none : (b : Bool) {c : Bool} → b ≡ c → (c ≡ true → ⊥) → b ≡ false
    none true e h = absurd (h (sym e))
    none false e h = refl

-- the arcs into a substation leave them, and no other one does
pub leaving_all : (s : Site) (arcs : List Arc) (shares : List ℕ) → AreArcs s arcs
    → leaving_shares (turbines_and_bends s) arcs shares ≡ shares_where (ends_in_substation s) arcs shares
leaving_all s arcs shares are =
    shares_where-same (leaves (is_member (turbines_and_bends s))) (ends_in_substation s) arcs shares (λ a arc e. at_arc a arc e)
  where
    not_not : (b c d : Bool) → b ≡ true → c ≡ not d → (b && not c) ≡ d
    not_not true c true e f = ap not f
    not_not true c false e f = ap not f
    not_not false c d e f = absurd (false≢true e)

    at_arc : (a : ℕ) (arc : Arc) → slice_get arcs a ≡ Some arc → leaves (is_member (turbines_and_bends s)) arc ≡ is_substation (kind_of s arc.to)
    at_arc a arc e =
        let ends = ends_of s arcs a arc are e in
        not_not (is_member (turbines_and_bends s) arc.from) (is_member (turbines_and_bends s) arc.to) (is_substation (kind_of s arc.to))
        (member_where s (length s.points) arc.from ends.0 ∙ ap not ends.2) (member_where s (length s.points) arc.to ends.1)

-- ---- their power
-- one point more
pub power-more : (s : Site) (n : ℕ) → sum_by (power_of s) (points_below s (n + 1)) ≡ sum_by (power_of s) (points_below s n) + power_of s n
power-more s n = by_kind (is_substation (kind_of s n)) refl
  where
    by_kind : (b : Bool) → is_substation (kind_of s n) ≡ b → sum_by (power_of s) (points_below s (n + 1)) ≡ sum_by (power_of s) (points_below s n) + power_of s n
    by_kind true e = omega (arith, ap (sum_by (power_of s)) (passed_next s n e), power_of-substation s n e)
    by_kind false e =
        omega (arith, ap (sum_by (power_of s)) (listed_next s n e), sum_by-append (power_of s) (points_below s n) (n ∷ []), sum_by-cons (power_of s) n [])

-- ---- their list
-- turbines and bends below n, ascending
pub record ArePointsBelow (s : Site) (n : ℕ) (members : List ℕ) : Type 0 where
  pub few : length members ≤ n
  pub below : (i m : ℕ) → slice_get members i ≡ Some m → m < n
  pub no_substation : (i m : ℕ) → slice_get members i ≡ Some m → is_substation (kind_of s m) ≡ false
  pub ascending : (i m k : ℕ) → slice_get members i ≡ Some m → slice_get members (i + 1) ≡ Some k → m < k

pub are_points_below : (s : Site) (n : ℕ) → ArePointsBelow s n (points_below s n)
are_points_below s zero = record {
  few = omega arith;
  below = λ i m e. absurd (cc);
  no_substation = λ i m e. absurd (cc);
  ascending = λ i m k e f. absurd (cc);
}
are_points_below s (suc n) = by_kind (is_substation (kind_of s n)) refl (are_points_below s n)
  where
    by_kind : (b : Bool) → is_substation (kind_of s n) ≡ b → ArePointsBelow s n (points_below s n) → ArePointsBelow s (suc n) (cond b (points_below s n) (points_below s n ++ n ∷ []))
    by_kind true none before = record {
      few = let h = before.few in omega (arith, h);
      below = λ i m e. let h = before.below i m e in omega (arith, h);
      no_substation = before.no_substation;
      ascending = before.ascending;
    }
    by_kind false none before = record {
      few = omega (arith, before.few, length-append (points_below s n) (n ∷ []));
      below = λ i m e. below i m (slice_get-append_one (points_below s n) n i m e);
      no_substation = λ i m e. plain i m (slice_get-append_one (points_below s n) n i m e);
      ascending = λ i m k e f. ascending i m k (slice_get-append_one (points_below s n) n i m e) (slice_get-append_one (points_below s n) n (i + 1) k f);
    }
      where
        below : (i m : ℕ) → (slice_get (points_below s n) i ≡ Some m) ⊎ ((i ≡ length (points_below s n)) × (n ≡ m)) → m < suc n
        below i m (inl k) = let h = before.below i m k in omega (arith, h)
        below i m (inr k) = omega (arith, k.1)

        plain : (i m : ℕ) → (slice_get (points_below s n) i ≡ Some m) ⊎ ((i ≡ length (points_below s n)) × (n ≡ m)) → is_substation (kind_of s m) ≡ false
        plain i m (inl k) = before.no_substation i m k
        plain i m (inr k) = subst (λ (q : ℕ). is_substation (kind_of s q) ≡ false) k.1 none

        ascending : (i m k : ℕ) → (slice_get (points_below s n) i ≡ Some m) ⊎ ((i ≡ length (points_below s n)) × (n ≡ m))
            → (slice_get (points_below s n) (i + 1) ≡ Some k) ⊎ ((i + 1 ≡ length (points_below s n)) × (n ≡ k)) → m < k
        ascending i m k (inl h) (inl l) = before.ascending i m k h l
        ascending i m k (inl h) (inr l) = let b = before.below i m h in omega (arith, b, l.1)
        ascending i m k (inr h) (inl l) = absurd (let b = slice_get_within (points_below s n) (i + 1) k l in omega (arith, b, h.0))
        ascending i m k (inr h) (inr l) = absurd (omega (arith, h.0, l.0))
