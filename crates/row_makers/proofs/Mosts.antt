-- The set that misses most so far.
use Rattle.std.proofs.Common.{◌≡◌, ℕ, zero, suc, ◌+◌, ◌≤◌, ◌<◌, ◌⊎◌, inl, inr, true, false, List, [], ◌∷◌, Some, slice_get, length, refl, ap, sym, ◌∙◌, arith, subst, below_more}
use Rattle.std.specs.Prelude.{◌≢◌}
use Rattle.std.proofs.lemmas.Bool.{false≢true, cases_order}
use Rattle.std.proofs.lemmas.Option.{slice_get_within, slice_get_past}
use Rattle.number_laws.proofs.Ceiling.{ceiling-least}
use Rattle.proof_laws.proofs.Points.{largest_capacity-some}
use Rattle.proof_laws.proofs.RowsHold.{rows-hold}
use Rattle.cable_definitions.specs.declared.cable.Arc.{Arc}
use Rattle.cable_definitions.specs.declared.row.RowKind.TheVariants.{Cut}
use Rattle.cable_definitions.specs.declared.site.Kind.{Kind}
use Rattle.cable_definitions.specs.declared.site.Kind.TheVariants.{Turbine as TurbineKind, Substation, Bend}
use Rattle.cable_definitions.specs.Site.{Site, IsValid}
use Rattle.cable_definitions.specs.Arcs.{AreArcs, kind_of, kind_from, is_turbine, is_substation, largest_capacity}
use Rattle.cable_definitions.specs.Row.{Question, SomeMember, RightCount, InRange, Ascending, RightKind, NoSubstation, Incompatible, Meets, IsWellFormed, rounded_up}
use Rattle.cable_rows.specs.declared.row.Row.{Row as MadeRow}
use Rattle.bound_shares.specs.Shares.{ViolateCut}
use Rattle.row_makers.specs.declared.capacity.Tried.{Tried}
use Rattle.row_makers.specs.declared.capacity.Tried.TheVariants.{Turbine, Pair, Whole}
use Rattle.row_makers.specs.declared.capacity.Most.{Most}
use Rattle.row_makers.specs.Tried.{missing, IsTried}
use Rattle.row_makers.specs.Most.{tried_members, MayTry, IsMost, IsMostBelow, IsMostOfAll}
use Rattle.cable_rows.specs.Made.{row_made}
use Rattle.row_makers.specs.Found.{IsViolatedCut}
use Rattle.row_makers.proofs.Whole.{ArePointsBelow, are_points_below}

-- ---- one point more
-- a turbine that was tried alone and with those before it
pub point_tried : (s : Site) (arcs : List Arc) (shares : List ℕ) (q : ℕ) (most more : Most) → IsMostBelow s arcs shares q most → IsMost s arcs shares more → most.missing ≤ more.missing
    → missing s arcs shares (q ∷ []) ≤ more.missing
    → ((p : ℕ) → p < q → is_turbine (kind_of s p) ≡ true → missing s arcs shares (p ∷ q ∷ []) ≤ more.missing) → IsMostBelow s arcs shares (q + 1) more
point_tried s arcs shares q most more before is_one h alone pairs = record {
  is_one = is_one;
  whole = let k = before.whole in omega (arith, h, k);
  one = below_more (λ (k : ℕ). is_turbine (kind_of s k) ≡ true → missing s arcs shares (k ∷ []) ≤ more.missing) q (λ k l t. let b = before.one k l t in omega (arith, h, b)) (λ t. alone);
  two = λ k p l.
      below_more (λ (n : ℕ). p < n → is_turbine (kind_of s p) ≡ true → is_turbine (kind_of s n) ≡ true → missing s arcs shares (p ∷ n ∷ []) ≤ more.missing) q
      (λ n b m t u. let a = before.two n p b m t u in omega (arith, h, a)) (λ m t u. pairs p m t) k l;
}

-- another point
pub point_passed : (s : Site) (arcs : List Arc) (shares : List ℕ) (q : ℕ) (most : Most) → IsMostBelow s arcs shares q most → is_turbine (kind_of s q) ≡ false
    → IsMostBelow s arcs shares (q + 1) most
point_passed s arcs shares q most before none = record {
  is_one = before.is_one;
  whole = before.whole;
  one = below_more (λ (k : ℕ). is_turbine (kind_of s k) ≡ true → missing s arcs shares (k ∷ []) ≤ most.missing) q before.one (λ t. absurd (false≢true (sym none ∙ t)));
  two = λ k p l.
      below_more (λ (n : ℕ). p < n → is_turbine (kind_of s p) ≡ true → is_turbine (kind_of s n) ≡ true → missing s arcs shares (p ∷ n ∷ []) ≤ most.missing) q
      (λ n b m t u. before.two n p b m t u) (λ m t u. absurd (false≢true (sym none ∙ u))) k l;
}

-- a turbine is a point
pub turbine_inside : (s : Site) (p : ℕ) → is_turbine (kind_of s p) ≡ true → p < length s.points
turbine_inside s p t = elim (cases_order p (length s.points)) [
  | inl e ↦ absurd (past (omega (arith, e)))
  | inr (inl h) ↦ h
  | inr (inr h) ↦ absurd (past (omega (arith, h)))
]
  where
    past : length s.points ≤ p → ⊥
    past h = false≢true (sym (ap (λ o. is_turbine (kind_from o)) (slice_get_past s.points p h)) ∙ t)

-- all points were passed
pub all_tried : (s : Site) (arcs : List Arc) (shares : List ℕ) (n : ℕ) (most : Most) → IsMostBelow s arcs shares n most → length s.points ≤ n → IsMostOfAll s arcs shares most
all_tried s arcs shares n most below h = record { is_one = below.is_one; all = all }
  where
    inside : (p : ℕ) → is_turbine (kind_of s p) ≡ true → p < n
    inside p t = omega (arith, turbine_inside s p t, h)

    all : (members : List ℕ) → IsTried s members → missing s arcs shares members ≤ most.missing
    all members (inl (inl one)) = subst (λ ms. missing s arcs shares ms ≤ most.missing) (sym one.members_are) (below.one one.point (inside one.point one.turbine) one.turbine)
    all members (inl (inr two)) =
        subst (λ ms. missing s arcs shares ms ≤ most.missing) (sym two.members_are)
        (below.two two.second two.first (inside two.second two.second_turbine) two.ascending two.first_turbine two.second_turbine)
    all members (inr e) = subst (λ ms. missing s arcs shares ms ≤ most.missing) (sym e) below.whole

-- ---- the row of a set
-- a turbine is no substation
no_substation_of : (k : Kind) → is_turbine k ≡ true → is_substation k ≡ false
no_substation_of (TurbineKind power) e = refl
no_substation_of (Substation feeders power) e = absurd (false≢true e)
no_substation_of Bend e = refl

-- the points of a set that may be tried
pub tried_list : (s : Site) (set : Tried) → MayTry s set → ArePointsBelow s (length s.points) (tried_members s set)
tried_list s (Turbine p) t = record {
  few = omega (arith, turbine_inside s p t);
  below = λ i m e. subst (λ (q : ℕ). q < length s.points) (only i m e) (turbine_inside s p t);
  no_substation = λ i m e. subst (λ (q : ℕ). is_substation (kind_of s q) ≡ false) (only i m e) (no_substation_of (kind_of s p) t);
  ascending = λ i m k e f. absurd (omega (arith, slice_get_within (p ∷ []) (i + 1) k f));
}
  where
    only : (i m : ℕ) → slice_get (p ∷ []) i ≡ Some m → p ≡ m
    only zero m e = cc
    only (suc i) m e = absurd (cc)
tried_list s (Pair p q) t = record {
  few = omega (arith, t.0, turbine_inside s q t.2);
  below = λ i m e. elim (either i m e) [
    | inl k ↦ subst (λ (n : ℕ). n < length s.points) k (turbine_inside s p t.1)
    | inr k ↦ subst (λ (n : ℕ). n < length s.points) k (turbine_inside s q t.2)
  ];
  no_substation = λ i m e. elim (either i m e) [
    | inl k ↦ subst (λ (n : ℕ). is_substation (kind_of s n) ≡ false) k (no_substation_of (kind_of s p) t.1)
    | inr k ↦ subst (λ (n : ℕ). is_substation (kind_of s n) ≡ false) k (no_substation_of (kind_of s q) t.2)
  ];
  ascending = λ i m k e f. ascending i m k e f;
}
  where
    either : (i m : ℕ) → slice_get (p ∷ q ∷ []) i ≡ Some m → (p ≡ m) ⊎ (q ≡ m)
    either zero m e = inl (cc)
    either (suc zero) m e = inr (cc)
    either (suc (suc i)) m e = absurd (cc)

    ascending : (i m k : ℕ) → slice_get (p ∷ q ∷ []) i ≡ Some m → slice_get (p ∷ q ∷ []) (i + 1) ≡ Some k → m < k
    ascending zero m k e f =
        let first : p ≡ m = cc in
        let second : q ≡ k = cc in
        omega (arith, first, second, t.0)
    ascending (suc i) m k e f = absurd (omega (arith, slice_get_within (p ∷ q ∷ []) (suc i + 1) k f))
tried_list s Whole t = are_points_below s (length s.points)

-- a list of turbines and bends makes a row
cut-well_formed : (s : Site) (arcs : List Arc) (members : List ℕ) → IsValid s → members ≢ [] → ArePointsBelow s (length s.points) members
    → IsWellFormed s arcs (record { kind = Cut; members = members })
cut-well_formed s arcs members valid some are = meets
  where
    meets : (question : Question) (i j : ℕ) → Meets s arcs Cut members question i j
    meets SomeMember i j = some
    meets RightCount i j = (λ h. absurd (false≢true h), omega (arith, are.few, valid.points_count))
    meets InRange i j = λ m e. are.below i m e
    meets Ascending i j = λ m n e f. are.ascending i m n e f
    meets RightKind i j = λ m e. refl
    meets NoSubstation i j = λ m e k t. false≢true (sym (are.no_substation i m e) ∙ t)
    meets Incompatible i j = λ m n a b e. absurd (cc)

-- a set of no points misses nothing
none_missing : (s : Site) (arcs : List Arc) (shares : List ℕ) → IsValid s → missing s arcs shares [] ≡ 0
none_missing s arcs shares valid =
    let k = largest_capacity s in
    let none : rounded_up 0 k ≤ 0 = ceiling-least 0 k 0 (largest_capacity-some s valid) (omega arith) in
    omega (arith, none)

-- the row of a set that misses something
pub missing-violated : (s : Site) (arcs : List Arc) (shares : List ℕ) (most : Most) → IsValid s → AreArcs s arcs → IsMost s arcs shares most → 1 ≤ most.missing
    → IsViolatedCut s arcs shares (record { kind = Cut; members = tried_members s most.set })
missing-violated s arcs shares most valid are is h = record {
  kind = refl;
  well_formed = well_formed;
  holds = λ cables legal. rows-hold s arcs cables (record { kind = Cut; members = tried_members s most.set }) valid are well_formed legal;
  violated = omega (arith, is.missing_is, h);
}
  where
    some : tried_members s most.set ≢ []
    some e = let k = ap (missing s arcs shares) e in omega (arith, k, none_missing s arcs shares valid, is.missing_is, h)

    well_formed : IsWellFormed s arcs (record { kind = Cut; members = tried_members s most.set })
    well_formed = cut-well_formed s arcs (tried_members s most.set) valid some (tried_list s most.set is.may)

-- the points of a set that may be tried are tried
pub may-tried : (s : Site) (set : Tried) → MayTry s set → IsTried s (tried_members s set)
may-tried s (Turbine p) t = inl (inl (record { point = p; turbine = t; members_are = refl }))
may-tried s (Pair p q) t = inl (inr (record { first = p; second = q; ascending = t.0; first_turbine = t.1; second_turbine = t.2; members_are = refl }))
may-tried s Whole t = inr refl

-- nothing is missing, so nothing is violated
pub none-violated : (s : Site) (arcs : List Arc) (shares : List ℕ) (most : Most) → IsMostOfAll s arcs shares most → most.missing ≡ 0
    → (members : List ℕ) → IsTried s members → ViolateCut s arcs shares members → ⊥
none-violated s arcs shares most is e members tried violated = let h = is.all members tried in omega (arith, h, e, violated)

-- the row as it was made
pub made-violated : (s : Site) (arcs : List Arc) (shares : List ℕ) (most : Most) (row : MadeRow) → IsValid s → AreArcs s arcs → IsMost s arcs shares most → 1 ≤ most.missing → row.kind ≡ Cut
    → row.members ≡ tried_members s most.set → IsViolatedCut s arcs shares (row_made row)
made-violated s arcs shares most row valid are is h k m =
    subst (λ kind. IsViolatedCut s arcs shares (record { kind = kind; members = row.members })) (sym k)
    (subst (λ ms. IsViolatedCut s arcs shares (record { kind = Cut; members = ms })) (sym m) (missing-violated s arcs shares most valid are is h))
