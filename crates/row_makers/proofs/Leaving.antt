-- The shares that leave few points, by sums.
use Rattle.std.proofs.Common.{◌≡◌, ◌≢◌, ℕ, suc, ◌+◌, ◌*◌, get_or, ◌<◌, inl, inr, Bool, true, false, cond, List, [], ◌∷◌, Some, slice_get, refl, sym, ◌∙◌, arith}
use Rattle.std.specs.Prelude.{◌&&◌, ◌||◌, ◌==◌, not}
use Rattle.std.proofs.lemmas.Bool.{false≢true}
use Rattle.std.proofs.lemmas.Bool.Decides.{eqb_tells}
use Rattle.cable_definitions.specs.declared.cable.Arc.{Arc}
use Rattle.bound_shares.specs.Shares.{shares_where, leaves, leaving_shares}
use Rattle.cable_definitions.specs.Row.{is_member}
use Rattle.flow_laws.proofs.ShareSums.{shares_where-cons}
use Rattle.row_makers.specs.Sums.{starts_in, goes, JoinsPoints, AreSums}
use Rattle.row_makers.proofs.Upto.{shares_where-same}

-- equal numbers pass the test alone
same_of : (m n : ℕ) → (m == n) ≡ true → m ≡ n
same_of m n e = elim (eqb_tells m n) [
  | inl t ↦ t.1
  | inr t ↦ absurd (false≢true (sym t.0 ∙ e))
]

-- what leaves one point
pub leaving_one : (arcs : List Arc) (shares : List ℕ) (p : ℕ) → ((a : ℕ) (arc : Arc) → slice_get arcs a ≡ Some arc → JoinsPoints arc)
    → leaving_shares (p ∷ []) arcs shares ≡ shares_where (starts_in p) arcs shares
leaving_one arcs shares p joined =
    shares_where-same (leaves (is_member (p ∷ []))) (starts_in p) arcs shares
    (λ a arc e. one_point (p == arc.from) (p == arc.to) (λ t r. (joined a arc e).different (sym (same_of p arc.from t) ∙ same_of p arc.to r)))
  where
    one_point : (b c : Bool) → (b ≡ true → c ≡ true → ⊥) → ((b || false) && not (c || false)) ≡ b
    one_point true true n = absurd (n refl refl)
    one_point true false n = refl
    one_point false c n = refl

-- what leaves two points, with what goes from one to the other, is what starts in them
two_points : (a b c d : Bool) (u : ℕ) → (a ≡ true → b ≡ true → ⊥) → (a ≡ true → c ≡ true → ⊥) → (b ≡ true → d ≡ true → ⊥)
    → (cond ((a || (b || false)) && not (c || (d || false))) u 0 + cond (a && d) u 0) + cond (b && c) u 0 ≡ cond a u 0 + cond b u 0
two_points true true c d u x y z = absurd (x refl refl)
two_points true false true d u x y z = absurd (y refl refl)
two_points true false false true u x y z = omega arith
two_points true false false false u x y z = omega arith
two_points false true c true u x y z = absurd (z refl refl)
two_points false true true false u x y z = omega arith
two_points false true false false u x y z = omega arith
two_points false false c d u x y z = refl

pub leaving_two : (arcs : List Arc) (shares : List ℕ) (p q : ℕ) → p ≢ q → ((a : ℕ) (arc : Arc) → slice_get arcs a ≡ Some arc → JoinsPoints arc)
    → (leaving_shares (p ∷ q ∷ []) arcs shares + shares_where (goes p q) arcs shares) + shares_where (goes q p) arcs shares
    ≡ shares_where (starts_in p) arcs shares + shares_where (starts_in q) arcs shares
leaving_two [] shares p q other joined = refl
leaving_two (x ∷ arcs) [] p q other joined = refl
leaving_two (x ∷ arcs) (u ∷ shares) p q other joined =
    omega (
      arith,
      shares_where-cons (leaves (is_member (p ∷ q ∷ []))) x arcs u shares,
      shares_where-cons (goes p q) x arcs u shares,
      shares_where-cons (goes q p) x arcs u shares,
      shares_where-cons (starts_in p) x arcs u shares,
      shares_where-cons (starts_in q) x arcs u shares,
      leaving_two arcs shares p q other (λ a. joined (suc a)),
      two_points (p == x.from) (q == x.from) (p == x.to) (q == x.to) u (λ t r. other (same_of p x.from t ∙ sym (same_of q x.from r))) (no_loop p) (no_loop q),
    )
  where
    no_loop : (n : ℕ) → (n == x.from) ≡ true → (n == x.to) ≡ true → ⊥
    no_loop n t r = (joined 0 x refl).different (sym (same_of n x.from t) ∙ same_of n x.to r)

-- the same by tables
pub leaving_two-tables : (arcs : List Arc) (shares out between : List ℕ) (p q : ℕ) → AreSums arcs shares out between → p < 256 → q < 256 → p ≢ q
    → (leaving_shares (p ∷ q ∷ []) arcs shares + get_or between (256 * p + q) 0) + get_or between (256 * q + p) 0 ≡ get_or out p 0 + get_or out q 0
leaving_two-tables arcs shares out between p q are h k other =
    omega (arith, leaving_two arcs shares p q other are.joined, are.out_is p h, are.out_is q k, are.between_is p q h k, are.between_is q p k h)
