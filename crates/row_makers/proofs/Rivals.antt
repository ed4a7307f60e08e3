-- Arcs that can't be together and have more shares than one cable.
use Rattle.std.proofs.Common.{◌≡◌, ◌≢◌, ℕ, zero, suc, ◌+◌, ◌≤◌, ◌<◌, ◌⊎◌, inl, inr, Bool, true, false, cond, List, [], ◌∷◌, ◌++◌, Some, slice_get, get_or, take, length, sum_by, refl, ap, sym, ◌∙◌, arith, subst, below_more, eqb}
use Rattle.std.specs.Prelude.{Option, None, IfNone, Result, Ok, Err, IfOk, IsTrue, ◌↔◌, All, Contains, ◌||◌, ◌==◌, ◌^◌}
use Rattle.std.specs.List.{enumerate_from}
use Rattle.std.specs.declared.alloc.AllocError.{AllocError}
use Rattle.std.proofs.lemmas.Bool.{false≢true, cases_lt}
use Rattle.std.proofs.lemmas.Bool.Decides.{eqb_tells}
use Rattle.std.proofs.lemmas.List.Elements.{All-push, Contains-append_left, Contains-push}
use Rattle.std.proofs.lemmas.List.Sums.{sum_by-cons, sum_by-append}
use Rattle.std.proofs.lemmas.List.{take_more}
use Rattle.std.proofs.lemmas.Option.{slice_get_within, slice_get-get_or, get_or_from_slice_get}
use Rattle.number_laws.proofs.NatSums.{sum_by-same, sum_by-zeros, sum_by-plus}
use Rattle.number_laws.proofs.Places.{same_item, sum_by-place}
use Rattle.number_laws.proofs.Keys.{value_at}
use Rattle.proof_laws.proofs.Compatible.{incompatible-swapped}
use Rattle.proof_laws.proofs.RowsHold.{rows-hold}
use Rattle.cable_definitions.specs.declared.cable.Arc.{Arc}
use Rattle.cable_definitions.specs.declared.row.RowKind.TheVariants.{One}
use Rattle.cable_definitions.specs.Site.{Site, IsValid}
use Rattle.cable_definitions.specs.Arcs.{AreArcs}
use Rattle.cable_definitions.specs.Row.{Question, SomeMember, RightCount, InRange, Ascending, RightKind, NoSubstation, Incompatible, Meets, IsWellFormed, AreIncompatible, is_member}
use Rattle.cable_rows.specs.declared.row.Row.{Row as MadeRow}
use Rattle.bound_shares.specs.Shares.{member_shares}
use Rattle.row_makers.specs.Rivals.{AreRivals, AreSharedBelow, AreShared, HasNoRival}
use Rattle.cable_rows.specs.Made.{row_made}
use Rattle.row_makers.specs.Found.{IsViolatedOne}

-- what is known of no value
pub of_none : {X : Type 0} → (o : Option X) (P : Type 0) → o ≡ None → IfNone o P → P
of_none o P e h = subst (λ x. IfNone x P) e h

-- ---- the arcs that have some share
-- none is listed
pub none_shared : (shares : List ℕ) → AreSharedBelow shares 0 []
none_shared shares = record { range = λ k d h. absurd (omega (arith, h)); small = λ a u h. absurd (omega (arith, h)); all = λ a u h. absurd (omega (arith, h)) }

-- one more is
pub one_shared : (shares shared : List ℕ) (k v : ℕ) → AreSharedBelow shares k shared → slice_get shares k ≡ Some v → v ≤ 2 ^ 20 → AreSharedBelow shares (k + 1) (shared ++ k ∷ [])
one_shared shares shared k v are e h = record {
  range = All-push (λ (a : ℕ). a < length shares) shared k are.range (slice_get_within shares k v e);
  small = λ a u l f. below_more (λ (b : ℕ). slice_get shares b ≡ Some u → u ≤ 2 ^ 20) k (λ b m g. are.small b u m g) (λ g. omega (arith, h, same_item shares k v u e g)) a l f;
  all = λ a u l f s. below_more (λ (b : ℕ). slice_get shares b ≡ Some u → Contains (shared ++ k ∷ []) b) k
      (λ b m g. Contains-append_left shared (k ∷ []) b (are.all b u m g s)) (λ g. Contains-push shared k) a l f;
}

-- one without a share
pub other_shared : (shares shared : List ℕ) (k v : ℕ) → AreSharedBelow shares k shared → slice_get shares k ≡ Some v → v ≡ 0 → AreSharedBelow shares (k + 1) shared
other_shared shares shared k v are e h = record {
  range = are.range;
  small = λ a u l f. below_more (λ (b : ℕ). slice_get shares b ≡ Some u → u ≤ 2 ^ 20) k (λ b m g. are.small b u m g) (λ g. omega (arith, h, same_item shares k v u e g)) a l f;
  all = λ a u l f s. below_more (λ (b : ℕ). slice_get shares b ≡ Some u → Contains shared b) k
      (λ b m g. are.all b u m g s) (λ g. absurd (omega (arith, h, s, same_item shares k v u e g))) a l f;
}

-- ---- rivals
-- shares that are at most one cable
pub too_few : (s : Site) (arcs : List Arc) (shares : List ℕ) (a b u v : ℕ) → slice_get shares a ≡ Some u → slice_get shares b ≡ Some v → u + v ≤ 2 ^ 20
    → AreRivals s arcs shares a b → ⊥
too_few s arcs shares a b u v e f h r =
    omega (arith, h, r.too_much, same_item shares a u r.first_share e r.first_share_is, same_item shares b v r.second_share f r.second_share_is)

-- shares that are more
pub rivals_iff : (s : Site) (arcs : List Arc) (shares : List ℕ) (a b u v : ℕ) (x y : Arc) (t : Bool) → slice_get shares a ≡ Some u → slice_get shares b ≡ Some v → 2 ^ 20 < u + v
    → slice_get arcs a ≡ Some x → slice_get arcs b ≡ Some y → (IsTrue t ↔ AreIncompatible s x y) → (IsTrue t ↔ AreRivals s arcs shares a b)
rivals_iff s arcs shares a b u v x y t e f h d g tells = (
  λ k. record {
    first = x;
    second = y;
    first_is = d;
    second_is = g;
    incompatible = tells.0 k;
    first_share = u;
    second_share = v;
    first_share_is = e;
    second_share_is = f;
    too_much = h;
  },
  λ r. tells.1 (subst (λ (z : Arc). AreIncompatible s x z) (same_item arcs b r.second y r.second_is g)
      (subst (λ (z : Arc). AreIncompatible s z r.second) (same_item arcs a r.first x r.first_is d) r.incompatible)),
)

-- rivals are so in either order
pub rivals-swapped : (s : Site) (arcs : List Arc) (shares : List ℕ) (a b : ℕ) → AreRivals s arcs shares a b → AreRivals s arcs shares b a
rivals-swapped s arcs shares a b r = record {
  first = r.second;
  second = r.first;
  first_is = r.second_is;
  second_is = r.first_is;
  incompatible = incompatible-swapped s r.first r.second r.incompatible;
  first_share = r.second_share;
  second_share = r.first_share;
  first_share_is = r.second_share_is;
  second_share_is = r.first_share_is;
  too_much = let h = r.too_much in omega (arith, h);
}

-- rivals are two arcs
pub rivals-different : (s : Site) (arcs : List Arc) (shares : List ℕ) (a b : ℕ) → AreRivals s arcs shares a b → a ≢ b
rivals-different s arcs shares a b r e =
    let same = same_item arcs a r.first r.second r.first_is (subst (λ (n : ℕ). slice_get arcs n ≡ Some r.second) (sym e) r.second_is) in
    r.incompatible.different (ap (λ (x : Arc). x.from) same, ap (λ (x : Arc). x.to) same)

-- an arc with no more than half a cable
pub half_at_most : (s : Site) (arcs : List Arc) (shares : List ℕ) (a u : ℕ) → slice_get shares a ≡ Some u → u ≤ 2 ^ 19 → HasNoRival s arcs shares a
half_at_most s arcs shares a u e h v b f more = absurd (omega (arith, h, more, same_item shares a u v e f))

-- the place of a listed number
place_of : (xs : List ℕ) (x : ℕ) → Contains xs x → (k : ℕ) × (slice_get xs k ≡ Some x)
place_of xs x (k, h, e) = (k, slice_get-get_or xs k x h ∙ ap Some e)

-- an arc that has no rival among those with some share
pub no_rival : (s : Site) (arcs : List Arc) (shares shared : List ℕ) (a : ℕ) → AreShared shares shared
    → ((k b : ℕ) → k < length shared → slice_get shared k ≡ Some b → AreRivals s arcs shares a b → ⊥) → HasNoRival s arcs shares a
no_rival s arcs shares shared a are none u b e more r =
    let first : r.first_share ≤ 2 ^ 20 = are.small a r.first_share (slice_get_within shares a r.first_share r.first_share_is) r.first_share_is in
    let listed = place_of shared b (are.all b r.second_share (slice_get_within shares b r.second_share r.second_share_is) r.second_share_is (omega (arith, first, r.too_much))) in
    none listed.0 b (slice_get_within shared listed.0 b listed.1) listed.1 r

-- no arc has a rival where none of those with some share has
pub no_rivals : (s : Site) (arcs : List Arc) (shares shared : List ℕ) → AreShared shares shared
    → ((k a : ℕ) → k < length shared → slice_get shared k ≡ Some a → HasNoRival s arcs shares a) → (a b : ℕ) → AreRivals s arcs shares a b → ⊥
no_rivals s arcs shares shared are none a b r = by_order (cases_lt (2 ^ 19) r.first_share)
  where
    heavy : (p q u : ℕ) → slice_get shares p ≡ Some u → 2 ^ 19 < u → AreRivals s arcs shares p q → ⊥
    heavy p q u e h x =
        let listed = place_of shared p (are.all p u (slice_get_within shares p u e) e (omega (arith, h))) in
        none listed.0 p (slice_get_within shared listed.0 p listed.1) listed.1 u q e h x

    by_order : (2 ^ 19 < r.first_share) ⊎ (r.first_share ≤ 2 ^ 19) → ⊥
    by_order (inl h) = heavy a b r.first_share r.first_share_is h r
    by_order (inr h) = heavy b a r.second_share r.second_share_is (omega (arith, h, r.too_much)) (rivals-swapped s arcs shares a b r)

-- ---- the sum of members' shares
-- each member is above the one before it
abbrev pub Ascend : List ℕ → Type 0
Ascend members = (i m n : ℕ) → slice_get members i ≡ Some m → slice_get members (i + 1) ≡ Some n → m < n

ascend-tail : (x : ℕ) (xs : List ℕ) → Ascend (x ∷ xs) → Ascend xs
ascend-tail x xs h i m n e f = let k : suc i + 1 ≡ suc (i + 1) = omega arith in h (suc i) m n e (rw k f)

-- so the first is below all others
first_below : (x : ℕ) (xs : List ℕ) → Ascend (x ∷ xs) → (n : ℕ) → is_member xs n ≡ true → x < n
first_below x [] h n e = absurd (false≢true e)
first_below x (y ∷ ys) h n e = by_case (eqb_tells y n) (λ k. first_below y ys (ascend-tail x (y ∷ ys) h) n k)
  where
    next : x < y
    next = h 0 x y refl refl

    by_case : ((eqb y n ≡ true) × (y ≡ n)) ⊎ ((eqb y n ≡ false) × (y ≢ n)) → (is_member ys n ≡ true → y < n) → x < n
    by_case (inl t) later = omega (arith, next, t.1)
    by_case (inr t) later = let k = later (sym (ap (λ (b : Bool). b || is_member ys n) t.0) ∙ e) in omega (arith, next, k)

-- the shares of members, read one by one
abbrev pub sum_read : List ℕ → List ℕ → ℕ
sum_read shares members = sum_by (λ (m : ℕ). get_or shares m 0) members

-- one more member
pub sum_read-more : (shares members : List ℕ) (i d u : ℕ) → i < length members → slice_get shares (get_or members i d) ≡ Some u
    → sum_read shares (take (i + 1) members) ≡ sum_read shares (take i members) + u
sum_read-more shares members i d u h e =
    let m = get_or members i d in
    omega (
      arith,
      ap (sum_read shares) (take_more members i d h),
      sum_by-append (λ (n : ℕ). get_or shares n 0) (take i members) (m ∷ []),
      sum_by-cons (λ (n : ℕ). get_or shares n 0) m [],
      get_or_from_slice_get shares m u 0 e,
    )

-- the sum of the members' shares is that of the shares that are read one by one
pub member_sum : (members shares : List ℕ) → Ascend members → member_shares members shares ≡ sum_read shares members
member_sum [] shares h = sum_by-zeros (enumerate_from 0 shares)
member_sum (m ∷ ms) shares h =
    let parts = sum_by-same (λ (x : ℕ × ℕ). cond ((m == x.0) || is_member ms x.0) x.1 0) (λ (x : ℕ × ℕ). cond (eqb x.0 m) x.1 0 + cond (is_member ms x.0) x.1 0) (enumerate_from 0 shares)
    (λ x. both (m == x.0) (is_member ms x.0) (eqb x.0 m) x.1 (turned m x.0) (λ t k. not_both x.0 t k)) in
    let sums = sum_by-plus (λ (x : ℕ × ℕ). cond (eqb x.0 m) x.1 0) (λ (x : ℕ × ℕ). cond (is_member ms x.0) x.1 0) (enumerate_from 0 shares) in
    let one = sum_by-place (λ (u : ℕ). u) shares 0 m m (omega arith) in
    omega (arith, parts, sums, one, value_or (slice_get shares m) m refl, sum_by-cons (λ (n : ℕ). get_or shares n 0) m ms, member_sum ms shares (ascend-tail m ms h))
  where
    turned : (k n : ℕ) → (k == n) ≡ eqb n k
    turned k n = elim (eqb_tells k n) [
      | inl t ↦ t.0 ∙ sym (elim (eqb_tells n k) [ inl u ↦ u.0 | inr u ↦ absurd (u.1 (sym t.1)) ])
      | inr t ↦ t.0 ∙ sym (elim (eqb_tells n k) [ inl u ↦ absurd (t.1 (sym u.1)) | inr u ↦ u.0 ])
    ]

    not_both : (n : ℕ) → (m == n) ≡ true → is_member ms n ≡ true → ⊥
    not_both n t k = elim (eqb_tells m n) [
      | inl u ↦ let l = first_below m ms h n k in omega (arith, l, u.1)
      | inr u ↦ false≢true (sym u.0 ∙ t)
    ]

    both : (b c d : Bool) (u : ℕ) → b ≡ d → (b ≡ true → c ≡ true → ⊥) → cond (b || c) u 0 ≡ cond d u 0 + cond c u 0
    both true true d u e n = absurd (n refl refl)
    both true false d u e n = let k = ap (λ (z : Bool). cond z u 0) e in omega (arith, k)
    both false c d u e n = let k = ap (λ (z : Bool). cond z u 0) e in omega (arith, k)

    value_or : (o : Option ℕ) (i : ℕ) → slice_get shares i ≡ o → value_at (λ (u : ℕ). u) o ≡ get_or shares i 0
    value_or (Some u) i e = sym (get_or_from_slice_get shares i u 0 e)
    value_or None i e = sym (none_there shares i e)
      where
        none_there : (xs : List ℕ) (j : ℕ) → slice_get xs j ≡ None → get_or xs j 0 ≡ 0
        none_there [] j f = refl
        none_there (x ∷ xs) zero f = absurd (cc)
        none_there (x ∷ xs) (suc j) f = none_there xs j f

-- ---- the row of two rivals
pub pair-violated : (s : Site) (arcs : List Arc) (shares : List ℕ) (a b : ℕ) → IsValid s → AreArcs s arcs → a < b → AreRivals s arcs shares a b
    → IsViolatedOne s arcs shares (record { kind = One; members = a ∷ b ∷ [] })
pair-violated s arcs shares a b valid are h r = record {
  kind = refl;
  well_formed = meets;
  holds = λ cables legal. rows-hold s arcs cables (record { kind = One; members = a ∷ b ∷ [] }) valid are meets legal;
  violated = omega (
    arith,
    member_sum (a ∷ b ∷ []) shares ascend,
    sum_by-cons (λ (n : ℕ). get_or shares n 0) a (b ∷ []),
    sum_by-cons (λ (n : ℕ). get_or shares n 0) b [],
    get_or_from_slice_get shares a r.first_share 0 r.first_share_is,
    get_or_from_slice_get shares b r.second_share 0 r.second_share_is,
    r.too_much,
  );
}
  where
    ascend : Ascend (a ∷ b ∷ [])
    ascend zero m n e f =
        let first : a ≡ m = cc in
        let second : b ≡ n = cc in
        omega (arith, first, second, h)
    ascend (suc i) m n e f = absurd (omega (arith, slice_get_within (a ∷ b ∷ []) (suc i + 1) n f))

    below : (i m : ℕ) → slice_get (a ∷ b ∷ []) i ≡ Some m → m < length arcs
    below zero m e = let same : a ≡ m = cc in subst (λ (n : ℕ). n < length arcs) same (slice_get_within arcs a r.first r.first_is)
    below (suc zero) m e = let same : b ≡ m = cc in subst (λ (n : ℕ). n < length arcs) same (slice_get_within arcs b r.second r.second_is)
    below (suc (suc i)) m e = absurd (cc)

    apart : (i j m n : ℕ) (x y : Arc) → i < j → slice_get (a ∷ b ∷ []) i ≡ Some m → slice_get (a ∷ b ∷ []) j ≡ Some n → slice_get arcs m ≡ Some x → slice_get arcs n ≡ Some y
        → AreIncompatible s x y
    apart zero (suc zero) m n x y l e f d g =
        let first : a ≡ m = cc in
        let second : b ≡ n = cc in
        subst (λ (z : Arc). AreIncompatible s x z) (same_item arcs b r.second y r.second_is (rw second g))
        (subst (λ (z : Arc). AreIncompatible s z r.second) (same_item arcs a r.first x r.first_is (rw first d)) r.incompatible)
    apart i zero m n x y l e f d g = absurd (omega (arith, l))
    apart (suc i) (suc zero) m n x y l e f d g = absurd (omega (arith, l))
    apart i (suc (suc j)) m n x y l e f d g = absurd (omega (arith, slice_get_within (a ∷ b ∷ []) (suc (suc j)) n f))

    meets : (question : Question) (i j : ℕ) → Meets s arcs One (a ∷ b ∷ []) question i j
    meets SomeMember i j = λ e. absurd (cc)
    meets RightCount i j = (λ k. absurd (false≢true k), omega arith)
    meets InRange i j = λ m e. below i m e
    meets Ascending i j = λ m n e f. ascend i m n e f
    meets RightKind i j = λ m e. refl
    meets NoSubstation i j = λ m e k. absurd (cc)
    meets Incompatible i j = λ m n x y k l e f d g. apart i j m n x y l e f d g

-- the row as it was made
pub made-one : (s : Site) (arcs : List Arc) (shares members : List ℕ) (row : MadeRow) → IsViolatedOne s arcs shares (record { kind = One; members = members }) → row.kind ≡ One
    → row.members ≡ members → IsViolatedOne s arcs shares (row_made row)
made-one s arcs shares members row is k m =
    subst (λ kind. IsViolatedOne s arcs shares (record { kind = kind; members = row.members })) (sym k)
    (subst (λ ms. IsViolatedOne s arcs shares (record { kind = One; members = ms })) (sym m) is)

-- what is asked of members, of a row that is well formed
pub well_formed-range : (s : Site) (arcs : List Arc) (members : List ℕ) → IsWellFormed s arcs (record { kind = One; members = members }) → All (λ m. m < length arcs) members
well_formed-range s arcs members w k d l = w InRange k 0 (get_or members k d) (slice_get-get_or members k d l)

pub well_formed-few : (s : Site) (arcs : List Arc) (members : List ℕ) → IsWellFormed s arcs (record { kind = One; members = members }) → length members ≤ 256
well_formed-few s arcs members w = (w RightCount 0 0).1

pub well_formed-order : (s : Site) (arcs : List Arc) (members : List ℕ) → IsWellFormed s arcs (record { kind = One; members = members }) → Ascend members
well_formed-order s arcs members w i m n e f = w Ascending i 0 m n e f

-- the row, where it was made
pub made-ok : (s : Site) (arcs : List Arc) (shares members : List ℕ) (made : Result MadeRow AllocError) → IsViolatedOne s arcs shares (record { kind = One; members = members })
    → IfOk made (λ row. row.kind ≡ One) → IfOk made (λ row. row.members ≡ members) → IfOk made (λ row. IsViolatedOne s arcs shares (row_made row))
made-ok s arcs shares members (Ok row) is k m = made-one s arcs shares members row is k m
made-ok s arcs shares members (Err fault) is k m = tt
