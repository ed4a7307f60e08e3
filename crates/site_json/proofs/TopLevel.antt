-- The keys of the top level, counted.
use Rattle.std.proofs.Common.{◌≡◌, ℕ, ◌+◌, List, [], ◌∷◌, ◌++◌, length, Some, Bool, true, false, ◌&&◌, cond, refl, sym, ap, ◌∙◌, String, Global, arith}
use Rattle.std.proofs.lemmas.Bool.Decides.{nat_tests}
use Rattle.std.specs.Prelude.{◌==◌, is_some, codes}
use Rattle.serde_json.specs.Data.{Data}
use Rattle.serde_json.specs.Find.{get, as_object}
use Rattle.serde_json.specs.View.{members_view}
use Rattle.serde_json.specs.declared.value.Value.{Value}
use Rattle.run_definitions.specs.Json.{has_all, has_exactly, keys_there, are_arrays, is_top}
use Rattle.site_json.proofs.Levels.{has_exactly-counted}

there_is : (b : Bool) (k : List ℕ) (ks : List (List ℕ)) (d : Data) → is_some (get k d) ≡ b → has_all ks d ≡ true → has_all (cond b (k ∷ ks) ks) d ≡ true
there_is true k ks d is h = rw is h
there_is false k ks d is h = h

-- the keys that are there are there
has_all-there : (ks : List (List ℕ)) (d : Data) → has_all (keys_there ks d) d ≡ true
has_all-there [] d = refl
has_all-there (k ∷ ks) d = there_is _ k (keys_there ks d) d refl (has_all-there ks d)

both_true : (a b : Bool) → a ≡ true → b ≡ true → (a && b) ≡ true
both_true a b e f = rw (e, f) refl

first_true : (a b : Bool) → (a && b) ≡ true → a ≡ true
first_true true b e = refl
first_true false b e = cc

then_true : (a b : Bool) → (a && b) ≡ true → b ≡ true
then_true true b e = e
then_true false b e = cc

has_all-append : (xs ys : List (List ℕ)) (d : Data) → has_all xs d ≡ true → has_all ys d ≡ true → has_all (xs ++ ys) d ≡ true
has_all-append [] ys d h k = k
has_all-append (x ∷ xs) ys d h k = both_true _ _ (first_true _ _ h) (has_all-append xs ys d (then_true _ _ h) k)

-- the keys that have to be there
abbrev needed : List (List ℕ)
needed = codes "site" ∷ codes "mode" ∷ codes "types" ∷ codes "points" ∷ []

-- the keys that may be there
abbrev allowed : List (List ℕ)
allowed = codes "obstacles" ∷ codes "pairs" ∷ []

-- the keys of a site are all where there are as many members
keys_counted : (d : Data) (es : List (String Global × Value)) (n m : ℕ) → Some (members_view es) ≡ as_object d → has_all needed d ≡ true → n ≡ length es → m ≡ length (keys_there allowed d)
    → (n == 4 + m) ≡ has_exactly (needed ++ keys_there allowed d) d
keys_counted d es n m is_object all n_is m_is =
    has_exactly-counted (needed ++ keys_there allowed d) d es n (4 + m) is_object (has_all-append needed (keys_there allowed d) d all (has_all-there allowed d)) n_is (omega (arith, m_is))

-- another number of members
pub other_keys : (d : Data) (es : List (String Global × Value)) (n m : ℕ) → Some (members_view es) ≡ as_object d → has_all needed d ≡ true → n ≡ length es → m ≡ length (keys_there allowed d)
    → (n ≡ 4 + m → ⊥) → false ≡ is_top d
other_keys d es n m is_object all n_is m_is other =
    let test : (n == 4 + m) ≡ false = grind (arith, nat_tests) in
    let keys : has_exactly (needed ++ keys_there allowed d) d ≡ false = sym (keys_counted d es n m is_object all n_is m_is) ∙ test in
    ap (λ (b : Bool). b && are_arrays (codes "types" ∷ codes "points" ∷ codes "obstacles" ∷ codes "pairs" ∷ []) d) (sym keys)

-- the keys of a site
pub site_keys : (d : Data) (es : List (String Global × Value)) (n m : ℕ) → Some (members_view es) ≡ as_object d → has_all needed d ≡ true → n ≡ length es → m ≡ length (keys_there allowed d)
    → n ≡ 4 + m → are_arrays (codes "types" ∷ codes "points" ∷ codes "obstacles" ∷ codes "pairs" ∷ []) d ≡ is_top d
site_keys d es n m is_object all n_is m_is same =
    let test : (n == 4 + m) ≡ true = grind (arith, nat_tests) in
    let keys : has_exactly (needed ++ keys_there allowed d) d ≡ true = sym (keys_counted d es n m is_object all n_is m_is) ∙ test in
    ap (λ (b : Bool). b && are_arrays (codes "types" ∷ codes "points" ∷ codes "obstacles" ∷ codes "pairs" ∷ []) d) (sym keys)
