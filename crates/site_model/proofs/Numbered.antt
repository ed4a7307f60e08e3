-- Names by the numbers of their points.
use Rattle.std.proofs.Common.{◌≡◌, ℕ, ◌<◌, List, [], ◌∷◌, ◌++◌, ◌+◌, ◌||◌, length, get_or, map, Bool, true, false, not, cond, if◌then◌else◌, Option, Some, None, MatchOption, refl, ap, sym, ◌∙◌, subst, arith}
use Rattle.std.specs.Prelude.{Any, slice_get, position, is_some, nat_lt}
use Rattle.std.specs.List.{list_any, position_or_len}
use Rattle.std.specs.Option.{option_map}
use Rattle.std.specs.Str.{bytes_eq}
use Rattle.std.proofs.lemmas.Bool.{false≢true, false_from_ne_true}
use Rattle.std.proofs.lemmas.List.{length-map, get_or-map, map-append}
use Rattle.std.proofs.lemmas.List.Folds.{list_any_at, Any-from_list_any}
use Rattle.std.proofs.lemmas.List.Quantifiers.{position-Some}
use Rattle.std.proofs.lemmas.Option.{slice_get-map, slice_get-get_or, slice_get_within}
use Rattle.std.proofs.lemmas.Slice.Eq.{bytes_eq-Decides}
use Rattle.cable_definitions.specs.declared.site.Point.{Point}
use Rattle.cable_definitions.specs.Text.{name_from}
use Rattle.site_model.proofs.Names.{Any-named}

-- ---- names in a list
-- a name that is in a list is found there
known_found : (names : List (List ℕ)) (name : List ℕ) → Any (λ known. known ≡ name) names → list_any (bytes_eq name) names ≡ true
known_found names name (k, known, l, at, same) = list_any_at (bytes_eq name) names k known l ((bytes_eq-Decides name (get_or names k known)).1 (sym (at ∙ same)))

-- a name that isn't in a list isn't found there
unknown_not_found : (names : List (List ℕ)) (name : List ℕ) → ¬ (Any (λ known. known ≡ name) names) → list_any (bytes_eq name) names ≡ false
unknown_not_found names name fresh = false_from_ne_true (list_any (bytes_eq name) names) (λ e. fresh (known (Any-from_list_any (bytes_eq name) names e)))
  where
    known : Any (λ x. bytes_eq name x ≡ true) names → Any (λ x. x ≡ name) names
    known (k, x, l, at, e) = (k, x, l, at, sym ((bytes_eq-Decides name x).0 e))

-- the place at which a name was found has it
found_at_place : (names : List (List ℕ)) (name : List ℕ) (i : ℕ) → position (bytes_eq name) names ≡ Some i → slice_get names i ≡ Some name
found_at_place names name i e =
    let found = position-Some (bytes_eq name) names i name e in
    let same : name ≡ get_or names i name = (bytes_eq-Decides name (get_or names i name)).0 found.1 in
    slice_get-get_or names i name found.0 ∙ ap (λ (x : List ℕ). Some x) (sym same)

-- ---- names that stand for keys
module _ {K : Type 0} (bytes : K → List ℕ) where
  -- the first key of which a test holds stands where the first name of which it holds does
  position_or_len-bytes : (test : List ℕ → Bool) (keys : List K) → position_or_len (λ k. test (bytes k)) keys ≡ position_or_len test (map bytes keys)
  position_or_len-bytes test [] = refl
  position_or_len-bytes test (k ∷ keys) = ap (λ (n : ℕ). cond (not (test (bytes k))) (1 + n) 0) (position_or_len-bytes test keys)

  -- and is found there
  position-bytes : (test : List ℕ → Bool) (keys : List K) → position (λ k. test (bytes k)) keys ≡ position test (map bytes keys)
  position-bytes test keys =
      let Found : ℕ → ℕ → Option ℕ = λ n len. cond (nat_lt n len) (Some n) None in
      ap (λ (n : ℕ). Found n (length keys)) (position_or_len-bytes test keys) ∙ ap (λ (len : ℕ). Found (position_or_len test (map bytes keys)) len) (sym (length-map keys bytes))

  -- a test holds of some key's name where it holds of some name
  list_any-bytes : (test : List ℕ → Bool) (keys : List K) → list_any (λ k. test (bytes k)) keys ≡ list_any test (map bytes keys)
  list_any-bytes test [] = refl
  list_any-bytes test (k ∷ keys) = ap (λ (b : Bool). test (bytes k) || b) (list_any-bytes test keys)

  -- the number of a name, from the first key that has its bytes
  pub number_says : (keys : List K) (name : List ℕ) (r : Option ℕ) → r ≡ position (λ k. bytes_eq name (bytes k)) keys → is_some r ≡ list_any (λ k. bytes_eq name (bytes k)) keys
      → MatchOption r (¬ (Any (λ known. known ≡ name) (map bytes keys))) (λ number. slice_get (map bytes keys) number ≡ Some name)
  number_says keys name None is found = λ known. false≢true (found ∙ list_any-bytes (bytes_eq name) keys ∙ known_found (map bytes keys) name known)
  number_says keys name (Some i) is found = found_at_place (map bytes keys) name i (sym (position-bytes (bytes_eq name) keys) ∙ sym is)

  -- a key with a new name goes last
  pub names_added : (keys all : List K) (k : K) (name : List ℕ) → all ≡ (if list_any (λ x. bytes_eq (bytes k) (bytes x)) keys then keys else (keys ++ k ∷ [])) → bytes k ≡ name → ¬ (Any (λ known. known ≡ name) (map bytes keys))
      → map bytes all ≡ map bytes keys ++ name ∷ []
  names_added keys all k name becomes same fresh =
      let not_found : list_any (λ x. bytes_eq (bytes k) (bytes x)) keys ≡ false =
      list_any-bytes (bytes_eq (bytes k)) keys ∙ ap (λ (n : List ℕ). list_any (bytes_eq n) (map bytes keys)) same ∙ unknown_not_found (map bytes keys) name fresh in
      ap (λ (ks : List K). map bytes ks) (becomes ∙ ap (λ (b : Bool). if b then keys else (keys ++ k ∷ [])) not_found)
      ∙ map-append bytes keys (k ∷ [])
      ∙ ap (λ (n : List ℕ). map bytes keys ++ n ∷ []) same

-- ---- names of points
-- a point's name is among the names
Any-name_of_point : (points : List Point) (name : List ℕ) → Any (λ p. p.name ≡ name) points → Any (λ known. known ≡ name) (map (λ p. p.name) points)
Any-name_of_point points name (k, p, l, at, named) =
    let as_long = length-map points (λ (q : Point). q.name) in (
      k,
      p.name,
      omega arith,
      get_or-map (λ (q : Point). q.name) points k p p.name l ∙ ap (λ (q : Point). q.name) at,
      named,
    )

-- a name stands at the number of its point
named_at : (points : List Point) (name : List ℕ) (k : ℕ) → slice_get (map (λ p. p.name) points) k ≡ Some name → (k < length points) × (name_from (slice_get points k) ≡ name)
named_at points name k e =
    let as_long = length-map points (λ (q : Point). q.name) in
    let within = slice_get_within (map (λ (q : Point). q.name) points) k name e in
    (omega arith, by_point (slice_get points k) (sym (slice_get-map (λ (q : Point). q.name) points k) ∙ e))
  where
    by_point : (o : Option Point) → option_map (λ p. p.name) o ≡ Some name → name_from o ≡ name
    by_point None f = absurd (cc)
    by_point (Some p) f = cc

-- a name that is among the names is that of a point
Any-point_of_name : (points : List Point) (name : List ℕ) → Any (λ known. known ≡ name) (map (λ p. p.name) points) → Any (λ p. p.name ≡ name) points
Any-point_of_name points name (k, known, l, at, same) =
    let names : List (List ℕ) = map (λ (p : Point). p.name) points in
    let here = named_at points name k (slice_get-get_or names k known l ∙ ap (λ (x : List ℕ). Some x) (at ∙ same)) in
    Any-named points name k here.0 here.1

-- a name that isn't among the names is that of no point
pub no_point : (points : List Point) (names : List (List ℕ)) (name : List ℕ) → names ≡ map (λ p. p.name) points → ¬ (Any (λ known. known ≡ name) names) → ¬ (Any (λ p. p.name ≡ name) points)
no_point points names name are unknown named = unknown (subst (λ (ns : List (List ℕ)). Any (λ n. n ≡ name) ns) (sym are) (Any-name_of_point points name named))

-- a name among the names is that of the point of its number
pub point_named : (points : List Point) (names : List (List ℕ)) (name : List ℕ) (k : ℕ) → names ≡ map (λ p. p.name) points → slice_get names k ≡ Some name → (k < length points) × (name_from (slice_get points k) ≡ name)
point_named points names name k are e = named_at points name k (ap (λ (ns : List (List ℕ)). slice_get ns k) (sym are) ∙ e)

-- a name that no point has isn't among the names
pub unknown_name : (points : List Point) (names : List (List ℕ)) (name : List ℕ) → names ≡ map (λ p. p.name) points → ¬ (Any (λ p. p.name ≡ name) points) → ¬ (Any (λ known. known ≡ name) names)
unknown_name points names name are fresh known = fresh (Any-point_of_name points name (subst (λ (ns : List (List ℕ)). Any (λ n. n ≡ name) ns) are known))

-- the names with that of a further point
pub numbered_push : (points others : List Point) (p : Point) (names all : List (List ℕ)) (name : List ℕ) → names ≡ map (λ q. q.name) points → all ≡ names ++ name ∷ [] → p.name ≡ name → others ≡ points ++ p ∷ [] → all ≡ map (λ q. q.name) others
numbered_push points others p names all name are added named pushed =
    added
    ∙ ap (λ (ns : List (List ℕ)). ns ++ name ∷ []) are
    ∙ ap (λ (n : List ℕ). map (λ (q : Point). q.name) points ++ n ∷ []) (sym named)
    ∙ sym (map-append (λ (q : Point). q.name) points (p ∷ []))
    ∙ ap (λ (ps : List Point). map (λ (q : Point). q.name) ps) (sym pushed)
