-- A site has one list of candidate arcs.
use Rattle.std.proofs.Common.{◌≡◌, ℕ, zero, suc, ◌⊎◌, inl, inr, List, [], ◌∷◌, slice_get, get_or, refl, sym, ap, ◌∙◌, subst, arith}
use Rattle.std.specs.Prelude.{All, AllPairs, Any}
use Rattle.std.proofs.lemmas.List.Elements.{All-head, All-tail}
use Rattle.cable_definitions.specs.declared.cable.Arc.{Arc}
use Rattle.cable_definitions.specs.Site.{Site}
use Rattle.cable_definitions.specs.Arcs.{ArcBefore, AreArcs, length_between, charge_of}

-- ---- lists in order
-- what stands first is related to all others, and the others to each other
pub pairs-head : {X : Type 0} → (R : X → X → Type 0) (x : X) (xs : List X) → AllPairs R (x ∷ xs) → All (R x) xs
pairs-head R x xs a k d l = a 0 (suc k) d (omega arith) (omega arith)

pub pairs-tail : {X : Type 0} → (R : X → X → Type 0) (x : X) (xs : List X) → AllPairs R (x ∷ xs) → AllPairs R xs
pairs-tail R x xs a i j d h l = a (suc i) (suc j) d (omega arith) (omega arith)

-- some element is the first or stands behind it
any-cases : {X : Type 0} → (P : X → Type 0) (x : X) (xs : List X) → Any P (x ∷ xs) → P x ⊎ Any P xs
any-cases P x xs (zero, y, l, e, h) = inl (subst P (sym e) h)
any-cases P x xs (suc k, y, l, e, h) = inr (k, y, omega arith, e, h)

any-none : {X : Type 0} → (P : X → Type 0) → Any P [] → ⊥
any-none P (k, y, l, e, h) = omega arith

-- ---- arcs in order
abbrev Same : Arc → Arc → Type 0
Same a b = (b.from ≡ a.from) × (b.to ≡ a.to)

once : (a b : Arc) → ArcBefore a b → Same a b → ⊥
once a b (inl h) e = omega (arith, h, e.0)
once a b (inr h) e = omega (arith, h.1, e.1)

circle : (a b c d : Arc) → ArcBefore a b → Same c b → ArcBefore c d → Same a d → ⊥
circle a b c d (inl h) e (inl k) f = omega (arith, h, e.0, k, f.0)
circle a b c d (inl h) e (inr k) f = omega (arith, h, e.0, k.0, f.0)
circle a b c d (inr h) e (inl k) f = omega (arith, h.0, e.0, k, f.0)
circle a b c d (inr h) e (inr k) f = omega (arith, h.1, e.1, k.1, f.1)

-- an arc is told by its fields
same_arc : (a b : Arc) → a.from ≡ b.from → a.to ≡ b.to → a.length ≡ b.length → a.charge ≡ b.charge → a ≡ b
same_arc a b e f g h =
    ap (λ n. record a { from = n }) e ∙ ap (λ n. record a { from = b.from; to = n }) f ∙ ap (λ n. record a { from = b.from; to = b.to; length = n }) g
    ∙ ap (λ n. record b { charge = n }) h

module _ (lengths charges : ℕ → ℕ → ℕ) where
  -- arcs with these lengths and charges, in order
  record AreGood (xs : List Arc) : Type 0 where
    in_order : AllPairs ArcBefore xs
    lengths_are : All (λ a. a.length ≡ lengths a.from a.to) xs
    charges_are : All (λ a. a.charge ≡ charges a.from a.to) xs

  good-tail : (x : Arc) (xs : List Arc) → AreGood (x ∷ xs) → AreGood xs
  good-tail x xs g = record {
    in_order = pairs-tail ArcBefore x xs g.in_order;
    lengths_are = All-tail (λ a. a.length ≡ lengths a.from a.to) x xs g.lengths_are;
    charges_are = All-tail (λ a. a.charge ≡ charges a.from a.to) x xs g.charges_are;
  }

  -- heads with one start and one end are one arc
  same_heads : (x y : Arc) (xs ys : List Arc) → AreGood (x ∷ xs) → AreGood (y ∷ ys) → Same x y → x ≡ y
  same_heads x y xs ys g h e =
      let l = All-head (λ a. a.length ≡ lengths a.from a.to) x xs g.lengths_are in
      let m = All-head (λ a. a.length ≡ lengths a.from a.to) y ys h.lengths_are in
      let c = All-head (λ a. a.charge ≡ charges a.from a.to) x xs g.charges_are in
      let d = All-head (λ a. a.charge ≡ charges a.from a.to) y ys h.charges_are in
      let p = e.0 in
      let q = e.1 in
      same_arc x y (sym p) (sym q) (cc) (cc)

  -- the arcs behind the heads are found behind the heads
  behind : (x y : Arc) (xs ys : List Arc) → AreGood (x ∷ xs) → Same x y → All (λ a. Any (Same a) (y ∷ ys)) (x ∷ xs) → All (λ a. Any (Same a) ys) xs
  behind x y xs ys g e f k d l = elim (any-cases (Same (arc_at k d)) y ys (All-tail (λ a. Any (Same a) (y ∷ ys)) x xs f k d l)) [
    | inl h ↦ absurd (once x (arc_at k d) (pairs-head ArcBefore x xs g.in_order k d l) (let p = h.0 in let q = h.1 in let r = e.0 in let t = e.1 in (cc, cc)))
    | inr h ↦ h
  ]
    where
      arc_at : ℕ → Arc → Arc
      arc_at i a = get_or xs i a

  one_list : (xs ys : List Arc) → AreGood xs → AreGood ys → All (λ a. Any (Same a) ys) xs → All (λ a. Any (Same a) xs) ys → xs ≡ ys
  one_list [] [] g h e f = refl
  one_list [] (y ∷ ys) g h e f = absurd (any-none (Same y) (All-head (λ a. Any (Same a) []) y ys f))
  one_list (x ∷ xs) [] g h e f = absurd (any-none (Same x) (All-head (λ a. Any (Same a) []) x xs e))
  one_list (x ∷ xs) (y ∷ ys) g h e f = joined (any-cases (Same x) y ys (All-head (λ a. Any (Same a) (y ∷ ys)) x xs e)) (any-cases (Same y) x xs (All-head (λ a. Any (Same a) (x ∷ xs)) y ys f))
      (λ same other. one_list xs ys (good-tail x xs g) (good-tail y ys h) (behind x y xs ys g same e) (behind y x ys xs h other f))
    where
      turned : (a b : Arc) → Same a b → Same b a
      turned a b t = (sym t.0, sym t.1)

      heads : Same x y → (Same x y → Same y x → xs ≡ ys) → x ∷ xs ≡ y ∷ ys
      heads t rest = let p = same_heads x y xs ys g h t in let q = rest t (turned x y t) in cc

      joined : Same x y ⊎ Any (Same x) ys → Same y x ⊎ Any (Same y) xs → (Same x y → Same y x → xs ≡ ys) → x ∷ xs ≡ y ∷ ys
      joined (inl t) other rest = heads t rest
      joined (inr t) (inl u) rest = heads (turned y x u) rest
      joined (inr t) (inr u) rest =
          absurd (circle y t.1 x u.1 (subst (ArcBefore y) t.3 (pairs-head ArcBefore y ys h.in_order t.0 t.1 t.2)) t.4
          (subst (ArcBefore x) u.3 (pairs-head ArcBefore x xs g.in_order u.0 u.1 u.2)) u.4)

-- the lengths and the charges between the points of a site
abbrev lengths_of : Site → ℕ → ℕ → ℕ
lengths_of s p q = length_between (slice_get s.points p) (slice_get s.points q)

abbrev charges_of : Site → ℕ → ℕ → ℕ
charges_of s p q = charge_of s p q

-- a site has one list of candidate arcs
pub arcs-same : (s : Site) (arcs others : List Arc) → AreArcs s arcs → AreArcs s others → arcs ≡ others
arcs-same s arcs others h k = one_list (lengths_of s) (charges_of s) arcs others (good arcs h) (good others k) (found arcs others h k) (found others arcs k h)
  where
    good : (xs : List Arc) → AreArcs s xs → AreGood (lengths_of s) (charges_of s) xs
    good xs a = record { in_order = a.in_order; lengths_are = a.lengths; charges_are = a.charges }

    found : (xs ys : List Arc) → AreArcs s xs → AreArcs s ys → All (λ a. Any (Same a) ys) xs
    found xs ys a b i d l = b.all_candidates (get_or xs i d).from (get_or xs i d).to (a.candidates i d l)
