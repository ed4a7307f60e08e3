-- What holds of an element in the middle of a list, and of those before it.
use Rattle.std.proofs.Common.{◌≡◌, ℕ, ◌<◌, List, ◌∷◌, ◌++◌, length, get_or, refl, ap, ◌∙◌, subst, arith, All}
use Rattle.std.specs.Prelude.{AllPairs}
use Rattle.std.proofs.lemmas.List.{length-append, get_or_at, get_or_append_left}

-- fewer elements stand before it than in the list
pub room : {X : Type 0} (xs done rest : List X) (x : X) → xs ≡ done ++ x ∷ rest → length done < length xs
room xs done rest x e = omega (arith, ap length e, length-append done (x ∷ rest))

-- it stands at the place behind those before it
at_middle : {X : Type 0} (xs done rest : List X) (x d : X) → xs ≡ done ++ x ∷ rest → get_or xs (length done) d ≡ x
at_middle {X} xs done rest x d e =
    let G : List X → X = λ l. get_or l (length done) d in
    ap G e ∙ get_or_at done x rest d (length done) refl

-- each of those before it stands at its place in the list
at_front : {X : Type 0} (xs done rest : List X) (x y : X) (k : ℕ) → xs ≡ done ++ x ∷ rest → k < length done → get_or done k y ≡ y → get_or xs k y ≡ y
at_front {X} xs done rest x y k e l h =
    let G : List X → X = λ l. get_or l k y in
    ap G e ∙ get_or_append_left done (x ∷ rest) y k l ∙ h

-- what holds of each element holds of it
pub middle : {X : Type 0} (P : X → Type 0) (xs done rest : List X) (x : X) → xs ≡ done ++ x ∷ rest → All P xs → P x
middle P xs done rest x e all = subst P (at_middle xs done rest x x e) (all (length done) x (room xs done rest x e))

-- and of each of those before it
pub before : {X : Type 0} (P : X → Type 0) (xs done rest : List X) (x : X) → xs ≡ done ++ x ∷ rest → All P xs → (k : ℕ) (y : X) → k < length done → get_or done k y ≡ y → P y
before P xs done rest x e all k y l h = subst P (at_front xs done rest x y k e l h) (all k y (let r = room xs done rest x e in omega arith))

-- what holds of each element and each later one holds of each of those before it and of it
pub before_it : {X : Type 0} (R : X → X → Type 0) (xs done rest : List X) (x : X) → xs ≡ done ++ x ∷ rest → AllPairs R xs → (k : ℕ) (y : X) → k < length done → get_or done k y ≡ y → R y x
before_it {X} R xs done rest x e all k y l h =
    let P : X → Type 0 = λ z. R z x in
    let Q : X → Type 0 = λ z. R (get_or xs k y) z in
    subst P (at_front xs done rest x y k e l h) (subst Q (at_middle xs done rest x y e) (all k (length done) y l (room xs done rest x e)))
