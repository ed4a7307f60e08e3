-- Extremes over the choices of each arc, arc by arc and in all.
use Rattle.std.proofs.Common.{◌≡◌, ℕ, zero, suc, ◌+◌, ◌≤◌, List, [], ◌∷◌, ◌++◌, length, take, slice_get, Some, ℤ, ◌+ℤ◌, arith, subst}
use Rattle.std.proofs.lemmas.Int.{ints}
use Rattle.std.proofs.lemmas.List.{take_all}
use Rattle.cable_definitions.specs.declared.cable.Arc.{Arc}
use Rattle.cable_definitions.specs.declared.row.Mark.{Mark}
use Rattle.cable_definitions.specs.Site.{Site}
use Rattle.cable_definitions.specs.Choice.{Choice, IsExtreme, AreExtremes, IsSumOfExtremes}
use Rattle.number_laws.proofs.Sums.{sum_int-append, sum_int-cons}

-- one extreme more
extremes_more : (R : ℤ → ℤ → Type 0) (s : Site) (f : ℕ → Arc → Choice → ℤ) (n i : ℕ) (arcs : List Arc) (marks : List Mark) (a : Arc) (m : Mark) (zs : List ℤ) (z : ℤ) → slice_get arcs i ≡ Some a → slice_get marks i ≡ Some m
    → AreExtremes R s f n (take i arcs) (take i marks) zs → IsExtreme R s a m (f (n + i) a) z → AreExtremes R s f n (take (suc i) arcs) (take (suc i) marks) (zs ++ z ∷ [])
extremes_more R s f n i [] marks a m zs z e g x y = absurd (cc)
extremes_more R s f n i (b ∷ arcs) [] a m zs z e g x y = absurd (cc)
extremes_more R s f n zero (b ∷ arcs) (k ∷ marks) a m [] z e g x y =
    let p : a ≡ b = cc in
    let q : m ≡ k = cc in
    (subst (λ (mark : Mark). IsExtreme R s b mark (f n b) z) q (subst (λ (arc : Arc). IsExtreme R s arc m (f n arc) z) p (subst (λ (j : ℕ). IsExtreme R s a m (f j a) z) (let o : n + 0 ≡ n = omega arith in o) y)), tt)
extremes_more R s f n zero (b ∷ arcs) (k ∷ marks) a m (w ∷ zs) z e g x y = absurd x
extremes_more R s f n (suc i) (b ∷ arcs) (k ∷ marks) a m [] z e g x y = absurd x
extremes_more R s f n (suc i) (b ∷ arcs) (k ∷ marks) a m (w ∷ zs) z e g x y =
    (x.0, extremes_more R s f (n + 1) i arcs marks a m zs z e g x.1 (subst (λ (j : ℕ). IsExtreme R s a m (f j a) z) (let o : n + suc i ≡ n + 1 + i = omega arith in o) y))

-- the sum of one extreme more
pub sum_more : (R : ℤ → ℤ → Type 0) (s : Site) (f : ℕ → Arc → Choice → ℤ) (i : ℕ) (arcs : List Arc) (marks : List Mark) (a : Arc) (m : Mark) (total z : ℤ) → slice_get arcs i ≡ Some a → slice_get marks i ≡ Some m
    → IsSumOfExtremes R s (take i arcs) (take i marks) f total → IsExtreme R s a m (f i a) z → IsSumOfExtremes R s (take (i + 1) arcs) (take (i + 1) marks) f (total +ℤ z)
sum_more R s f i arcs marks a m total z e g x y =
    subst (λ (j : ℕ). IsSumOfExtremes R s (take j arcs) (take j marks) f (total +ℤ z)) (let o : suc i ≡ i + 1 = omega arith in o)
    (record {
      extremes = x.extremes ++ z ∷ [];
      are_extremes = extremes_more R s f 0 i arcs marks a m x.extremes z e g x.are_extremes (subst (λ (j : ℕ). IsExtreme R s a m (f j a) z) (let o : i ≡ 0 + i = omega arith in o) y);
      sum = (let p = x.sum in omega (arith, ints, p, sum_int-append (λ (w : ℤ). w) x.extremes (z ∷ []), sum_int-cons (λ (w : ℤ). w) z []));
    })

-- the sum over all arcs
pub sum_all : (R : ℤ → ℤ → Type 0) (s : Site) (f : ℕ → Arc → Choice → ℤ) (i : ℕ) (arcs : List Arc) (marks : List Mark) (total : ℤ) → length arcs ≤ i → length marks ≡ length arcs
    → IsSumOfExtremes R s (take i arcs) (take i marks) f total → IsSumOfExtremes R s arcs marks f total
sum_all R s f i arcs marks total h e x =
    subst (λ (ms : List Mark). IsSumOfExtremes R s arcs ms f total) (take_all i marks (omega arith))
    (subst (λ (xs : List Arc). IsSumOfExtremes R s xs (take i marks) f total) (take_all i arcs h) x)
