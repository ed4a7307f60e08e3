-- A full layout stands in ascending order of start.
use Rattle.std.proofs.Common.{◌≡◌, ℕ, zero, suc, ◌<◌, ◌≤◌, inl, inr, List, [], ◌∷◌, map, get_or, slice_get, Some, refl, sym, ◌∙◌, ap, arith}
use Rattle.std.specs.Prelude.{AllPairs}
use Rattle.std.proofs.lemmas.Option.{slice_get-get_or}
use Rattle.cable_definitions.specs.declared.cable.Cable.{Cable}
use Rattle.cable_definitions.specs.declared.cable.Arc.{Arc}
use Rattle.cable_definitions.specs.declared.row.Mark.{Mark}
use Rattle.cable_definitions.specs.declared.row.Mark.TheVariants.{Free, Used, Unused}
use Rattle.cable_definitions.specs.Site.{Site}
use Rattle.cable_definitions.specs.Arcs.{ArcBefore, AreArcs}
use Rattle.cable_definitions.specs.Tree.{used_cables, IsFull}
use Rattle.proof_laws.proofs.Lists.{pairs_at}
use Rattle.proof_laws.proofs.Within.{used_arc}

-- later arcs start in the same point or in a later one
abbrev AreAscending : List Arc → Type 0
AreAscending arcs = (i j : ℕ) (a b : Arc) → i < j → slice_get arcs i ≡ Some a → slice_get arcs j ≡ Some b → a.from ≤ b.from

-- so do later used cables
used-ascending : (arcs : List Arc) (marks : List Mark) → AreAscending arcs → (i j : ℕ) (c d : Cable) → i < j → slice_get (used_cables arcs marks) i ≡ Some c
    → slice_get (used_cables arcs marks) j ≡ Some d → c.from ≤ d.from
used-ascending [] marks up i j c d l e f = absurd (cc)
used-ascending (a ∷ arcs) [] up i j c d l e f = absurd (cc)
used-ascending (a ∷ arcs) (Free ∷ marks) up i j c d l e f = used-ascending arcs marks (λ k m x y g p q. up (suc k) (suc m) x y (omega arith) p q) i j c d l e f
used-ascending (a ∷ arcs) (Unused ∷ marks) up i j c d l e f = used-ascending arcs marks (λ k m x y g p q. up (suc k) (suc m) x y (omega arith) p q) i j c d l e f
used-ascending (a ∷ arcs) (Used ∷ marks) up i zero c d l e f = absurd (omega arith)
used-ascending (a ∷ arcs) (Used ∷ marks) up zero (suc j) c d l e f =
    let own : Cable = record { from = a.from; to = a.to; grade = 0 } in
    let same : own ≡ c = cc in
    let first : a.from ≡ c.from = ap (λ (x : Cable). x.from) same in
    let u = used_arc arcs marks j d f in
    let g = up 0 (suc u.place) a u.arc (omega arith) refl u.is_arc in
    let h = u.starts in
    omega (arith, first, g, h)
used-ascending (a ∷ arcs) (Used ∷ marks) up (suc i) (suc j) c d l e f = used-ascending arcs marks (λ k m x y g p q. up (suc k) (suc m) x y (omega arith) p q) i j c d (omega arith) e f

-- what stands at a place of a mapped list
at_map : {X Y : Type 0} → (f : X → Y) (xs : List X) (i : ℕ) (y : Y) → slice_get (map f xs) i ≡ Some y → (x : X) × (slice_get xs i ≡ Some x) × (f x ≡ y)
at_map f [] i y e = absurd (cc)
at_map f (x ∷ xs) zero y e = (x, refl, (cc))
at_map f (x ∷ xs) (suc i) y e = at_map f xs i y e

-- and what is made of an element
map_at : {X Y : Type 0} → (f : X → Y) (xs : List X) (i : ℕ) (x : X) → slice_get xs i ≡ Some x → slice_get (map f xs) i ≡ Some (f x)
map_at f [] i x e = absurd (cc)
map_at f (y ∷ xs) zero x e = (let same : y ≡ x = cc in ap (λ z. Some (f z)) same)
map_at f (y ∷ xs) (suc i) x e = map_at f xs i x e

-- the arcs of a site start in ascending order
arcs-ascending : (s : Site) (arcs : List Arc) → AreArcs s arcs → AreAscending arcs
arcs-ascending s arcs are i j a b l e f = elim (pairs_at ArcBefore arcs are.in_order i j a b l e f) [
  | inl h ↦ omega (arith, h)
  | inr h ↦ (let g = h.0 in omega (arith, g))
]

-- a full layout is in order
pub full-in_order : (s : Site) (arcs : List Arc) (marks : List Mark) (cables : List Cable) → AreArcs s arcs → IsFull s arcs marks cables → AllPairs (λ c d. c.from < d.from) cables
full-in_order s arcs marks cables are full i j c l within =
    let first = get_or cables i c in
    let second = get_or cables j c in
    let at_first : slice_get cables i ≡ Some first = slice_get-get_or cables i c (omega arith) in
    let at_second : slice_get cables j ≡ Some second = slice_get-get_or cables j c within in
    let x = at_map (λ (k : Cable). k.from) (used_cables arcs marks) i first.from (sym (ap (λ (xs : List ℕ). slice_get xs i) full.starts) ∙ map_at (λ (k : Cable). k.from) cables i first at_first) in
    let y = at_map (λ (k : Cable). k.from) (used_cables arcs marks) j second.from (sym (ap (λ (xs : List ℕ). slice_get xs j) full.starts) ∙ map_at (λ (k : Cable). k.from) cables j second at_second) in
    let up = used-ascending arcs marks (arcs-ascending s arcs are) i j x.0 y.0 l x.1 y.1 in
    let differ = full.legal.start j i second first at_second at_first l in
    let p = x.2 in
    let q = y.2 in
    omega (arith, up, differ, p, q)
