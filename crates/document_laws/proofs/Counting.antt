-- How many arcs, cables, nodes and rows there are at most.
use Rattle.std.proofs.Common.{◌≡◌, ◌≢◌, ℕ, zero, suc, ◌+◌, ◌-◌, ◌*◌, ◌<◌, ◌≤◌, ◌⊎◌, inl, inr, ℤ, List, [], ◌∷◌, length, get_or, Some, ap, arith}
use Rattle.std.specs.Prelude.{All, AllPairs}
use Rattle.std.proofs.lemmas.List.{length-set, length-append}
use Rattle.std.proofs.lemmas.List.Elements.{All-head, All-tail}
use Rattle.std.proofs.lemmas.Option.{slice_get_within}
use Rattle.cable_definitions.specs.declared.cable.Arc.{Arc}
use Rattle.cable_definitions.specs.declared.cable.Cable.{Cable}
use Rattle.cable_definitions.specs.declared.row.Act.{Act}
use Rattle.cable_definitions.specs.declared.row.Act.TheVariants.{Split, Stop, Dead, Full}
use Rattle.cable_definitions.specs.Site.{Site, IsValid}
use Rattle.cable_definitions.specs.Arcs.{IsCandidate, AreArcs}
use Rattle.cable_definitions.specs.Tree.{Item, RowItem, WorkItem, ProofState, Node, empty_state, node_of, IsActed, Accepts}
use Rattle.document_laws.proofs.ArcsOnce.{pairs-head, pairs-tail}

-- ---- lists whose numbers ascend
ascending : {X : Type 0} → (number : X → ℕ) (low most : ℕ) (xs : List X) → low ≤ most → All (λ x. low ≤ number x) xs → All (λ x. number x < most) xs
    → AllPairs (λ x y. number x < number y) xs → low + length xs ≤ most
ascending number low most [] fits above below order = omega arith
ascending {X} number low most (x ∷ xs) fits above below order =
    let here : low ≤ number x = All-head (λ y. low ≤ number y) x xs above in
    let there : number x < most = All-head (λ y. number y < most) x xs below in
    let later : All (λ y. number x + 1 ≤ number y) xs = λ k d l. let o = pairs-head (λ y z. number y < number z) x xs order k d l in omega (arith, o) in
    let rest = ascending number (number x + 1) most xs (omega arith) later (All-tail (λ y. number y < most) x xs below) (pairs-tail (λ y z. number y < number z) x xs order) in
    omega (arith, rest, here)

-- ---- arcs
-- the number of an arc among all pairs of different points
arc_key : ℕ → ℕ → ℕ
arc_key p q = 255 * p + (q - ((q - p) - ((q - p) - 1)))

key_below : (p q : ℕ) → p < 256 → q < 256 → p ≢ q → arc_key p q < 65280
unfolding arc_key
key_below p q h k n = omega (arith, n)

key_before : (p q t u : ℕ) → q < 256 → u < 256 → p ≢ q → t ≢ u → p < 256 → t < 256 → (p < t) ⊎ ((p ≡ t) × (q < u)) → arc_key p q < arc_key t u
unfolding arc_key
key_before p q t u h k n m l o (inl b) = omega arith
key_before p q t u h k n m l o (inr b) = omega (arith, b.0, b.1)

-- two different points of the site
record ArePoints (p q : ℕ) : Type 0 where
  from : p < 256
  to : q < 256
  differ : p ≢ q

points_of : (s : Site) → IsValid s → (p q : ℕ) → IsCandidate s p q → ArePoints p q
points_of s valid p q c = record {
  from = let l = slice_get_within s.points p c.from c.from_is in let m = valid.points_count in omega (arith, l, m);
  to = let l = slice_get_within s.points q c.to c.to_is in let m = valid.points_count in omega (arith, l, m);
  differ = c.different;
}

-- a site has at most 255 arcs from each of 256 points
pub arcs-most : (s : Site) (arcs : List Arc) → IsValid s → AreArcs s arcs → length arcs ≤ 65280
arcs-most s arcs valid are = let l = ascending (λ a. arc_key a.from a.to) 0 65280 arcs (omega arith) (λ k d l. omega arith) below order in omega (arith, l)
  where
    ends : (k : ℕ) (d : Arc) → k < length arcs → ArePoints (get_or arcs k d).from (get_or arcs k d).to
    ends k d l = points_of s valid (get_or arcs k d).from (get_or arcs k d).to (are.candidates k d l)

    below : All (λ a. arc_key a.from a.to < 65280) arcs
    below k d l = let e = ends k d l in key_below (get_or arcs k d).from (get_or arcs k d).to e.from e.to e.differ

    order : AllPairs (λ a b. arc_key a.from a.to < arc_key b.from b.to) arcs
    order i j d h l =
        let first : i < length arcs = omega arith in
        let e = ends i d first in
        let f = ends j d l in
        key_before (get_or arcs i d).from (get_or arcs i d).to (get_or arcs j d).from (get_or arcs j d).to e.to f.to e.differ f.differ e.from f.from (are.in_order i j d h l)

-- ---- cables
-- cables in ascending order of start are as many as there are points at most
pub cables-most : (n : ℕ) (cables : List Cable) → AllPairs (λ c d. c.from < d.from) cables → All (λ c. c.from < n) cables → length cables ≤ n
cables-most n cables order below =
    let l = ascending (λ c. c.from) 0 n cables (omega arith) (λ k d l. omega arith) below order in
    omega (arith, l)

-- ---- nodes and rows
-- each work makes at most two nodes, there are at most so many works, and at most 16,384 rows
pub record IsCounted (n : ℕ) (kept : ProofState) : Type 0 where
  pub nodes : length kept.nodes ≤ 2 * kept.works + 1
  pub works : kept.works ≤ n
  pub rows : length kept.rows ≤ 16384

pub counted-nothing : (n : ℕ) → IsCounted n empty_state
counted-nothing n = record { nodes = omega arith; works = omega arith; rows = omega arith }

counted_act : (s : Site) (arcs : List Arc) (old : ProofState) (v : ℕ) (node : Node) (value : ℤ) (act : Act) (nodes : List Node) → IsActed s arcs old v node value act nodes → length nodes ≤ length old.nodes + 2
counted_act s arcs old v node value (Split a) nodes h = let e = ap length h.3 in omega (arith, e, length-append {A = Node}, length-set {A = Node})
counted_act s arcs old v node value Stop nodes h = let e = ap length h.2 in omega (arith, e, length-set {A = Node})
counted_act s arcs old v node value (Dead why) nodes h = let e = ap length h.3 in omega (arith, e, length-set {A = Node})
counted_act s arcs old v node value Full nodes h = let e = ap length h.2 in omega (arith, e, length-set {A = Node})

pub counted-accepts : (s : Site) (arcs : List Arc) (n : ℕ) (old : ProofState) (item : Item) (new : ProofState) → IsCounted n old → Accepts s arcs n old item new → IsCounted n new
counted-accepts s arcs n old (RowItem row) new c a =
    let e = ap length a.nodes in
    let f = a.works in
    let g = c.nodes in
    let h = c.works in
    record { nodes = omega (arith, e, f, g); works = omega (arith, f, h); rows = a.rows_count }
counted-accepts s arcs n old (WorkItem v weights act) new c a =
    let e = counted_act s arcs old v a.node a.value act new.nodes a.acted in
    let f = a.works in
    let g = c.nodes in
    let h = a.within_budget in
    let i = ap length a.rows in
    let j = c.rows in
    record { nodes = omega (arith, e, f, g); works = omega (arith, f, h); rows = omega (arith, i, j) }

-- the number of a made node
pub record IsMade (nodes : List Node) (v : ℕ) : Type 0 where
  pub some : 1 ≤ v
  pub within : v ≤ length nodes

pub made-within : (nodes : List Node) (v : ℕ) (node : Node) → node_of nodes v ≡ Some node → IsMade nodes v
made-within nodes zero node e = absurd (cc)
made-within nodes (suc v) node e = let l = slice_get_within nodes v node e in record { some = omega arith; within = omega (arith, l) }
