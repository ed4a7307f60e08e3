-- The open node that is taken first.
use Rattle.std.proofs.Common.{◌≡◌, ℕ, ◌+◌, ◌<◌, ◌≤◌, ◌⊎◌, inl, inr, ℤ, pos, List, slice_get, Some, None, Option, sym, ◌∙◌, ap, subst, arith}
use Rattle.std.specs.Prelude.{◌^◌, ◌≤ℤ◌, ◌<ℤ◌, nat_abs, IfSome}
use Rattle.std.specs.Int.{w128}
use mir.Val.{to_z, of_z}
use Rattle.std.proofs.lemmas.Bool.{cases_lt}
use Rattle.std.proofs.lemmas.Int.{ints, to_z-of_z}
use Rattle.cable_definitions.specs.Tree.{Node, node_of}
use Rattle.search_progress.specs.Chosen.{IsBeaten}
use Rattle.search_progress.specs.Open.{IsFree, IsLeastBelow, IsFirstBelow}
use Rattle.search_progress.specs.declared.open.OpenNode.{OpenNode}

-- a bound that is passed on is the same bound
pub passed : (z : ℤ) → pos 0 ≤ℤ z → z <ℤ pos (2 ^ 100) → to_z w128 (of_z w128 z) ≡ z
passed z h k = to_z-of_z w128 z (omega (arith, ints, h, k))

-- one node more, which isn't open
pub first-same : (nodes : List Node) (lanes : List (Option ℕ)) (numbers : List ℕ) (n v : ℕ) (first : Option OpenNode) → slice_get numbers n ≡ Some v → ¬ (IsFree nodes lanes v) → IsFirstBelow nodes lanes numbers n first
    → IsFirstBelow nodes lanes numbers (n + 1) first
first-same nodes lanes numbers n v None here none before = λ place w l there free. by_place place w free (cases_lt place n) l there
  where
    by_place : (place w : ℕ) → IsFree nodes lanes w → (place < n) ⊎ (n ≤ place) → place < n + 1 → slice_get numbers place ≡ Some w → ⊥
    by_place place w free (inl k) l there = before place w k there free
    by_place place w free (inr k) l there =
        let e : place ≡ n = omega (arith, k, l) in
        let same : Some w ≡ Some v = sym there ∙ ap (slice_get numbers) e ∙ here in
        none (subst (IsFree nodes lanes) (cc) free)
first-same nodes lanes numbers n v (Some first) here none before = record {
  is_free = before.is_free;
  bound_is = before.bound_is;
  small = before.small;
  least = λ place w other l there. by_place place w other (cases_lt place n) l there;
}
  where
    by_place : (place w : ℕ) (other : IsFree nodes lanes w) → (place < n) ⊎ (n ≤ place) → place < n + 1 → slice_get numbers place ≡ Some w → first.bound ≤ℤ pos other.node.bound
    by_place place w other (inl k) l there = before.least place w other k there
    by_place place w other (inr k) l there =
        let e : place ≡ n = omega (arith, k, l) in
        let same : Some w ≡ Some v = sym there ∙ ap (slice_get numbers) e ∙ here in
        absurd (none (subst (IsFree nodes lanes) (cc) other))

-- two accounts of one node have one bound
same-bound : (nodes : List Node) (lanes : List (Option ℕ)) (v w : ℕ) (x : IsFree nodes lanes v) (y : IsFree nodes lanes w) → v ≡ w → x.node.bound ≡ y.node.bound
same-bound nodes lanes v w x y e =
    let both : Some x.node ≡ Some y.node = sym x.made ∙ ap (node_of nodes) e ∙ y.made in
    let one : x.node ≡ y.node = cc in
    ap (λ (z : Node). z.bound) one

-- one open node more
pub first-more : (nodes : List Node) (lanes : List (Option ℕ)) (numbers : List ℕ) (n v : ℕ) (first : Option OpenNode) (second best : OpenNode) → IsFirstBelow nodes lanes numbers n first
    → slice_get numbers n ≡ Some v → second.node ≡ v → (free : IsFree nodes lanes second.node) → second.bound ≡ pos free.node.bound → second.bound <ℤ pos (2 ^ 100) → (best ≡ second) ⊎ (first ≡ Some best)
    → best.bound ≤ℤ second.bound → IfSome first (λ node. best.bound ≤ℤ node.bound) → IsLeastBelow nodes lanes numbers (n + 1) best
first-more nodes lanes numbers n v first second best before here number free is small (inl e) low lower =
    subst (λ (o : OpenNode). IsLeastBelow nodes lanes numbers (n + 1) o) (sym e) (record {
      is_free = free;
      bound_is = is;
      small = small;
      least = λ place w other l there. by_place place w other (cases_lt place n) l there;
    })
  where
    bound_here : second.bound ≡ best.bound
    bound_here = ap (λ (o : OpenNode). o.bound) (sym e)

    earlier : (o : Option OpenNode) → IsFirstBelow nodes lanes numbers n o → IfSome o (λ node. best.bound ≤ℤ node.bound) → (place w : ℕ) (other : IsFree nodes lanes w) → place < n → slice_get numbers place ≡ Some w
        → second.bound ≤ℤ pos other.node.bound
    earlier None h l place w other k there = absurd (h place w k there other)
    earlier (Some found) h l place w other k there = (let far = h.least place w other k there in omega (arith, ints, l, far, bound_here))

    by_place : (place w : ℕ) (other : IsFree nodes lanes w) → (place < n) ⊎ (n ≤ place) → place < n + 1 → slice_get numbers place ≡ Some w → second.bound ≤ℤ pos other.node.bound
    by_place place w other (inl k) l there = earlier first before lower place w other k there
    by_place place w other (inr k) l there =
        let at : place ≡ n = omega (arith, k, l) in
        let same : Some w ≡ Some v = sym there ∙ ap (slice_get numbers) at ∙ here in
        let one : w ≡ v = cc in
        let bounds = same-bound nodes lanes second.node w free other (number ∙ sym one) in
        omega (arith, ints, is, bounds)
first-more nodes lanes numbers n v first second best before here number free is small (inr e) low lower = record {
  is_free = was.is_free;
  bound_is = was.bound_is;
  small = was.small;
  least = λ place w other l there. by_place place w other (cases_lt place n) l there;
}
  where
    was : IsLeastBelow nodes lanes numbers n best
    was = subst (IsFirstBelow nodes lanes numbers n) e before

    by_place : (place w : ℕ) (other : IsFree nodes lanes w) → (place < n) ⊎ (n ≤ place) → place < n + 1 → slice_get numbers place ≡ Some w → best.bound ≤ℤ pos other.node.bound
    by_place place w other (inl k) l there = was.least place w other k there
    by_place place w other (inr k) l there =
        let at : place ≡ n = omega (arith, k, l) in
        let same : Some w ≡ Some v = sym there ∙ ap (slice_get numbers) at ∙ here in
        let one : w ≡ v = cc in
        let bounds = same-bound nodes lanes second.node w free other (number ∙ sym one) in
        omega (arith, ints, is, bounds, low)

-- where the first open node's bound isn't below the known cost, none of the others is
pub all-beaten : (nodes : List Node) (lanes : List (Option ℕ)) (numbers : List ℕ) (n : ℕ) (known : Option ℕ) (first : OpenNode) (bound : ℕ) → IsLeastBelow nodes lanes numbers n first → first.bound ≡ pos bound
    → IsBeaten known bound → (place v : ℕ) (free : IsFree nodes lanes v) → place < n → slice_get numbers place ≡ Some v → IsBeaten known free.node.bound
all-beaten nodes lanes numbers n None first bound least is beaten place v free l there = beaten
all-beaten nodes lanes numbers n (Some total) first bound least is beaten place v free l there =
    let low = least.least place v free l there in
    omega (arith, ints, is, beaten, low)

-- the bound of the first open node as it is passed on
bound-passed : (nodes : List Node) (lanes : List (Option ℕ)) (numbers : List ℕ) (n : ℕ) (first : OpenNode) (least : IsLeastBelow nodes lanes numbers n first) → nat_abs (to_z w128 (of_z w128 first.bound)) ≡ least.is_free.node.bound
bound-passed nodes lanes numbers n first least =
    let is = least.bound_is in
    let small = least.small in
    ap nat_abs (passed first.bound (omega (arith, ints, is)) small ∙ is)

-- it isn't below the known cost where the code says so
pub beaten-first : (nodes : List Node) (lanes : List (Option ℕ)) (numbers : List ℕ) (n : ℕ) (known : Option ℕ) (first : OpenNode) (least : IsLeastBelow nodes lanes numbers n first)
    → IsBeaten known (nat_abs (to_z w128 (of_z w128 first.bound))) → IsBeaten known least.is_free.node.bound
beaten-first nodes lanes numbers n known first least beaten = subst (IsBeaten known) (bound-passed nodes lanes numbers n first least) beaten

-- and it is where the code says otherwise
pub first-beaten : (nodes : List Node) (lanes : List (Option ℕ)) (numbers : List ℕ) (n : ℕ) (known : Option ℕ) (first : OpenNode) (least : IsLeastBelow nodes lanes numbers n first)
    → IsBeaten known least.is_free.node.bound → IsBeaten known (nat_abs (to_z w128 (of_z w128 first.bound)))
first-beaten nodes lanes numbers n known first least beaten = subst (IsBeaten known) (sym (bound-passed nodes lanes numbers n first least)) beaten
