-- The lanes and the nodes that they hold, and which nodes are wanted.
use Rattle.std.proofs.Common.{◌≡◌, ℕ, zero, suc, ◌+◌, ◌<◌, ◌≤◌, inl, inr, cond, Bool, true, false, List, length, get_or, slice_get, Some, None, Option, count_by, refl, sym, ◌∙◌, ap, subst, arith}
use Rattle.std.specs.Prelude.{◌==◌, slice_set, replicate, IfSome, IfNone}
use Rattle.std.specs.Option.{is_some}
use Rattle.std.proofs.Math.ListN.{length-set}
use Rattle.std.proofs.lemmas.Bool.{cases_lt}
use Rattle.std.proofs.lemmas.Bool.Decides.{nat_tests}
use Rattle.std.proofs.lemmas.Option.{slice_get_within, get_or_from_slice_get, slice_get-get_or}
use Rattle.std.proofs.lemmas.List.Sums.{sum_by-set}
use Rattle.number_laws.proofs.NatSums.{count_by-place}
use Rattle.proof_laws.proofs.Boxes.{set_either}
use Rattle.cable_definitions.specs.declared.cable.Cable.{Cable}
use Rattle.cable_definitions.specs.declared.cable.Arc.{Arc}
use Rattle.cable_definitions.specs.Site.{Site}
use Rattle.cable_definitions.specs.Layout.{cost}
use Rattle.cable_definitions.specs.Tree.{Node, Item}
use Rattle.cable_definitions.specs.Core.{IsWanted, IsBelowKnown, is_holding, Takes}
use Rattle.proof_laws.specs.WorksLeft.{IsUnworked}
use Rattle.search_progress.specs.Chosen.{IsBeaten}
use Rattle.search_progress.specs.Open.{IsIn, IsFree}
use Rattle.search_progress.specs.Progress.{known_by, core_of, one_if_unworked, unworked_count, AreHeld, AreApart, IsKnown, IsSearching}
use Rattle.search_progress.specs.declared.progress.Progress.{Progress}

-- ---- the known cost
-- a bound that isn't beaten is below the known cost
pub below-known : (s : Site) (best : List Cable) (known : Option ℕ) (b : ℕ) → IsKnown s best known → ¬ (IsBeaten known b) → IsBelowKnown s (known_by known best) b
below-known s best None b k h = tt
below-known s best (Some total) b k h = elim (cases_lt b (cost s best)) [
  | inl l ↦ l
  | inr m ↦ absurd (h (let e = k.1 in omega (arith, e, m)))
]

-- and one that is beaten isn't
pub not-below : (s : Site) (best : List Cable) (known : Option ℕ) (b : ℕ) → IsKnown s best known → IsBeaten known b → IsBelowKnown s (known_by known best) b → ⊥
not-below s best None b k h l = h
not-below s best (Some total) b k h l = (let e = k.1 in omega (arith, e, h, l))

-- ---- wanted nodes
-- an open node whose bound isn't beaten is wanted
pub wanted-some : (s : Site) (arcs : List Arc) (n : ℕ) (items : List Item) (p : Progress) (v : ℕ) → IsSearching s arcs n p → (free : IsFree p.tree.nodes p.lanes.items v) → ¬ (IsBeaten p.known free.node.bound)
    → IsWanted s (core_of items p) v
wanted-some s arcs n items p v searching free below = record {
  is_open = record { node = free.node; made = free.made; unworked = free.unworked; not_held = free.not_held };
  below = below-known s p.best p.known free.node.bound searching.known below;
}

-- where the bounds of all open nodes of the list are beaten, none is wanted
pub wanted-none : (s : Site) (arcs : List Arc) (n : ℕ) (items : List Item) (p : Progress) (v : ℕ) → IsSearching s arcs n p
    → ((place w : ℕ) (free : IsFree p.tree.nodes p.lanes.items w) → slice_get p.open_nodes.items place ≡ Some w → IsBeaten p.known free.node.bound) → ¬ (IsWanted s (core_of items p) v)
wanted-none s arcs n items p v searching beaten wanted =
    let is = wanted.is_open in
    let counted : count_by (λ w. w == v) p.open_nodes.items ≡ 1 = searching.are_open v ∙ ap unworked_count is.made ∙ ap one_if_unworked is.unworked in
    let there = count_by-place (λ (w : ℕ). w == v) p.open_nodes.items (omega (arith, counted)) in
    let free : IsFree p.tree.nodes p.lanes.items v = record { node = is.node; made = is.made; unworked = is.unworked; not_held = is.not_held } in
    not-below s p.best p.known is.node.bound searching.known (beaten there.0 v free (there.2 ∙ ap (λ (w : ℕ). Some w) (same_number there.1 v there.3))) wanted.below
  where
    same_number : (w v : ℕ) → (w == v) ≡ true → w ≡ v
    same_number w v e = grind (arith, nat_tests)

-- the same of the answer of a look
pub next-some : (r : Option ℕ) (p : Progress) (lanes : List (Option ℕ)) → lanes ≡ p.lanes.items → IfSome r (λ v. (free : IsFree p.tree.nodes lanes v) × (¬ (IsBeaten p.known free.node.bound)))
    → IfSome r (λ v. (s : Site) (arcs : List Arc) (n : ℕ) (items : List Item) → IsSearching s arcs n p → IsWanted s (core_of items p) v)
next-some None p lanes e h = h
next-some (Some v) p lanes e h =
    let there = subst (λ (xs : List (Option ℕ)). (free : IsFree p.tree.nodes xs v) × (¬ (IsBeaten p.known free.node.bound))) e h in
    λ s arcs n items searching. wanted-some s arcs n items p v searching there.0 there.1

pub next-none : (r : Option ℕ) (p : Progress) (lanes : List (Option ℕ)) (numbers : List ℕ) → lanes ≡ p.lanes.items → numbers ≡ p.open_nodes.items
    → IfNone r ((place v : ℕ) (free : IsFree p.tree.nodes lanes v) → slice_get numbers place ≡ Some v → IsBeaten p.known free.node.bound)
    → IfNone r ((s : Site) (arcs : List Arc) (n : ℕ) (items : List Item) (v : ℕ) → IsSearching s arcs n p → ¬ (IsWanted s (core_of items p) v))
next-none None p lanes numbers e f h =
    let there = subst (λ (xs : List (Option ℕ)). (place v : ℕ) (free : IsFree p.tree.nodes xs v) → slice_get numbers place ≡ Some v → IsBeaten p.known free.node.bound) e h in
    λ s arcs n items v searching. wanted-none s arcs n items p v searching (λ place w free g. there place w free (ap (λ (xs : List ℕ). slice_get xs place) f ∙ g))
next-none (Some w) p lanes numbers e f h = h

-- what is so where there is no answer
pub if-none : {X P : Type 0} → (r : Option X) → P → IfNone r P
if-none None h = h
if-none (Some x) h = tt

-- ---- lanes
-- 1 for a lane that holds a node
abbrev pub one_if_holding : Option ℕ → ℕ
one_if_holding lane = cond (is_holding lane) 1 0

-- a lane without a node
pub lane-empty : (lanes : List (Option ℕ)) (lane : ℕ) (x : Option ℕ) (answer : Bool) → lane < length lanes → x ≡ get_or lanes lane x → answer ≡ is_some x → answer ≡ false → slice_get lanes lane ≡ Some None
lane-empty lanes lane None answer l e f g = slice_get-get_or lanes lane None l ∙ ap (λ (o : Option ℕ). Some o) (sym e)
lane-empty lanes lane (Some v) answer l e f g = absurd (cc)

-- how many lanes hold a node where one was set
pub held-set : (lanes : List (Option ℕ)) (lane : ℕ) (old new : Option ℕ) → slice_get lanes lane ≡ Some old
    → count_by is_holding (slice_set lanes lane new) + one_if_holding old ≡ count_by is_holding lanes + one_if_holding new
held-set lanes lane old new e =
    let sums = sum_by-set one_if_holding lanes lane new old (slice_get_within lanes lane old e) in
    let there = ap one_if_holding (get_or_from_slice_get lanes lane old old e) in
    omega (arith, sums, there)

-- where a lane holds a node, at least one does
pub held-some : (lanes : List (Option ℕ)) (lane v : ℕ) → slice_get lanes lane ≡ Some (Some v) → 1 ≤ count_by is_holding lanes
held-some lanes lane v e = (let sums = held-set lanes lane (Some v) None e in omega (arith, sums))

-- a lane that holds the node
pub in-from : (lanes : List (Option ℕ)) (lane v : ℕ) → slice_get lanes lane ≡ Some (Some v) → IsIn lanes v
in-from lanes lane v e = (lane, Some v, slice_get_within lanes lane (Some v) e, get_or_from_slice_get lanes lane (Some v) (Some v) e, refl)

-- lanes stay apart where one takes a node that none held
pub apart-taken : (lanes : List (Option ℕ)) (lane v : ℕ) → slice_get lanes lane ≡ Some None → ¬ (IsIn lanes v) → AreApart lanes → AreApart (slice_set lanes lane (Some v))
apart-taken lanes lane v e free apart i j w f g = elim (set_either lanes lane (Some v) None e i (Some w) f) [
  | inl x ↦ elim (set_either lanes lane (Some v) None e j (Some w) g) [
    | inl y ↦ x.0 ∙ sym y.0
    | inr y ↦ absurd (free (in-from lanes j v (y.1 ∙ ap (λ (o : Option ℕ). Some o) (sym x.1))))
  ]
  | inr x ↦ elim (set_either lanes lane (Some v) None e j (Some w) g) [
    | inl y ↦ absurd (free (in-from lanes i v (x.1 ∙ ap (λ (o : Option ℕ). Some o) (sym y.1))))
    | inr y ↦ apart i j w x.1 y.1
  ]
]

-- the nodes that are held aren't worked
pub held-taken : (nodes : List Node) (lanes : List (Option ℕ)) (lane v : ℕ) → slice_get lanes lane ≡ Some None → IsUnworked nodes v → AreHeld nodes lanes → AreHeld nodes (slice_set lanes lane (Some v))
held-taken nodes lanes lane v e unworked held i w f = elim (set_either lanes lane (Some v) None e i (Some w) f) [
  | inl x ↦ (let same : Some v ≡ Some w = x.1 in let one : v ≡ w = cc in subst (IsUnworked nodes) one unworked)
  | inr x ↦ held i w x.1
]

-- lanes stay apart where one gives its node up
pub apart-given : (lanes : List (Option ℕ)) (lane v : ℕ) → slice_get lanes lane ≡ Some (Some v) → AreApart lanes → AreApart (slice_set lanes lane None)
apart-given lanes lane v e apart i j w f g = elim (set_either lanes lane None (Some v) e i (Some w) f) [
  | inl x ↦ absurd (let h = x.1 in cc)
  | inr x ↦ elim (set_either lanes lane None (Some v) e j (Some w) g) [
    | inl y ↦ absurd (let h = y.1 in cc)
    | inr y ↦ apart i j w x.1 y.1
  ]
]

-- a lane that holds no node
abbrev pub nobody : Option ℕ
nobody = None

-- no lane holds a node
pub none-held : (count : ℕ) (lane v : ℕ) → slice_get (replicate count nobody) lane ≡ Some (Some v) → ⊥
none-held zero lane v e = cc
none-held (suc count) zero v e = cc
none-held (suc count) (suc lane) v e = none-held count lane v e

-- ---- a lane takes a node
-- the take happens
pub take-happens : (s : Site) (arcs : List Arc) (n : ℕ) (items : List Item) (p q : Progress) (lane v : ℕ) → q ≡ record p { lanes = q.lanes } → q.lanes.items ≡ slice_set p.lanes.items lane (Some v)
    → slice_get p.lanes.items lane ≡ Some None → IsWanted s (core_of items p) v → p.tree.works + count_by is_holding p.lanes.items < n → Takes s n (core_of items p) lane (core_of items q)
take-happens s arcs n items p q lane v is lanes empty wanted left = record {
  empty = empty;
  node = v;
  wanted = wanted;
  budget = left;
  after = ap (λ (x : Progress). core_of items x) is ∙ ap (λ (xs : List (Option ℕ)). record (core_of items p) { lanes = xs }) lanes;
}

-- the search goes on
pub take-searching : (s : Site) (arcs : List Arc) (n : ℕ) (p q : Progress) (lane v : ℕ) → q ≡ record p { lanes = q.lanes } → q.lanes.items ≡ slice_set p.lanes.items lane (Some v) → slice_get p.lanes.items lane ≡ Some None
    → ((items : List Item) → IsWanted s (core_of items p) v) → p.tree.works + count_by is_holding p.lanes.items < n → IsSearching s arcs n p → IsSearching s arcs n q
take-searching s arcs n p q lane v is lanes empty wanted left h =
    let free = (wanted h.items).is_open in
    let counted = held-set p.lanes.items lane None (Some v) empty in
    let count = ap (count_by is_holding) lanes in
    let same = length-set p.lanes.items lane (Some v) in
    let long = ap length lanes in
    subst (λ (x : Progress). IsSearching s arcs n x) (sym is) (record {
      valid = h.valid;
      are_arcs = h.are_arcs;
      some = h.some;
      most = h.most;
      limit = h.limit;
      ceiling_is = h.ceiling_is;
      budget = h.budget;
      arcs_count = h.arcs_count;
      marks_count = h.marks_count;
      room = h.room;
      few = h.few;
      items = h.items;
      accepted = h.accepted;
      rows = h.rows;
      are_open = h.are_open;
      held = subst (AreHeld p.tree.nodes) (sym lanes) (held-taken p.tree.nodes p.lanes.items lane v empty (free.node, free.made, free.unworked) h.held);
      apart = subst AreApart (sym lanes) (apart-taken p.lanes.items lane v empty free.not_held h.apart);
      few_lanes = (let there = h.few_lanes in omega (arith, there, same, long));
      within = omega (arith, left, counted, count);
      known = h.known;
    })
