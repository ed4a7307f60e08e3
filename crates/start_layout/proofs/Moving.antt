-- Neighbours made by one arc.
use Rattle.std.proofs.Common.{◌≡◌, ◌≢◌, ℕ, ◌+◌, ◌<◌, ◌≤◌, ◌⊎◌, List, [], ◌∷◌, length, slice_get, Option, Some, None, option_map, IsSome, inl, inr, arith, refl, sym, ap, ◌∙◌, subst}
use Rattle.std.proofs.lemmas.Bool.{cases_lt}
use Rattle.std.proofs.lemmas.Bool.Decides.{eqb_tells}
use Rattle.std.proofs.lemmas.Option.{slice_get_within, slice_get-get_or}
use Rattle.std.specs.Prelude.{Any, IfNone, IfSome}
use Rattle.cable_definitions.specs.declared.cable.Arc.{Arc}
use Rattle.cable_definitions.specs.declared.cable.Cable.{Cable}
use Rattle.cable_definitions.specs.Site.{Site}
use Rattle.cable_definitions.specs.Arcs.{AreArcs, IsCandidate}
use Rattle.cable_definitions.specs.Walk.{cable_out}
use Rattle.cable_definitions.specs.Layout.{IsCable, Starts, IsLegal, cost}
use Rattle.cable_definitions.specs.Part.{end_of, AreCheapTyped, AreNeighbours, IsSettled}
use Rattle.number_laws.proofs.Keys.{first_at-map, DifferentKeys-map}
use Rattle.layout_laws.specs.Alike.{StartsDiffer, SameOuts, SameEnds}
use Rattle.layout_laws.proofs.Alike.{cable_out-from, cable_out-place, cable_out-of, Starts-same, IsLegal-ordered, cost-ordered}
use Rattle.layout_laws.proofs.Arcs.{SameEnds-from_arcs, with_grades_of, with_grades_of-arcs, with_grades_of-differ, with_grades_of-outs}
pub use Rattle.layout_laws.proofs.Legal.{broken_not_legal as not_legal}
use Rattle.layout_laws.proofs.Typing.{all-at, some_cheap_typed}
use Rattle.layout_laws.proofs.Typed.{IsLegal-cheap, cost-legal, cheap_typed-same}
use Rattle.start_layout.specs.Moves.{re_ended, with_end, MakesLegal, MakesNoneBelow, AllMakeNoneBelow, IsMove, IsBestMove}

-- an arc whose end makes a legal layout of this cost, which is less than that of the cables, or none, where the cost is that of the cables
abbrev pub IsMoveOrNone : Site → List Cable → ℕ → Option Arc → Type 0
IsMoveOrNone s cables least None = least ≡ cost s cables
IsMoveOrNone s cables least (Some a) = IsMove s cables least a

-- ---- the cables out of points where those out of p end in q
-- the first of them
out_of_ended : (cables : List Cable) (p q r : ℕ) → cable_out (with_end cables p q) r ≡ option_map (re_ended p q) (cable_out cables r)
out_of_ended cables p q r = first_at-map (λ (c : Cable). c.from) (re_ended p q) cables r (λ c. refl)

-- the same points start cables
some_mapped : (f : Cable → Cable) (o : Option Cable) → IsSome o → IsSome (option_map f o)
some_mapped f None h = absurd (cc)
some_mapped f (Some c) h = refl

some_before : (f : Cable → Cable) (o : Option Cable) → IsSome (option_map f o) → IsSome o
some_before f None h = absurd (cc)
some_before f (Some c) h = refl

starts_ended : (cables : List Cable) (p q r : ℕ) → Starts cables r → Starts (with_end cables p q) r
starts_ended cables p q r h = subst IsSome (sym (out_of_ended cables p q r)) (some_mapped (re_ended p q) (cable_out cables r) h)

starts_before : (cables : List Cable) (p q r : ℕ) → Starts (with_end cables p q) r → Starts cables r
starts_before cables p q r h = some_before (re_ended p q) (cable_out cables r) (subst IsSome (out_of_ended cables p q r) h)

-- a cable out of another point ends where it did
pub end_elsewhere : (cables : List Cable) (p q r : ℕ) → r ≢ p → end_of (with_end cables p q) r ≡ end_of cables r
end_elsewhere cables p q r n = ap (option_map (λ (c : Cable). c.to)) (out_of_ended cables p q r) ∙ by (cable_out cables r) (cable_out-from cables r)
  where
    by : (o : Option Cable) → ((c : Cable) → o ≡ Some c → c.from ≡ r) → option_map (λ (c : Cable). c.to) (option_map (re_ended p q) o) ≡ option_map (λ (c : Cable). c.to) o
    by None f = refl
    by (Some c) f = elim (eqb_tells c.from p) [
      | inl t ↦ absurd (n (sym (f c refl) ∙ t.1))
      | inr t ↦ rw t.0 refl
    ]

-- the one out of p ends in q
pub end_moved : (cables : List Cable) (p q : ℕ) → Starts cables p → end_of (with_end cables p q) p ≡ Some q
end_moved cables p q h = ap (option_map (λ (c : Cable). c.to)) (out_of_ended cables p q p) ∙ by (cable_out cables p) (cable_out-from cables p) h
  where
    by : (o : Option Cable) → ((c : Cable) → o ≡ Some c → c.from ≡ p) → IsSome o → option_map (λ (c : Cable). c.to) (option_map (re_ended p q) o) ≡ Some q
    by None f h = absurd (cc)
    by (Some c) f h = elim (eqb_tells c.from p) [
      | inl t ↦ rw t.0 refl
      | inr t ↦ absurd (t.1 (f c refl))
    ]

-- starts still differ
differ_ended : (cables : List Cable) (p q : ℕ) → StartsDiffer cables → StartsDiffer (with_end cables p q)
differ_ended cables p q d = DifferentKeys-map (λ (c : Cable). c.from) (re_ended p q) cables (λ c. refl) d

-- ---- neighbours
-- whatever the types, the list is a neighbour
pub ended_are_neighbours : (s : Site) (cables typed : List Cable) (p q : ℕ) → AreCheapTyped s (with_end cables p q) typed → AreNeighbours cables typed
ended_are_neighbours s cables typed p q t =
    let ended = with_end cables p q in
    let same : SameEnds typed ended = SameEnds-from_arcs typed ended t.arcs in
    record {
      starts = λ r. (
        λ h. Starts-same ended typed (λ k. sym (same k)) r (starts_ended cables p q r h),
        λ h. starts_before cables p q r (Starts-same typed ended same r h),
      );
      moved = p;
      ends = λ r n. sym (end_elsewhere cables p q r n) ∙ sym (same r);
    }

-- the neighbour is made by the candidate arc from p to q
record IsMadeBy (s : Site) (cables other : List Cable) (p q : ℕ) : Type 0 where
  pub starts : Starts cables p
  pub candidate : IsCandidate s p q
  pub ends : SameEnds other (with_end cables p q)

-- a point is p or isn't, so lists end alike that do so at p and elsewhere
ends_by_point : (xs ys : List Cable) (p : ℕ) → end_of xs p ≡ end_of ys p → ((r : ℕ) → r ≢ p → end_of xs r ≡ end_of ys r) → SameEnds xs ys
ends_by_point xs ys p here elsewhere r = elim (eqb_tells r p) [
  | inl t ↦ subst (λ (x : ℕ). end_of xs x ≡ end_of ys x) (sym t.1) here
  | inr t ↦ elsewhere r t.1
]

-- a cable of a legal layout that is first out of its start is a candidate arc from there
candidate_out : (s : Site) (cables : List Cable) (p : ℕ) (c : Cable) → IsLegal s cables → cable_out cables p ≡ Some c → IsCandidate s p c.to
candidate_out s cables p c l e =
    let at = cable_out-place cables p c e in
    subst (λ (x : ℕ). IsCandidate s x c.to) (cable_out-from cables p c e) (l.candidate at.0 c at.1)

-- a neighbour whose moved start starts a cable is made by the arc of its cable there
made_by_moved : (s : Site) (cables other : List Cable) → IsLegal s other → (n : AreNeighbours cables other) → Starts cables n.moved
    → (o : Option Cable) → cable_out other n.moved ≡ o → IsSome o → (p : ℕ) × (q : ℕ) × IsMadeBy s cables other p q
made_by_moved s cables other l n h None e g = absurd (cc)
made_by_moved s cables other l n h (Some d) e g = (
  n.moved,
  d.to,
  record {
    starts = h;
    candidate = candidate_out s other n.moved d l e;
    ends = ends_by_point other (with_end cables n.moved d.to) n.moved (ap (option_map (λ (c : Cable). c.to)) e ∙ sym (end_moved cables n.moved d.to h))
        (λ r a. sym (n.ends r a) ∙ sym (end_elsewhere cables n.moved d.to r a));
  },
)

-- one with the same ends is made by the arc of any cable
made_by_any : (s : Site) (cables other : List Cable) (c : Cable) → IsLegal s cables → IsCable cables 0 c → SameEnds cables other → (p : ℕ) × (q : ℕ) × IsMadeBy s cables other p q
made_by_any s cables other c l e same =
    let out = cable_out-of cables l.start 0 c e in
    let h : Starts cables c.from = subst IsSome (sym out) refl in (
      c.from,
      c.to,
      record {
        starts = h;
        candidate = l.candidate 0 c e;
        ends = λ r. sym (same r)
            ∙ ends_by_point cables (with_end cables c.from c.to) c.from (ap (option_map (λ (x : Cable). x.to)) out ∙ sym (end_moved cables c.from c.to h))
            (λ k a. sym (end_elsewhere cables c.from c.to k a)) r;
      },
    )

-- the points that start no cable
no_end : (o : Option Cable) → ¬ (IsSome o) → option_map (λ (c : Cable). c.to) o ≡ None
no_end None n = refl
no_end (Some c) n = absurd (n refl)

-- each legal neighbour of a layout with a cable is made by an arc
made_by_some : (s : Site) (cables other : List Cable) (c : Cable) → IsLegal s cables → IsLegal s other → (n : AreNeighbours cables other) → IsCable cables 0 c
    → (o : Option Cable) → cable_out cables n.moved ≡ o → (p : ℕ) × (q : ℕ) × IsMadeBy s cables other p q
made_by_some s cables other c l m n e (Some d) h =
    let start : Starts cables n.moved = subst IsSome (sym h) refl in
    made_by_moved s cables other m n start (cable_out other n.moved) refl ((n.starts n.moved).0 start)
made_by_some s cables other c l m n e None h =
    let none : ¬ (Starts cables n.moved) = λ g. absurd (let k : IsSome {T = Cable} None = subst IsSome h g in cc) in
    made_by_any s cables other c l e (ends_by_point cables other n.moved
    (no_end (cable_out cables n.moved) none ∙ sym (no_end (cable_out other n.moved) (λ g. none ((n.starts n.moved).1 g))))
    n.ends)

-- where a neighbour is made by an arc, the cheapest types after the arc's end is taken make a legal layout that costs no more
as_cheap : (s : Site) (cables other typed : List Cable) (p q : ℕ) → IsLegal s cables → IsLegal s other → IsMadeBy s cables other p q → AreCheapTyped s (with_end cables p q) typed
    → (IsLegal s typed) × (cost s typed ≤ cost s other)
as_cheap s cables other typed p q l m by t =
    let ended = with_end cables p q in
    let same = with_grades_of other ended in
    let differ : StartsDiffer same = with_grades_of-differ other ended (differ_ended cables p q l.start) in
    let outs : SameOuts other same = with_grades_of-outs other ended by.ends in
    let arcs = with_grades_of-arcs other ended in
    let legal : IsLegal s same = IsLegal-ordered s other same differ outs m in
    let e : cost s other ≡ cost s same = cost-ordered s other same m.start differ outs in
    let less : cost s typed ≤ cost s same = cost-legal s ended typed same t arcs legal in
    (IsLegal-cheap s ended typed same t arcs legal, subst (λ (n : ℕ). cost s typed ≤ n) (sym e) less)

-- ---- settled layouts
-- no neighbour costs less than a bound where no arc makes such a one
no_neighbour_below : (s : Site) (arcs : List Arc) (cables other : List Cable) (bound : ℕ) → AreArcs s arcs → IsLegal s cables → IsLegal s other
    → AllMakeNoneBelow s arcs cables (length arcs) bound → (p q : ℕ) → IsMadeBy s cables other p q → bound ≤ cost s other
no_neighbour_below s arcs cables other bound are l m none p q by = arc_at (are.all_candidates p q by.candidate)
  where
    at_arc : (k : ℕ) (a : Arc) → slice_get arcs k ≡ Some a → IsMadeBy s cables other a.from a.to → bound ≤ cost s other
    at_arc k a e by =
        let typed = some_cheap_typed s (with_end cables a.from a.to) in
        let cheap = as_cheap s cables other typed.0 a.from a.to l m by typed.1 in
        omega (arith, none k a (slice_get_within arcs k a e) e by.starts typed.0 typed.1 cheap.0, cheap.1)

    arc_at : Any (λ a. (a.from ≡ p) × (a.to ≡ q)) arcs → bound ≤ cost s other
    arc_at any =
        at_arc any.0 any.1 (slice_get-get_or arcs any.0 any.1 any.2 ∙ ap Some any.3)
        (subst (λ (x : ℕ). IsMadeBy s cables other x any.1.to) (sym any.4.0) (subst (IsMadeBy s cables other p) (sym any.4.1) by))

-- so a layout is settled where no arc makes one that costs less
pub settled_where_none : (s : Site) (arcs : List Arc) (cables : List Cable) → AreArcs s arcs → IsLegal s cables → AllMakeNoneBelow s arcs cables (length arcs) (cost s cables) → IsSettled s cables
settled_where_none s arcs [] are l none = record { legal = l; no_cheaper = λ other m n. omega arith }
settled_where_none s arcs (c ∷ cables) are l none = record {
  legal = l;
  no_cheaper = λ other m n.
      let made = made_by_some s (c ∷ cables) other c l m n refl (cable_out (c ∷ cables) n.moved) refl in
      no_neighbour_below s arcs (c ∷ cables) other (cost s (c ∷ cables)) are l m none made.0 made.1 made.2;
}

-- where some arc makes one that costs less it isn't
pub not_settled : (s : Site) (cables typed : List Cable) (least : ℕ) (a : Arc) → AreCheapTyped s (with_end cables a.from a.to) typed → IsMove s cables least a → ¬ (IsSettled s cables)
not_settled s cables typed least a t move h =
    let made = move.legal typed t in
    let most = h.no_cheaper typed made.0 (ended_are_neighbours s cables typed a.from a.to t) in
    omega (arith, made.1, move.cheaper)

-- ---- what judging a neighbour finds
-- an arc makes nothing where its cheapest types aren't legal
pub none_where_illegal : (s : Site) (cables tried : List Cable) (bound : ℕ) (arc : Arc) → AreCheapTyped s (with_end cables arc.from arc.to) tried → ¬ (IsLegal s tried) → MakesNoneBelow s cables bound arc
none_where_illegal s cables tried bound arc t not h typed u l = absurd (not (subst (IsLegal s) (cheap_typed-same s (with_end cables arc.from arc.to) typed tried u t) l))

-- nor where they cost no less than the bound
pub none_where_dear : (s : Site) (cables tried : List Cable) (bound : ℕ) (arc : Arc) → AreCheapTyped s (with_end cables arc.from arc.to) tried → bound ≤ cost s tried → MakesNoneBelow s cables bound arc
none_where_dear s cables tried bound arc t less h typed u l =
    subst (λ (xs : List Cable). bound ≤ cost s xs) (cheap_typed-same s (with_end cables arc.from arc.to) tried typed t u) less

-- what was judged legal is made
pub made_legal : (s : Site) (cables tried : List Cable) (c : ℕ) (arc : Arc) → AreCheapTyped s (with_end cables arc.from arc.to) tried → (IsLegal s tried) × (c ≡ cost s tried) → MakesLegal s cables arc c
made_legal s cables tried c arc t h typed u =
    subst (λ (xs : List Cable). (IsLegal s xs) × (c ≡ cost s xs)) (cheap_typed-same s (with_end cables arc.from arc.to) tried typed t u) h

-- ---- arc by arc
-- one arc more
pub none_more : (s : Site) (arcs : List Arc) (cables : List Cable) (n bound : ℕ) (arc : Arc) → slice_get arcs n ≡ Some arc → AllMakeNoneBelow s arcs cables n bound → MakesNoneBelow s cables bound arc
    → AllMakeNoneBelow s arcs cables (n + 1) bound
none_more s arcs cables n bound arc e below here k a h f = elim (cases_lt k n) [
  | inl less ↦ below k a less f
  | inr more ↦ (
      let same : k ≡ n = omega arith in
      let g : Some arc ≡ Some a = sym e ∙ ap (slice_get arcs) (sym same) ∙ f in
      let one : arc ≡ a = cc in
      subst (MakesNoneBelow s cables bound) one here
      )
]

-- one arc more that makes the cheapest so far
pub less_more : (s : Site) (arcs : List Arc) (cables : List Cable) (n bound less : ℕ) (arc : Arc) → slice_get arcs n ≡ Some arc → AllMakeNoneBelow s arcs cables n bound → less < bound → MakesLegal s cables arc less
    → AllMakeNoneBelow s arcs cables (n + 1) less
less_more s arcs cables n bound less arc e below h made =
    none_more s arcs cables n less arc e (λ k a w f g typed t l. let most = below k a w f g typed t l in omega arith)
    (λ g typed t l. let found = made typed t in omega (arith, found.1))

-- an arc ends in a point of the site
pub end_within : (s : Site) (arcs : List Arc) (n : ℕ) (a : Arc) → AreArcs s arcs → slice_get arcs n ≡ Some a → a.to < length s.points
end_within s arcs n a are e = slice_get_within s.points a.to _ (all-at (λ b. IsCandidate s b.from b.to) arcs n a are.candidates e).to_is

-- and starts in one
pub start_within : (s : Site) (arcs : List Arc) (n : ℕ) (a : Arc) → AreArcs s arcs → slice_get arcs n ≡ Some a → a.from < length s.points
start_within s arcs n a are e = slice_get_within s.points a.from _ (all-at (λ b. IsCandidate s b.from b.to) arcs n a are.candidates e).from_is

-- all arcs were tried
pub after_all : (s : Site) (arcs : List Arc) (cables : List Cable) (n bound : ℕ) → length arcs ≤ n → AllMakeNoneBelow s arcs cables n bound → AllMakeNoneBelow s arcs cables (length arcs) bound
after_all s arcs cables n bound h below k a w f = below k a (omega arith) f

-- and a layout without a cheaper neighbour is settled
pub settled_or_best : (s : Site) (arcs : List Arc) (cables : List Cable) (least : ℕ) (best : Option Arc) → AreArcs s arcs → IsLegal s cables → AllMakeNoneBelow s arcs cables (length arcs) least → IsMoveOrNone s cables least best
    → (IfNone best (IsSettled s cables)) × (IfSome best (IsBestMove s arcs cables))
settled_or_best s arcs cables least None are l none same =
    (settled_where_none s arcs cables are l (subst (AllMakeNoneBelow s arcs cables (length arcs)) same none), tt)
settled_or_best s arcs cables least (Some a) are l none move = (tt, record { least = least; move = move; best = none })

-- a move costs no more than the cables themselves
least_at_most : (s : Site) (cables : List Cable) (least : ℕ) (best : Option Arc) → IsMoveOrNone s cables least best → least ≤ cost s cables
least_at_most s cables least None h = omega arith
least_at_most s cables least (Some a) h = omega (arith, h.cheaper)

-- what is known after an arc that makes a cheaper layout
pub move_after : (s : Site) (arcs : List Arc) (cables : List Cable) (n least less : ℕ) (best : Option Arc) (arc : Arc) → AreArcs s arcs → slice_get arcs n ≡ Some arc → IsMoveOrNone s cables least best
    → less < least → MakesLegal s cables arc less → IsMove s cables less arc
move_after s arcs cables n least less best arc are e h below made =
    record { within = end_within s arcs n arc are e; legal = made; cheaper = omega (arith, least_at_most s cables least best h) }

-- the same under other names
pub kept_on : (s : Site) (arcs : List Arc) (cables : List Cable) (n least now : ℕ) (best best_now : Option Arc) → now ≡ least → best_now ≡ best → AllMakeNoneBelow s arcs cables n least → IsMoveOrNone s cables least best
    → (AllMakeNoneBelow s arcs cables n now) × (IsMoveOrNone s cables now best_now)
kept_on s arcs cables n least now best best_now e f below move = (
  subst (AllMakeNoneBelow s arcs cables n) (sym e) below,
  subst (IsMoveOrNone s cables now) (sym f) (subst (λ (k : ℕ). IsMoveOrNone s cables k best) (sym e) move),
)

-- ---- from one layout to the next
-- the cables are those at first, or cost less than those, which then aren't settled
abbrev pub HasMoved : Site → List Cable → List Cable → Type 0
HasMoved s first cables = (cables ≡ first) ⊎ ((¬ (IsSettled s first)) × (cost s cables < cost s first))

-- after a move they cost less
pub moved_on : (s : Site) (arcs : List Arc) (first cables typed : List Cable) (a : Arc) → IsBestMove s arcs cables a → AreCheapTyped s (with_end cables a.from a.to) typed → HasMoved s first cables
    → (IsLegal s typed) × (HasMoved s first typed)
moved_on s arcs first cables typed a best t moved = (made.0, inr (by moved))
  where
    made : (IsLegal s typed) × (best.least ≡ cost s typed)
    made = best.move.legal typed t

    by : HasMoved s first cables → (¬ (IsSettled s first)) × (cost s typed < cost s first)
    by (inl same) =
        let less : cost s typed < cost s cables = omega (arith, made.1, best.move.cheaper) in (
          subst (λ (xs : List Cable). ¬ (IsSettled s xs)) same (not_settled s cables typed best.least a t best.move),
          subst (λ (xs : List Cable). cost s typed < cost s xs) same less,
        )
    by (inr h) = (h.0, omega (arith, made.1, best.move.cheaper, h.1))
