-- The arcs of a layout: each of its cables lies on one candidate arc, and each arc bears at most one of its cables.
use Rattle.std.proofs.Common.{◌≡◌, ℕ, ◌≤◌, inl, inr, ℤ, pos, Bool, true, false, ◌&&◌, cond, List, get_or, count_by, slice_get, Some, refl, ap, ap₂, subst, sym, ◌∙◌, arith, eq-eqb, eqb-true}
use Rattle.std.specs.Prelude.{◌==◌}
use Rattle.std.proofs.lemmas.Option.{slice_get_within, get_or_from_slice_get, slice_get-get_or}
use Rattle.cable_definitions.specs.declared.cable.Arc.{Arc}
use Rattle.cable_definitions.specs.declared.cable.Cable.{Cable}
use Rattle.cable_definitions.specs.Site.{Site}
use Rattle.cable_definitions.specs.Arcs.{AreArcs, ArcBefore}
use Rattle.cable_definitions.specs.Layout.{IsCable, KeepsCandidate}
use Rattle.cable_definitions.specs.Row.{has_arc}
use Rattle.number_laws.proofs.Sums.{sum_int, sum_int-same}
use Rattle.number_laws.proofs.NatSums.{count_by-at}
use Rattle.number_laws.proofs.Matches.{count_by-at_most_one, sum_int-one_match, sum_int-matches}
use Rattle.layout_laws.specs.Alike.{StartsDiffer}

-- whether a cable lies on an arc
abbrev pub lies_on : Cable → Arc → Bool
lies_on c a = (c.from == a.from) && (c.to == a.to)

both_true : (a b : Bool) → (a && b) ≡ true → (a ≡ true) × (b ≡ true)
both_true true b e = (refl, e)
both_true false b e = absurd (cc)

-- a cable on an arc has its start and its end
pub lies_on-same : (c : Cable) (a : Arc) → lies_on c a ≡ true → (c.from ≡ a.from) × (c.to ≡ a.to)
lies_on-same c a e = let r = both_true (c.from == a.from) (c.to == a.to) e in (eqb-true c.from a.from r.0, eqb-true c.to a.to r.1)

-- and the other way round
pub lies_on-from_same : (c : Cable) (a : Arc) → c.from ≡ a.from → c.to ≡ a.to → lies_on c a ≡ true
lies_on-from_same c a e f = rw (eq-eqb c.from a.from e, eq-eqb c.to a.to f) refl

-- where starts differ, at most one cable lies on an arc
pub cables_on-most : (cables : List Cable) → StartsDiffer cables → (a : Arc) → count_by (λ c. lies_on c a) cables ≤ 1
cables_on-most cables differ a =
    count_by-at_most_one (λ (c : Cable). lies_on c a) cables
    (λ i j c d e f h u v. differ j i d c f e h ((lies_on-same c a u).0 ∙ sym (lies_on-same d a v).0))

-- a cable that is a candidate arc lies on one arc
pub arcs_of-one : (s : Site) (arcs : List Arc) (cables : List Cable) → AreArcs s arcs → ((i : ℕ) → KeepsCandidate s cables i) → (i : ℕ) (c : Cable) → IsCable cables i c
    → count_by (λ a. lies_on c a) arcs ≡ 1
arcs_of-one s arcs cables are k i c h =
    let found = are.all_candidates c.from c.to (k i c h) in
    let place : slice_get arcs found.0 ≡ Some found.1 = slice_get-get_or arcs found.0 found.1 found.2 ∙ ap Some found.3 in
    let some = count_by-at (λ (a : Arc). lies_on c a) arcs found.0 found.1 place (lies_on-from_same c found.1 (sym found.4.0) (sym found.4.1)) in
    let most = count_by-at_most_one (λ (a : Arc). lies_on c a) arcs (λ i j a b e f h u v.
    let order : ArcBefore (get_or arcs i a) (get_or arcs j a) = are.in_order i j a h (slice_get_within arcs j b f) in
    let before : ArcBefore a b = read_before (get_or_from_slice_get arcs i a a e) (get_or_from_slice_get arcs j b a f) order in
    never a b before (sym (lies_on-same c a u).0 ∙ (lies_on-same c b v).0) (sym (lies_on-same c a u).1 ∙ (lies_on-same c b v).1)) in
    omega (arith, some, most)
  where
    read_before : {a b c d : Arc} → a ≡ c → b ≡ d → ArcBefore a b → ArcBefore c d
    read_before {a} {b} {c} {d} e f h = subst (λ (x : Arc). ArcBefore x d) e (subst (λ (y : Arc). ArcBefore a y) f h)

    never : (a b : Arc) → ArcBefore a b → a.from ≡ b.from → a.to ≡ b.to → ⊥
    never a b (inl h) e f = omega arith
    never a b (inr h) e f = let l = h.1 in omega arith

-- what is summed over the arcs that a layout uses is what is summed over its cables
pub sum_int-used_arcs : (s : Site) (arcs : List Arc) (cables : List Cable) → AreArcs s arcs → ((i : ℕ) → KeepsCandidate s cables i) → StartsDiffer cables → (f : ℕ → ℕ → ℤ)
    → sum_int (λ a. cond (has_arc cables a) (f a.from a.to) (pos 0)) arcs ≡ sum_int (λ c. f c.from c.to) cables
sum_int-used_arcs s arcs cables are k differ f =
    sum_int-same (λ a. cond (has_arc cables a) (f a.from a.to) (pos 0)) (λ a. sum_int (λ c. cond (lies_on c a) (f c.from c.to) (pos 0)) cables) arcs (λ a.
    sym (sum_int-one_match (λ (c : Cable). lies_on c a) (f a.from a.to) cables (cables_on-most cables differ a))
    ∙ sum_int-same (λ c. cond (lies_on c a) (f a.from a.to) (pos 0)) (λ c. cond (lies_on c a) (f c.from c.to) (pos 0)) cables (λ c. same_term c a (lies_on c a) refl))
    ∙ sum_int-matches (λ (a : Arc) (c : Cable). lies_on c a) (λ (c : Cable). f c.from c.to) arcs cables (λ i c h. arcs_of-one s arcs cables are k i c h)
  where
    same_term : (c : Cable) (a : Arc) (b : Bool) → lies_on c a ≡ b → cond b (f a.from a.to) (pos 0) ≡ cond b (f c.from c.to) (pos 0)
    same_term c a true e = ap₂ f (sym (lies_on-same c a e).0) (sym (lies_on-same c a e).1)
    same_term c a false e = refl
