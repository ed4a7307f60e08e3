-- Rows in the box of a node whose arcs are all decided: a row that can be met holds of the used cables.
use Rattle.std.proofs.Common.{◌≡◌, ℕ, suc, ◌+◌, ◌≤◌, inl, inr, ℤ, pos, ◌+ℤ◌, ◌*ℤ◌, ◌≤ℤ◌, ◌<ℤ◌, List, [], ◌∷◌, slice_get, Some, refl, ap, sym, ◌∙◌, arith}
use Rattle.std.specs.Prelude.{IsTrue}
use Rattle.std.proofs.lemmas.Int.{ints, by_lt_z}
use Rattle.cable_definitions.specs.declared.cable.Cable.{Cable}
use Rattle.cable_definitions.specs.declared.cable.Arc.{Arc}
use Rattle.cable_definitions.specs.declared.row.Mark.{Mark}
use Rattle.cable_definitions.specs.declared.row.Mark.TheVariants.{Free, Used, Unused}
use Rattle.cable_definitions.specs.declared.site.Kind.{Kind}
use Rattle.cable_definitions.specs.declared.site.Kind.TheVariants.{Turbine, Substation, Bend}
use Rattle.cable_definitions.specs.Site.{Site, IsValid}
use Rattle.cable_definitions.specs.Arcs.{AreArcs, IsCandidate, kind_of, kind_from, power_of_kind, largest_capacity}
use Rattle.cable_definitions.specs.Row.{Row, on_use, on_load, right, is_equation, Relates}
use Rattle.cable_definitions.specs.Choice.{Choice, NoCable, Carries, least_load, IsChoice, IsExtreme, AtMost, AtLeast, AreExtremes}
use Rattle.cable_definitions.specs.Tree.{used_cables, counted, CannotMeet}
use Rattle.number_laws.proofs.Ring.{var, nat, plus, times, same_value}
use Rattle.number_laws.proofs.Sums.{sum_int, sum_int-cons}
use Rattle.layout_laws.proofs.Typing.{all-at, some_bears}
use Rattle.proof_laws.specs.Decided.{AreDecided}
use Rattle.proof_laws.proofs.Points.{largest_capacity-some}

-- a candidate arc can be used
pub arc_choice : (s : Site) → IsValid s → (a : Arc) → IsCandidate s a.from a.to → (grade load : ℕ) × IsChoice s a Used (Carries grade load)
arc_choice s v a candidate =
    let some = largest_capacity-some s v in
    let kind : kind_of s a.from ≡ candidate.from.kind = ap kind_from candidate.from_is in
    let least : least_load (kind_of s a.from) ≤ largest_capacity s = rw kind (by_kind candidate.from.kind candidate.bearable some) in
    let t = some_bears s (least_load (kind_of s a.from)) v.some_types least in
    (t.0, least_load (kind_of s a.from), ((λ e. cc), t.1.listed, omega arith, t.1.enough))
  where
    by_kind : (k : Kind) → power_of_kind k ≤ largest_capacity s → 1 ≤ largest_capacity s → least_load k ≤ largest_capacity s
    by_kind (Turbine power) h g = h
    by_kind (Substation feeders power) h g = g
    by_kind Bend h g = g

-- the extremes of what a row counts that doesn't mind loads are what it counts the used cables as
pub decided_extremes : (Order : ℤ → ℤ → Type 0) → ((y z : ℤ) → y ≡ z → Order y z) → (s : Site) (row : Row) (on_cable : ℕ → ℕ → ℤ)
    → ((a p q : ℕ) → on_use row.kind row.members a p q ≡ on_cable p q) → ((p q : ℕ) → on_load row.kind row.members p q ≡ pos 0)
    → (n : ℕ) (arcs : List Arc) (marks : List Mark) → AreDecided arcs marks → ((k : ℕ) (a : Arc) → slice_get arcs k ≡ Some a → (grade load : ℕ) × IsChoice s a Used (Carries grade load))
    → (extremes : List ℤ) × AreExtremes Order s (counted row) n arcs marks extremes
    × (sum_int (λ z. z) extremes ≡ sum_int (λ (c : Cable). on_cable c.from c.to) (used_cables arcs marks))
decided_extremes Order same s row on_cable e f n [] [] d choice = ([], tt, refl)
decided_extremes Order same s row on_cable e f n [] (m ∷ marks) d choice = absurd (let h = d.as_many in omega (arith, h))
decided_extremes Order same s row on_cable e f n (a ∷ arcs) [] d choice = absurd (let h = d.as_many in omega (arith, h))
decided_extremes Order same s row on_cable e f n (a ∷ arcs) (Free ∷ marks) d choice = absurd (d.none_free 0 Free refl refl)
decided_extremes Order same s row on_cable e f n (a ∷ arcs) (Used ∷ marks) d choice =
    let c = choice 0 a refl in
    let r = decided_extremes Order same s row on_cable e f (n + 1) arcs marks (rest d) (λ k. choice (suc k)) in
    let own : Cable = record { from = a.from; to = a.to; grade = 0 } in
    let z : ℤ = on_cable a.from a.to in
    let here : IsExtreme Order s a Used (counted row n a) z = record { choice = Carries c.0 c.1; is_choice = c.2; reached = sym (value c.1); none_beyond = beyond } in (
      z ∷ r.0,
      (here, r.1),
      (
          let x = sum_int-cons (λ (y : ℤ). y) z r.0 in
          let y = sum_int-cons (λ (c : Cable). on_cable c.from c.to) own (used_cables arcs marks) in
          let w = r.2 in
          omega (arith, ints, x, y, w)),
    )
  where
    rest : AreDecided (a ∷ arcs) (Used ∷ marks) → AreDecided arcs marks
    rest d = record { as_many = (let h = d.as_many in omega (arith, h)); none_free = λ k. d.none_free (suc k) }

    value : (l : ℕ) → (on_use row.kind row.members n a.from a.to *ℤ pos 1 +ℤ on_load row.kind row.members a.from a.to *ℤ pos l) ≡ on_cable a.from a.to
    value l =
        ap (λ (u : ℤ). u *ℤ pos 1 +ℤ on_load row.kind row.members a.from a.to *ℤ pos l) (e n a.from a.to)
        ∙ ap (λ (v : ℤ). on_cable a.from a.to *ℤ pos 1 +ℤ v *ℤ pos l) (f a.from a.to)
        ∙ same_value (plus (times (var (on_cable a.from a.to)) (nat 1)) (times (nat 0) (nat l))) (var (on_cable a.from a.to)) (omega arith)

    beyond : (other : Choice) → IsChoice s a Used other → Order (on_cable a.from a.to) (counted row n a other)
    beyond NoCable h = absurd (h refl)
    beyond (Carries grade l) h = same (on_cable a.from a.to) (counted row n a (Carries grade l)) (sym (value l))
decided_extremes Order same s row on_cable e f n (a ∷ arcs) (Unused ∷ marks) d choice =
    let r = decided_extremes Order same s row on_cable e f (n + 1) arcs marks (rest d) (λ k. choice (suc k)) in
    let here : IsExtreme Order s a Unused (counted row n a) (pos 0) = record { choice = NoCable; is_choice = (λ h. cc); reached = sym value; none_beyond = beyond } in (
      pos 0 ∷ r.0,
      (here, r.1),
      (
          let x = sum_int-cons (λ (y : ℤ). y) (pos 0) r.0 in
          let w = r.2 in
          omega (arith, ints, x, w)),
    )
  where
    rest : AreDecided (a ∷ arcs) (Unused ∷ marks) → AreDecided arcs marks
    rest d = record { as_many = (let h = d.as_many in omega (arith, h)); none_free = λ k. d.none_free (suc k) }

    value : (on_use row.kind row.members n a.from a.to *ℤ pos 0 +ℤ on_load row.kind row.members a.from a.to *ℤ pos 0) ≡ pos 0
    value = same_value (plus (times (var (on_use row.kind row.members n a.from a.to)) (nat 0)) (times (var (on_load row.kind row.members a.from a.to)) (nat 0))) (nat 0) (omega arith)

    beyond : (other : Choice) → IsChoice s a Unused other → Order (pos 0) (counted row n a other)
    beyond NoCable h = same (pos 0) (counted row n a NoCable) (sym value)
    beyond (Carries grade l) h = absurd (h.0 refl)

-- a row that can be met there holds of what it counts the used cables as
pub decided_row : (s : Site) (arcs : List Arc) (marks : List Mark) (row : Row) (on_cable : ℕ → ℕ → ℤ) → IsValid s → AreArcs s arcs → AreDecided arcs marks
    → ((a p q : ℕ) → on_use row.kind row.members a p q ≡ on_cable p q) → ((p q : ℕ) → on_load row.kind row.members p q ≡ pos 0)
    → ¬ (CannotMeet s arcs marks row) → Relates row.kind (sum_int (λ (c : Cable). on_cable c.from c.to) (used_cables arcs marks)) (right s row.kind row.members)
decided_row s arcs marks row on_cable v are d e f can =
    let total : ℤ = sum_int (λ (c : Cable). on_cable c.from c.to) (used_cables arcs marks) in
    let limit : ℤ = right s row.kind row.members in
    let most = decided_extremes AtLeast (λ y z h. omega (arith, ints)) s row on_cable e f 0 arcs marks d choice in
    let least = decided_extremes AtMost (λ y z h. omega (arith, ints)) s row on_cable e f 0 arcs marks d choice in
    let enough : ¬ (total <ℤ limit) = λ h. can (inl (total, record { extremes = most.0; are_extremes = most.1; sum = sym most.2 }, h)) in
    let few : IsTrue (is_equation row.kind) → ¬ (limit <ℤ total) = λ t h. can (inr (t, (total, record { extremes = least.0; are_extremes = least.1; sum = sym least.2 }, h))) in
    (at_least total limit enough, λ t. exactly total limit enough (few t))
  where
    choice : (k : ℕ) (a : Arc) → slice_get arcs k ≡ Some a → (grade load : ℕ) × IsChoice s a Used (Carries grade load)
    choice k a h = arc_choice s v a (all-at (λ (a : Arc). IsCandidate s a.from a.to) arcs k a are.candidates h)

    at_least : (y z : ℤ) → ¬ (y <ℤ z) → z ≤ℤ y
    at_least y z n = by_lt_z y z (λ lt. absurd (n lt)) (λ ge. ge)

    exactly : (y z : ℤ) → ¬ (y <ℤ z) → ¬ (z <ℤ y) → y ≡ z
    exactly y z n m = let a = at_least y z n in let b = at_least z y m in omega (arith, ints, a, b)
