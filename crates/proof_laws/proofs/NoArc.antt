-- A row that counts no arc as anything has 0 on its left side in each box, so it can't be met where its right side is above 0.
use Rattle.std.proofs.Common.{◌≡◌, ◌≢◌, ℕ, suc, ◌+◌, ◌*◌, ◌≤◌, inl, Bool, true, false, not, ℤ, pos, ◌+ℤ◌, ◌*ℤ◌, ◌<ℤ◌, List, [], ◌∷◌, length, slice_get, Some, sum_by, refl, ap, sym, ◌∙◌, arith, ne_eqb}
use Rattle.std.specs.Prelude.{◌&&◌}
use Rattle.std.proofs.lemmas.Int.{ints}
use Rattle.cable_definitions.specs.declared.cable.Arc.{Arc}
use Rattle.cable_definitions.specs.declared.row.Mark.{Mark}
use Rattle.cable_definitions.specs.declared.row.Mark.TheVariants.{Free, Used, Unused}
use Rattle.cable_definitions.specs.declared.row.RowKind.TheVariants.{Out, Cut}
use Rattle.cable_definitions.specs.Site.{Site, IsValid}
use Rattle.cable_definitions.specs.Arcs.{AreArcs, IsCandidate, power_of, largest_capacity}
use Rattle.cable_definitions.specs.Row.{Row, is_member, one_if, on_use, on_load, right, rounded_up}
use Rattle.cable_definitions.specs.Choice.{Choice, NoCable, Carries, IsChoice, AtLeast, IsExtreme, AreExtremes}
use Rattle.cable_definitions.specs.Tree.{counted, CannotMeet}
use Rattle.number_laws.proofs.Ring.{nat, plus, times, same_value}
use Rattle.number_laws.proofs.Sums.{sum_int, sum_int-cons}
use Rattle.number_laws.proofs.Ceiling.{ceiling-enough}
use Rattle.layout_laws.proofs.Typing.{all-at}
use Rattle.proof_laws.proofs.Points.{largest_capacity-some}
use Rattle.proof_laws.proofs.Decided.{arc_choice}

-- the row counts neither a use nor a unit of load of the arc
record CountsNothing (row : Row) (a : Arc) : Type 0 where
  uses : (n : ℕ) → on_use row.kind row.members n a.from a.to ≡ pos 0
  loads : on_load row.kind row.members a.from a.to ≡ pos 0

nothing : (row : Row) (a : Arc) → CountsNothing row a → (n : ℕ) (choice : Choice) → counted row n a choice ≡ pos 0
nothing row a c n choice = by_choice choice
  where
    zero_of : (u l : ℕ) → (on_use row.kind row.members n a.from a.to *ℤ pos u +ℤ on_load row.kind row.members a.from a.to *ℤ pos l) ≡ pos 0
    zero_of u l =
        ap (λ (z : ℤ). z *ℤ pos u +ℤ on_load row.kind row.members a.from a.to *ℤ pos l) (c.uses n)
        ∙ ap (λ (z : ℤ). pos 0 *ℤ pos u +ℤ z *ℤ pos l) c.loads
        ∙ same_value (plus (times (nat 0) (nat u)) (times (nat 0) (nat l))) (nat 0) (omega arith)

    by_choice : (choice : Choice) → counted row n a choice ≡ pos 0
    by_choice NoCable = zero_of 0 0
    by_choice (Carries grade l) = zero_of 1 l

-- some choice is left to each arc
some_choice : (s : Site) (a : Arc) (mark : Mark) → (grade load : ℕ) × IsChoice s a Used (Carries grade load) → (choice : Choice) × IsChoice s a mark choice
some_choice s a Free r = (NoCable, λ e. cc)
some_choice s a Used r = (Carries r.0 r.1, r.2)
some_choice s a Unused r = (NoCable, λ e. cc)

-- so the greatest sum is 0
nothing_extremes : (s : Site) (row : Row) (n : ℕ) (arcs : List Arc) (marks : List Mark) → length marks ≡ length arcs
    → ((k : ℕ) (a : Arc) → slice_get arcs k ≡ Some a → CountsNothing row a) → ((k : ℕ) (a : Arc) → slice_get arcs k ≡ Some a → (grade load : ℕ) × IsChoice s a Used (Carries grade load))
    → (extremes : List ℤ) × AreExtremes AtLeast s (counted row) n arcs marks extremes × (sum_int (λ z. z) extremes ≡ pos 0)
nothing_extremes s row n [] [] e c choice = ([], tt, refl)
nothing_extremes s row n [] (m ∷ marks) e c choice = absurd (omega arith)
nothing_extremes s row n (a ∷ arcs) [] e c choice = absurd (omega arith)
nothing_extremes s row n (a ∷ arcs) (m ∷ marks) e c choice =
    let r = nothing_extremes s row (n + 1) arcs marks (omega arith) (λ k. c (suc k)) (λ k. choice (suc k)) in
    let own = some_choice s a m (choice 0 a refl) in
    let here : IsExtreme AtLeast s a m (counted row n a) (pos 0) = record {
      choice = own.0;
      is_choice = own.1;
      reached = sym (nothing row a (c 0 a refl) n own.0);
      none_beyond = λ other h. let z = nothing row a (c 0 a refl) n other in omega (arith, ints, z);
    } in
    (pos 0 ∷ r.0, (here, r.1), (let x = sum_int-cons (λ (y : ℤ). y) (pos 0) r.0 in let w = r.2 in omega (arith, ints, x, w)))

-- and the row can't be met where its right side is above 0
cannot_meet : (s : Site) (arcs : List Arc) (marks : List Mark) (row : Row) → IsValid s → AreArcs s arcs → length marks ≡ length arcs
    → ((k : ℕ) (a : Arc) → slice_get arcs k ≡ Some a → CountsNothing row a) → pos 0 <ℤ right s row.kind row.members → CannotMeet s arcs marks row
cannot_meet s arcs marks row v are e c above =
    let r = nothing_extremes s row 0 arcs marks e c (λ k a h. arc_choice s v a (all-at (λ (a : Arc). IsCandidate s a.from a.to) arcs k a are.candidates h)) in
    inl (pos 0, record { extremes = r.0; are_extremes = r.1; sum = sym r.2 }, above)

-- the row of a turbine without arcs
pub out-without_arcs : (s : Site) (arcs : List Arc) (marks : List Mark) (p : ℕ) → IsValid s → AreArcs s arcs → length marks ≡ length arcs
    → ((k : ℕ) (a : Arc) → slice_get arcs k ≡ Some a → a.from ≢ p) → CannotMeet s arcs marks (record { kind = Out; members = p ∷ [] })
out-without_arcs s arcs marks p v are e none =
    cannot_meet s arcs marks (record { kind = Out; members = p ∷ [] }) v are e
    (λ k a h. record { uses = λ n. ap one_if (other a (none k a h)); loads = refl })
    (omega (arith, ints))
  where
    other : (a : Arc) → a.from ≢ p → is_member (p ∷ []) a.from ≡ false
    other a n = rw (ne_eqb p a.from (λ q. n (sym q))) refl

-- the row of a set that no arc leaves
pub cut-without_arcs : (s : Site) (arcs : List Arc) (marks : List Mark) (members : List ℕ) → IsValid s → AreArcs s arcs → length marks ≡ length arcs
    → 1 ≤ sum_by (power_of s) members → ((k : ℕ) (a : Arc) → slice_get arcs k ≡ Some a → is_member members a.from ≡ true → is_member members a.to ≡ true)
    → CannotMeet s arcs marks (record { kind = Cut; members = members })
cut-without_arcs s arcs marks members v are e some stays =
    cannot_meet s arcs marks (record { kind = Cut; members = members }) v are e
    (λ k a h. record { uses = λ n. ap one_if (inside (is_member members a.from) (is_member members a.to) (stays k a h)); loads = refl })
    (let up : 1 ≤ rounded_up (sum_by (power_of s) members) (largest_capacity s) = above (sum_by (power_of s) members) (largest_capacity s) (largest_capacity-some s v) some in omega (arith, ints, up))
  where
    inside : (b c : Bool) → (b ≡ true → c ≡ true) → (b && not c) ≡ false
    inside true true f = refl
    inside true false f = absurd (let q : false ≡ true = f refl in cc)
    inside false c f = refl

    positive : (n k q : ℕ) → 1 ≤ n → n ≤ k * q → 1 ≤ q
    positive n k q l h = grind arith

    above : (n k : ℕ) → 1 ≤ k → 1 ≤ n → 1 ≤ rounded_up n k
    above n k h l = positive n k (rounded_up n k) l (ceiling-enough n k h)
