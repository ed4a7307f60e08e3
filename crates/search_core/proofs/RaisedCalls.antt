-- How often a maker is called while weights are raised.
use Rattle.std.proofs.Common.{◌≡◌, ℕ, zero, suc, ◌+◌, ◌<◌, ◌≤◌, ◌⊎◌, inl, inr, ◌^◌, List, length, true, false, Some, Option, Ok, refl, sym, ◌∙◌, ap, subst, arith}
use Rattle.std.specs.Prelude.{sum_by, IfSome}
use Rattle.std.specs.declared.alloc.AllocError.{AllocError}
use Rattle.cable_definitions.specs.Row.{Row}
use Rattle.cable_rows.specs.declared.row.Row.{Row as MadeRow}
use Rattle.stored_makers.specs.Makers.{Maker, one_more, made_after}
use Rattle.search_core.specs.Calls.{more, IsNearlyFull, IsOneCall, AreCalls, IsCalled}

-- below the limit, so many more are so many more
pub more-small : (n k : ℕ) → n + k < 2 ^ 64 → more n k ≡ n + k
more-small n zero l = omega arith
more-small n (suc k) l = (let e = more-small n k (omega arith) in omega (arith, e, l))

-- a call that answered a row made one
pub made-there : (m made : ℕ) (answer : Option MadeRow) (row : MadeRow) → answer ≡ Some row → m ≡ made_after {T = MadeRow} {E = AllocError} made (Ok answer) → m ≡ one_more made
made-there m made answer row e h = h ∙ ap (λ (a : Option MadeRow). made_after {T = MadeRow} {E = AllocError} made (Ok a)) e

-- rows to which one can't be added are nearly full
pub nearly-full : (old new : List Row) (members : List ℕ) → new ≡ old → ((length old < 16384) × (sum_by (λ (r : Row). length r.members) old + length members ≤ 1048576) → false ≡ true)
    → length members ≤ 256 → IsNearlyFull new
nearly-full old new members e no_room few = subst IsNearlyFull (sym e) (elim (either (length old) 16384) [
  | inl less ↦ inr (by_members less (either_sum (sum_by (λ (r : Row). length r.members) old + length members) 1048576))
  | inr more_rows ↦ inl more_rows
])
  where
    either : (x y : ℕ) → (x < y) ⊎ (y ≤ x)
    either x y = grind arith

    either_sum : (x y : ℕ) → (x ≤ y) ⊎ (y < x)
    either_sum x y = grind arith

    by_members : length old < 16384
        → (sum_by (λ (r : Row). length r.members) old + length members ≤ 1048576) ⊎ (1048576 < sum_by (λ (r : Row). length r.members) old + length members)
        → 1048576 < sum_by (λ (r : Row). length r.members) old + 256
    by_members less (inl fits) = absurd (let f = no_room (less, fits) in cc)
    by_members less (inr above) = omega (arith, above, few)

-- one call more, whose row was listed
pub calls-then : {F : Type 0} → (first mid last : Maker F) (before rows after : List Row) (k : ℕ) → AreCalls first mid before rows k → IsOneCall mid last rows after true → AreCalls first last before after (k + 1)
calls-then {F} first mid last before rows after k are one =
    let same : suc k ≡ k + 1 = omega arith in
    subst (AreCalls first last before after) same (record {
      calls = one.0 ∙ ap one_more are.calls;
      made = one.1 ∙ ap one_more are.made;
      listed = (let there = are.listed in let now = one.2 in omega (arith, there, now));
    })

-- one call more, whose row wasn't
pub called-last : {F : Type 0} → (first mid last : Maker F) (before rows after : List Row) (k : ℕ) → k < 4 → AreCalls first mid before rows k → IsOneCall mid last rows after false → after ≡ rows
    → IsCalled first last before after
called-last {F} first mid last before rows after k few are one same = by_row one.1
  where
    count : length after ≡ length before + k
    count = ap length same ∙ are.listed

    by_row : (last.made ≡ mid.made) ⊎ ((last.made ≡ one_more mid.made) × IsNearlyFull after) → IsCalled first last before after
    by_row (inl none) = record {
      calls = suc k;
      made = k;
      some = omega arith;
      most = omega (arith, few);
      answered = one.0 ∙ ap one_more are.calls;
      rows_made = none ∙ are.made;
      nearly_each = inr (omega arith);
      room = λ h. (inr (omega arith), omega (arith, count));
      full = λ h. omega (arith, count);
    }
    by_row (inr some) = record {
      calls = suc k;
      made = suc k;
      some = omega arith;
      most = omega (arith, few);
      answered = one.0 ∙ ap one_more are.calls;
      rows_made = some.0 ∙ ap one_more are.made;
      nearly_each = inl refl;
      room = λ h. absurd (h some.1);
      full = λ h. omega (arith, count);
    }

-- the same from fewer rows on
pub called-from : {F : Type 0} → (old new : Maker F) (first before after last : List Row) → length first ≤ length before → last ≡ after → IsCalled old new before after → IsCalled old new first last
called-from {F} old new first before after last fewer e called =
    subst (IsCalled old new first) (sym e) (record {
      calls = called.calls;
      made = called.made;
      some = called.some;
      most = called.most;
      answered = called.answered;
      rows_made = called.rows_made;
      nearly_each = called.nearly_each;
      room = λ h. (let there = called.room h in (there.0, (let count = there.1 in omega (arith, count, fewer))));
      full = λ h. (let count = called.full h in omega (arith, count, fewer));
    })

-- what is so of an answer is so of the row that it is
pub of_some : {X : Type 0} → (o : Option X) (x : X) (P : X → Type 0) → o ≡ Some x → IfSome o P → P x
of_some o x P e h = subst (λ y. IfSome y P) e h
