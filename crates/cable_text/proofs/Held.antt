-- What sources and sinks in memory do to their bytes.
use Rattle.std.proofs.Common.{◌≡◌, ℕ, ◌-◌, ◌^◌, ◌≤◌, inl, inr, List, [], ◌++◌, length, take, drop, Some, Err, refl, sym, ◌∙◌, ap, arith}
use Rattle.std.proofs.lemmas.List.{append-nil, take-append-drop, take_at, length-take-le}
use Rattle.cable_definitions.specs.Stream.{Rose, Writes}
use Rattle.cable_text.specs.Memory.{SinkState, TakesPart, next_count}

-- a count that goes one higher rose
Rose-next : (n : ℕ) → Rose n (next_count n)
Rose-next n = grind arith

-- a first part of the bytes was taken
pub Writes-part_taken : {A E : Type 0} (e : E) (old new : SinkState) (bytes : List ℕ) → old.failed ≤ 2 ^ 64 - 1 → TakesPart old new bytes → Writes {A = A} {E = E} (Err e) (record { bytes = Some old.taken; faults = old.failed }) (record { bytes = Some new.taken; faults = new.failed }) bytes
Writes-part_taken e old new bytes small (inl p) =
    let f : new.failed ≡ next_count old.failed = ap (λ s. s.failed) p.1 in
    let t : new.taken ≡ old.taken = ap (λ s. s.taken) p.1 in
    record {
      ok = tt;
      failed = rw f (Rose-next old.failed);
      part = ([], bytes, refl, ap Some (t ∙ sym (append-nil old.taken)));
      count = omega arith;
    }
Writes-part_taken e old new bytes small (inr p) =
    let f : new.failed ≡ next_count old.failed = ap (λ s. s.failed) p.2 in
    let k = old.room - length old.taken in
    record {
      ok = tt;
      failed = rw f (Rose-next old.failed);
      part = (take k bytes, drop k bytes, sym (take-append-drop k bytes), ap (λ s. Some (s.taken)) p.2);
      count = omega arith;
    }

-- a piece was put at the front of a buffer
pub piece_given : (left piece buffer : List ℕ) (n : ℕ) → piece ≡ take n left → n ≤ length left → left ≡ take n (piece ++ drop n buffer) ++ drop n left
piece_given left piece buffer n e h =
    let size : length piece ≡ n = ap length e ∙ length-take-le n left h in
    rw (take_at piece (drop n buffer) n size, e) (sym (take-append-drop n left))
