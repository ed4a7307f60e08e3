-- Spaces.
use Rattle.std.proofs.Common.{◌≡◌, ℕ, ◌+◌, ◌-◌, ◌<◌, [], ◌∷◌, ◌++◌, replicate, sym, ap, ◌∙◌, append_assoc, arith}
use Rattle.std.proofs.lemmas.List.{replicate-append-replicate}

-- so many spaces are those before a place, and those from it on
pub spaces-at : (i count : ℕ) → i < count → replicate {A = ℕ} count 32 ≡ (replicate {A = ℕ} i 32 ++ 32 ∷ []) ++ replicate {A = ℕ} (count - (i + 1)) 32
spaces-at i count h =
    let n : i + (1 + (count - (i + 1))) ≡ count = omega arith in
    ap (λ (k : ℕ). replicate {A = ℕ} k 32) (sym n) ∙ sym (replicate-append-replicate {A = ℕ} i (1 + (count - (i + 1))) 32)
    ∙ ap (λ l. replicate {A = ℕ} i 32 ++ l) (sym (replicate-append-replicate {A = ℕ} 1 (count - (i + 1)) 32))
    ∙ sym (append_assoc (replicate {A = ℕ} i 32) (32 ∷ []) (replicate {A = ℕ} (count - (i + 1)) 32))
