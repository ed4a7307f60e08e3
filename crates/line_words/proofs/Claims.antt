-- Verdicts whose numbers are within or beyond their ranges.
use Rattle.std.proofs.Common.{◌≡◌, ℕ, ℤ, pos, List, [], ◌∷◌, Some, refl, ap, subst, All}
use Rattle.cable_definitions.specs.declared.claim.Cause.TheVariants.{Limit}
use Rattle.cable_definitions.specs.Items.{Field, IsWithin, within}
use Rattle.cable_definitions.specs.Refusal.{RawClaim, AnOptimal, AGap, AnOpen, claim_spelling, claim_fields, ClaimLine, AtCables}
use Rattle.line_words.specs.declared.number.Number.{Number}
use Rattle.line_words.specs.Numbers.{Is}
use Rattle.line_words.specs.Judged.{IsStanding, IsGoodLine, IsBad}
use Rattle.line_words.proofs.Standing.{bad_one, bad_second}

pub bad_optimal : (n : Number) → ((z : ℤ) → Is n z → ¬ (IsWithin (within (Some z) (pos 0) (pos 9223372036854775807)))) → (raw : RawClaim) → (z : ℤ) × (raw ≡ AnOptimal z) × Is n z → ¬ (All IsWithin (claim_fields raw))
bad_optimal n none raw h all =
    let P : List Field → Type 0 = All IsWithin in
    bad_one (within (Some h.0) (pos 0) (pos 9223372036854775807)) [] (none h.0 h.2) (subst P (ap claim_fields h.1) all)

pub bad_gap_first : (m n : Number) → ((z : ℤ) → Is m z → ¬ (IsWithin (within (Some z) (pos 0) (pos 9223372036854775807)))) → (raw : RawClaim) → (y z : ℤ) × (raw ≡ AGap y z) × Is m y × Is n z → ¬ (All IsWithin (claim_fields raw))
bad_gap_first m n none raw h all =
    let P : List Field → Type 0 = All IsWithin in
    bad_one (within (Some h.0) (pos 0) (pos 9223372036854775807)) (within (Some h.1) (pos 0) (pos 9223372036854775807) ∷ []) (none h.0 h.3) (subst P (ap claim_fields h.2) all)

pub bad_gap_second : (m n : Number) → ((z : ℤ) → Is n z → ¬ (IsWithin (within (Some z) (pos 0) (pos 9223372036854775807)))) → (raw : RawClaim) → (y z : ℤ) × (raw ≡ AGap y z) × Is m y × Is n z → ¬ (All IsWithin (claim_fields raw))
bad_gap_second m n none raw h all =
    let P : List Field → Type 0 = All IsWithin in
    bad_second (within (Some h.0) (pos 0) (pos 9223372036854775807)) (within (Some h.1) (pos 0) (pos 9223372036854775807)) [] (none h.1 h.4) (subst P (ap claim_fields h.2) all)

pub bad_open : (n : Number) (name : List ℕ) → ((z : ℤ) → Is n z → ¬ (IsWithin (within (Some z) (pos 0) (pos 9223372036854775807)))) → (raw : RawClaim) → (z : ℤ) × (raw ≡ AnOpen z name) × Is n z → ¬ (All IsWithin (claim_fields raw))
bad_open n name none raw h all =
    let P : List Field → Type 0 = All IsWithin in
    bad_one (within (Some h.0) (pos 0) (pos 9223372036854775807)) [] (none h.0 h.2) (subst P (ap claim_fields h.1) all)

pub claim_standing : (ws : List (List ℕ)) (raw : RawClaim) → ws ≡ claim_spelling raw → IsStanding (AtCables 0) ws (ClaimLine raw)
claim_standing ws raw e = record { words_are = e; members = tt; allowed = refl }

pub claim_good : (ws : List (List ℕ)) (raw other : RawClaim) → ws ≡ claim_spelling raw → raw ≡ other → All IsWithin (claim_fields raw) → IsGoodLine (AtCables 0) ws (ClaimLine other)
claim_good ws raw other e same h =
    let P : RawClaim → Type 0 = λ r. IsGoodLine (AtCables 0) ws (ClaimLine r) in
    subst P same (record { standing = claim_standing ws raw e; limits = (h, tt) })

pub bad_claim_line : (ws : List (List ℕ)) (raw : RawClaim) → ws ≡ claim_spelling raw → ¬ (All IsWithin (claim_fields raw)) → IsBad (AtCables 0) ws Limit
bad_claim_line ws raw e none = (ClaimLine raw, claim_standing ws raw e, λ w. none w.0)
