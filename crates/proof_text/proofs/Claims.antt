-- Verdicts: their claims, and names that are no turbine's.
use Rattle.std.proofs.Common.{◌≡◌, ℕ, ◌<◌, ◌^◌, ℤ, pos, negsuc, List, [], ◌∷◌, Some, refl, sym, ◌∙◌, ap, subst, All, arith, codes}
use Rattle.std.specs.Prelude.{nat_abs}
use Rattle.std.specs.Fmt.{decimal}
use Rattle.std.proofs.lemmas.Int.{ints}
use Rattle.std.proofs.lemmas.List.Elements.{All-head, All-tail}
use Rattle.cable_definitions.specs.declared.claim.Cause.TheVariants.{Layout}
use Rattle.cable_definitions.specs.declared.claim.Claim.{Claim}
use Rattle.cable_definitions.specs.Site.{Site}
use Rattle.cable_definitions.specs.Text.{line, claim_line, name_of, Whole}
use Rattle.cable_definitions.specs.Numeral.{spelling as spelled}
use Rattle.cable_definitions.specs.Document.{IsClaimInRange}
use Rattle.cable_text.proofs.Numerals.{numeral-decimal}
use Rattle.cable_definitions.specs.Items.{Field, IsWithin, within}
use Rattle.cable_definitions.specs.Refusal.{RawClaim, AnOptimal, AGap, AnOpen, AnInfeasible, IsClaimOf, claim_spelling, claim_fields, sum_field, ClaimLine, Phase, AtCables, Reader, IsLineAt, IsFoundByReading, IsLeastCause}
use Rattle.line_words.specs.Words.{IsCut}
use Rattle.line_words.specs.Judged.{IsGoodLine}
use Rattle.proof_text.proofs.Causes.{line_of, first_layout}

-- ---- the claim of a verdict
-- the one number, the first of two, and the second
one_within : (z : ℤ) (fs : List Field) → All IsWithin (sum_field z ∷ fs) → IsWithin (sum_field z)
one_within z fs h = All-head IsWithin (sum_field z) fs h

second_within : (y z : ℤ) → All IsWithin (sum_field y ∷ sum_field z ∷ []) → IsWithin (sum_field z)
second_within y z h = one_within z [] (All-tail IsWithin (sum_field y) (sum_field z ∷ []) h)

-- a number within its range is spelled as it is written
pub spelled_small : (z : ℤ) (most : ℕ) → most < 10 ^ 64 → IsWithin (within (Some z) (pos 0) (pos most)) → decimal (nat_abs z) ≡ spelled z
spelled_small (pos n) most small h = let b = h (pos n) refl in sym (numeral-decimal n (omega (arith, ints, b.1, small)))
spelled_small (negsuc n) most small h = let b = h (negsuc n) refl in absurd (omega (arith, ints, b.0))

sum_spelled : (z : ℤ) → IsWithin (sum_field z) → decimal (nat_abs z) ≡ spelled z
sum_spelled z h = spelled_small z 9223372036854775807 (omega arith) h

small_sum : (z : ℤ) → IsWithin (sum_field z) → nat_abs z < 2 ^ 63
small_sum (pos n) h = let b = h (pos n) refl in omega (arith, ints, b.1)
small_sum (negsuc n) h = let b = h (negsuc n) refl in absurd (omega (arith, ints, b.0))

-- its words
pub claim_spelled : (s : Site) (raw : RawClaim) (claim : Claim) → IsClaimOf s raw claim → All IsWithin (claim_fields raw) → claim_line s claim ≡ line (claim_spelling raw)
claim_spelled s (AnOptimal c) claim e h = ap (claim_line s) e ∙ ap (λ w. line (codes "optimal" ∷ w ∷ [])) (sum_spelled c (one_within c [] h))
claim_spelled s (AGap c b) claim e h =
    ap (claim_line s) e
    ∙ ap (λ w. line (codes "gap" ∷ w ∷ decimal (nat_abs b) ∷ [])) (sum_spelled c (one_within c (sum_field b ∷ []) h))
    ∙ ap (λ w. line (codes "gap" ∷ spelled c ∷ w ∷ [])) (sum_spelled b (second_within c b h))
claim_spelled s (AnOpen b name) claim (p, turbine, named, e) h =
    ap (claim_line s) e
    ∙ ap (λ w. line (codes "open" ∷ w ∷ codes "stuck" ∷ name_of s p ∷ [])) (sum_spelled b (one_within b [] h))
    ∙ ap (λ w. line (codes "open" ∷ spelled b ∷ codes "stuck" ∷ w ∷ [])) named
claim_spelled s AnInfeasible claim e h = ap (claim_line s) e

-- its numbers are in range
pub claim_in_range : (s : Site) (raw : RawClaim) (claim : Claim) → IsClaimOf s raw claim → All IsWithin (claim_fields raw) → IsClaimInRange claim
claim_in_range s (AnOptimal c) claim e h = subst IsClaimInRange (sym e) (small_sum c (one_within c [] h))
claim_in_range s (AGap c b) claim e h = subst IsClaimInRange (sym e) (small_sum c (one_within c (sum_field b ∷ []) h), small_sum b (second_within c b h))
claim_in_range s (AnOpen b name) claim (p, turbine, named, e) h = subst IsClaimInRange (sym e) (small_sum b (one_within b [] h))
claim_in_range s AnInfeasible claim e h = subst IsClaimInRange (sym e) tt

-- ---- a verdict that names no turbine
pub no_turbine : (s : Site) (r : Reader) (text : List ℕ) (ws : List (List ℕ)) (raw : RawClaim) → r.phase ≡ AtCables 0 → IsCut text ws → IsGoodLine (AtCables 0) ws (ClaimLine raw) → ((claim : Claim) → ¬ (IsClaimOf s raw claim))
    → IsLeastCause (IsFoundByReading s r (Whole text)) Layout
no_turbine s r text ws raw e cut good none =
    let P : Phase → Type 0 = λ p. IsLineAt p text (ClaimLine raw) in
    first_layout s r text (ClaimLine raw) (subst P (sym e) (line_of (AtCables 0) text ws (ClaimLine raw) cut good.standing)) good.limits (λ named. none named.0 named.1)
