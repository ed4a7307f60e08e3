-- Words that are none of the shapes of a line.
use Rattle.std.proofs.Common.{◌≡◌, ◌≢◌, ℕ, ℤ, List, [], ◌∷◌, codes, Bool, false}
use Rattle.std.specs.Prelude.{◌↔◌, IsTrue}
use Rattle.cable_definitions.specs.Numeral.{spelling}
use Rattle.cable_definitions.specs.Refusal.{RawAct, ASplit, AStop, AFull, ADeadRow, ADeadPair, ADeadLoad, ADeadLoop, ADeadPower, ADeadCeiling, act_spelling, RawClaim, AnOptimal, AGap, AnOpen, AnInfeasible, claim_spelling}

-- what a test that failed tells
pub not_so : {A : Type 0} {b : Bool} → (IsTrue b ↔ A) → b ≡ false → ¬ A
not_so h e a = let yes = h.1 a in cc

-- no act
pub no_act :
    (ws : List (List ℕ)) → ws ≢ codes "stop" ∷ [] → ws ≢ codes "full" ∷ [] → ws ≢ codes "dead" ∷ codes "ceiling" ∷ []
    → ((z : ℤ) → ws ≢ codes "split" ∷ spelling z ∷ []) → ((z : ℤ) → ws ≢ codes "dead" ∷ codes "row" ∷ spelling z ∷ [])
    → ((z : ℤ) → ws ≢ codes "dead" ∷ codes "load" ∷ spelling z ∷ []) → ((z : ℤ) → ws ≢ codes "dead" ∷ codes "loop" ∷ spelling z ∷ [])
    → ((z : ℤ) → ws ≢ codes "dead" ∷ codes "power" ∷ spelling z ∷ []) → ((y z : ℤ) → ws ≢ codes "dead" ∷ codes "pair" ∷ spelling y ∷ spelling z ∷ [])
    → (raw : RawAct) → ws ≢ act_spelling raw
no_act ws stop full ceiling split row load loop power pair (ASplit a) = split a
no_act ws stop full ceiling split row load loop power pair AStop = stop
no_act ws stop full ceiling split row load loop power pair AFull = full
no_act ws stop full ceiling split row load loop power pair (ADeadRow r) = row r
no_act ws stop full ceiling split row load loop power pair (ADeadPair a b) = pair a b
no_act ws stop full ceiling split row load loop power pair (ADeadLoad p) = load p
no_act ws stop full ceiling split row load loop power pair (ADeadLoop p) = loop p
no_act ws stop full ceiling split row load loop power pair (ADeadPower p) = power p
no_act ws stop full ceiling split row load loop power pair ADeadCeiling = ceiling

-- no verdict
pub no_claim :
    (ws : List (List ℕ)) → ws ≢ codes "infeasible" ∷ [] → ((z : ℤ) → ws ≢ codes "optimal" ∷ spelling z ∷ [])
    → ((y z : ℤ) → ws ≢ codes "gap" ∷ spelling y ∷ spelling z ∷ []) → ((z : ℤ) (name : List ℕ) → ws ≢ codes "open" ∷ spelling z ∷ codes "stuck" ∷ name ∷ [])
    → (raw : RawClaim) → ws ≢ claim_spelling raw
no_claim ws infeasible optimal gap open_claim (AnOptimal c) = optimal c
no_claim ws infeasible optimal gap open_claim (AGap c b) = gap c b
no_claim ws infeasible optimal gap open_claim (AnOpen b name) = open_claim b name
no_claim ws infeasible optimal gap open_claim AnInfeasible = infeasible
