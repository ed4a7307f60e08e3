-- How commands are spelled: worked examples.
use Rattle.std.proofs.Common.{[], ◌∷◌, inl, inr, refl, arith}
use Rattle.std.specs.Prelude.{codes}
use Rattle.std.specs.Fmt.{digits}
use Rattle.cable_definitions.specs.declared.command.Command.TheVariants.{Plan, Drill}
use Rattle.cable_definitions.specs.Command.{Spells}

pub plan_in_one_lane : Spells (codes "plan" ∷ codes "5" ∷ []) (Plan 5 1)
unfolding digits
plan_in_one_lane = ((omega arith, omega arith), (omega arith, omega arith), inl (refl, refl))

pub plan_in_lanes : Spells (codes "plan" ∷ codes "1023" ∷ codes "4" ∷ []) (Plan 1023 4)
unfolding digits
plan_in_lanes = ((omega arith, omega arith), (omega arith, omega arith), inr refl)

pub drill_in_words : Spells (codes "drill" ∷ codes "7" ∷ codes "30" ∷ codes "100" ∷ []) (Drill 7 30 100)
unfolding digits
drill_in_words = (omega arith, omega arith, omega arith, (omega arith, omega arith), refl)
