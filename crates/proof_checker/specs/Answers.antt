-- What a document says, as it is answered.
use Rattle.cable_definitions.specs.Tree.{ProofState, IsLeastBound, AllDead}
use Rattle.proof_checker.specs.declared.claims.Bound.{Bound}
use Rattle.proof_checker.specs.declared.claims.Bound.TheVariants.{Least, NoLayout}

-- this is the least bound over the leaves that aren't dead, or all leaves are dead
abbrev pub IsClosingBound : ProofState → Bound → Type 0
IsClosingBound kept (Least bound) = IsLeastBound kept bound
IsClosingBound kept NoLayout = AllDead kept
