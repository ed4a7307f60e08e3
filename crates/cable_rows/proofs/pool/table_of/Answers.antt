use Rattle.std.proofs.Common.{◌∙◌, refl, get_or, arith, true}
use Rattle.std.proofs.lemmas.List.{length-set}
use Rattle.cable_rows.proofs.Wellformed.{no_members, member_told}
use Rattle.cable_rows.proofs.pool.table_of.Goals as goal

pub loop-member-init : goal.loop-member-init
loop-member-init c = record { size = refl; told = λ p. no_members 256 p }

pub loop-member-preserved : goal.loop-member-preserved
loop-member-preserved c =
    let has = c.loop-member.has in
    let members = c.args.members.now in
    let i = c.loop-member.member-index in
    let m = get_or members i 0 in
    let small = c.requires c.in_default.not-One i 0 c.loop-member-test.true in
    record {
      size = length-set has m true ∙ c.loop-member.invariant.size;
      told = member_told has members i m 0 c.loop-member-test.true refl (omega arith) c.loop-member.invariant.told;
    }
