use Rattle.std.proofs.Common.{◌≡◌, ℤ, pos, List, length, get_or, take, to_z, of_z, rules, ap, arith}
use Rattle.std.specs.Int.{w128}
use Rattle.cable_definitions.specs.Row.{is_member}
use Rattle.cable_rows.proofs.Tables.{added_more, written_there, written_elsewhere}
use Rattle.cable_rows.proofs.sums.add.Goals.{then-member-lt256, else-member-lt256}
use Rattle.cable_rows.proofs.sums.add.Goals as goal

pub loop-member-preserved : goal.loop-member-preserved
loop-member-preserved c = λ p l.
    let members = c.args.members.now in
    let i = c.loop-member.member-index in
    let m = get_or members i 0 in
    let weight = to_z w128 (of_z w128 c.args.weight) in
    let long : length c.loop-member.table ≡ 256 = search rules in
    elim c.if-member-lt256.branch [
      | then-member-lt256 w ↦ added_more members i p c.args.table.now c.loop-member.table c.if-member-lt256.table weight c.requires.ascending c.loop-member-test.true (c.loop-member.invariant p l)
          (λ e. written_there c.loop-member.table c.if-member-lt256.table m p (get_or c.args.table.now m (pos 0)) c.args.weight (is_member (take i members) m) (omega (arith, w.if-member-lt256.true, long))
          (c.loop-member.invariant m w.if-member-lt256.true) (c.requires.small m w.if-member-lt256.true) c.requires.weight w.table-is e) (λ n. written_elsewhere c.loop-member.table c.if-member-lt256.table m p _ w.table-is n)
      | else-member-lt256 w ↦ added_more members i p c.args.table.now c.loop-member.table c.if-member-lt256.table weight c.requires.ascending c.loop-member-test.true (c.loop-member.invariant p l)
          (λ e. let b = w.if-member-lt256.false in absurd (omega (arith, b, e, l))) (λ n. ap (λ (t : List ℤ). get_or t p (pos 0)) w.table-is)
    ]
