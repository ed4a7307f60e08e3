use Rattle.std.proofs.Common.{◌≤◌, length, arith, ap, sym, subst}
use Rattle.cable_definitions.specs.declared.site.CableType.{CableType}
use Rattle.cable_definitions.specs.declared.row.Mark.TheVariants.{Used}
use Rattle.cable_definitions.specs.Choice.{IsExtreme, AtMost}
use Rattle.arc_choices.specs.Least.{left_over, IsLeastOfTypesBelow}
use Rattle.arc_choices.proofs.LeastUses.{types_all, types_none, extreme_small, kept, below_read}
use Rattle.arc_choices.proofs.choices.least_used.Goals as goal

pub returns-in-Some : goal.returns-in-Some
returns-in-Some c =
    let s = c.args.site.now in
    let a = c.args.arc in
    let u = c.args.on_use in
    let w = c.args.on_load in
    let past : length s.types ≤ c.loop-grade.grade = omega (arith, c.loop-grade-test.false, ap (length {A = CableType}) c.types.ensures.value, c.types.ensures.valid.types_count) in
    let least = types_all s a u w c.loop-grade.grade c.in-Some.least past (subst (IsLeastOfTypesBelow s a u w c.loop-grade.grade) c.in-Some.is (below_read s a u w c.loop-grade.grade c.loop-grade.least c.ranges.on_use c.ranges.on_load c.loop-grade.invariant)) in
    let small = extreme_small s a Used u w c.in-Some.least c.points.ensures.valid c.requires.on_use c.requires.on_load least in
    subst (IsExtreme AtMost s a Used (left_over s a u w)) (sym (kept c.in-Some.least small)) least

pub returns-in-None : goal.returns-in-None
returns-in-None c =
    let s = c.args.site.now in
    let a = c.args.arc in
    let u = c.args.on_use in
    let w = c.args.on_load in
    let past : length s.types ≤ c.loop-grade.grade = omega (arith, c.loop-grade-test.false, ap (length {A = CableType}) c.types.ensures.value, c.types.ensures.valid.types_count) in
    absurd (types_none s a u w c.loop-grade.grade c.points.ensures.valid c.requires.arc.candidate past (subst (IsLeastOfTypesBelow s a u w c.loop-grade.grade) c.in-None.is (below_read s a u w c.loop-grade.grade c.loop-grade.least c.ranges.on_use c.ranges.on_load c.loop-grade.invariant)))
