use Rattle.std.proofs.Common.{ℕ, arith, ap, sym, length, ◌∙◌, below_more}
use Rattle.cable_definitions.specs.Layout.{KeepsClear}
use Rattle.layout_meaning.proofs.Places.{at_each_place, out_start}
use Rattle.layout_meaning.proofs.Starting.{none_since, numbers_out, out_past, clear_none, clear_all_here, first_pair}
use Rattle.layout_meaning.proofs.clashes.first_clash.Goals as goal
use Rattle.layout_meaning.proofs.clashes.first_clash.Goals.{in-Some+in_default-first_clash_with, in_default}

pub first_clash_with-requires-clause-out : goal.first_clash_with-requires-clause-out
first_clash_with-requires-clause-out c = out_start c.args.cables.now c.loop-a.a c.in-Some.first (sym c.cable_out.ensures ∙ c.in-Some.is)

pub first_clash_with-requires-clause-numbers : goal.first_clash_with-requires-clause-numbers
first_clash_with-requires-clause-numbers c = numbers_out c.args.site.now c.args.cables.now c.loop-a.a c.in-Some.first c.requires.range (sym c.cable_out.ensures ∙ c.in-Some.is)

pub returns-in-Some-first_clash_with-clause-first : goal.returns-in-Some-first_clash_with-clause-first
returns-in-Some-first_clash_with-clause-first c = first_pair c.args.site.now c.args.cables.now c.loop-a.a c.in-Some-first_clash_with.b c.in-Some.first (sym c.cable_out.ensures ∙ c.in-Some.is) c.loop-a.invariant c.in-Some-first_clash_with.ensures.first

pub loop-a-preserved : goal.loop-a-preserved
loop-a-preserved c = λ a b. below_more _ _ (λ a h. c.loop-a.invariant a b h) (elim c.match-cable_out.branch [
  | in-Some+in_default-first_clash_with w ↦ clear_all_here c.args.site.now c.args.cables.now c.loop-a.a w.in-Some.first (sym c.cable_out.ensures ∙ w.in-Some.is) w.in_default-first_clash_with.ensures.none b
  | in_default w ↦ clear_none c.args.site.now c.args.cables.now c.loop-a.a b (sym c.cable_out.ensures ∙ none_since c.cable_out.result w.in_default.not-Some)
]) a

pub returns-clause-none : goal.returns-clause-none
returns-clause-none c =
    let e = ap length c.points-count.ensures.value in
    λ a b. at_each_place (λ (a : ℕ). KeepsClear c.args.site.now c.args.cables.now a b) c.loop-a.a (λ a. c.loop-a.invariant a b)
    (λ a h. clear_none c.args.site.now c.args.cables.now a b (out_past c.args.site.now c.args.cables.now a c.requires.range (omega (arith, e)))) a
