use Rattle.std.proofs.Common.{arith, ap, sym, length, ◌∙◌, below_more}
use Rattle.std.proofs.lemmas.Bool.{iff_false}
use Rattle.cable_definitions.specs.Layout.{KeepsClear}
use Rattle.layout_meaning.proofs.Places.{at_each_place}
use Rattle.layout_meaning.proofs.Starting.{none_since, numbers_out, out_past, clear_here, clear_broken, clear_second_none}
use Rattle.layout_meaning.proofs.clashes.first_clash_with.Goals as goal
use Rattle.layout_meaning.proofs.clashes.first_clash_with.Goals.{in-Some+else-pairs_clash, in_default}

pub pairs_clash-requires-clause-third : goal.pairs_clash-requires-clause-third
pairs_clash-requires-clause-third c = (numbers_out c.args.site.now c.args.cables.now c.loop-b.b c.in-Some.second c.requires.range (sym c.cable_out.ensures ∙ c.in-Some.is)).from

pub pairs_clash-requires-clause-fourth : goal.pairs_clash-requires-clause-fourth
pairs_clash-requires-clause-fourth c = (numbers_out c.args.site.now c.args.cables.now c.loop-b.b c.in-Some.second c.requires.range (sym c.cable_out.ensures ∙ c.in-Some.is)).to

pub returns-then-pairs_clash-clause-first : goal.returns-then-pairs_clash-clause-first
returns-then-pairs_clash-clause-first c = record {
  broken = clear_broken c.args.site.now c.args.cables.now c.args.first.from c.loop-b.b c.args.first c.in-Some.second c.requires.out (sym c.cable_out.ensures ∙ c.in-Some.is) (omega arith) (c.pairs_clash.ensures.0 c.if-pairs_clash.true);
  earlier = c.loop-b.invariant;
}

pub loop-b-preserved : goal.loop-b-preserved
loop-b-preserved c = below_more _ _ c.loop-b.invariant (elim c.match-cable_out.branch [
  | in-Some+else-pairs_clash w ↦ clear_here c.args.site.now c.args.cables.now c.args.first.from c.loop-b.b c.args.first w.in-Some.second c.requires.start c.requires.out (sym c.cable_out.ensures ∙ w.in-Some.is) (iff_false w.pairs_clash.ensures w.if-pairs_clash.false)
  | in_default w ↦ clear_second_none c.args.site.now c.args.cables.now c.args.first.from c.loop-b.b (sym c.cable_out.ensures ∙ none_since c.cable_out.result w.in_default.not-Some)
])

pub returns-clause-none : goal.returns-clause-none
returns-clause-none c =
    let e = ap length c.points-count.ensures.value in
    at_each_place (KeepsClear c.args.site.now c.args.cables.now c.args.first.from) c.loop-b.b c.loop-b.invariant
    (λ b h. clear_second_none c.args.site.now c.args.cables.now c.args.first.from b (out_past c.args.site.now c.args.cables.now b c.requires.range (omega (arith, e))))
