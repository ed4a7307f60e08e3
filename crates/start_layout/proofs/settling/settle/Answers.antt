use Rattle.std.proofs.Common.{List, sym, ◌∙◌, subst}
use Rattle.cable_definitions.specs.declared.cable.Cable.{Cable}
use Rattle.cable_definitions.specs.Layout.{IsLegal}
use Rattle.cable_definitions.specs.Part.{AreCheapTyped}
use Rattle.start_layout.specs.Moves.{with_end, IsBestMove}
use Rattle.start_layout.proofs.Moving.{HasMoved, moved_on}
use Rattle.start_layout.proofs.settling.settle.Goals as goal

pub loop-arc-preserved : goal.loop-arc-preserved
loop-arc-preserved c =
    let s = c.args.site.now in
    let a = c.in-Some.arc in
    let best = subst (λ (xs : List Cable). IsBestMove s c.args.arcs.now xs a) (c.new.ensures ∙ c.cables.ensures.value) c.in-Some.ensures.best in
    let typed = subst (λ (xs : List Cable). AreCheapTyped s (with_end xs a.from a.to) c.with_end.new.into) c.cables-in-Some.ensures.value c.with_end.ensures.typed in
    let next = moved_on s c.args.arcs.now c.args.layout.now c.loop-arc.layout c.with_end.new.into a best typed c.loop-arc.invariant.moved in
    let same = sym (c.replace.ensures ∙ c.cables-in-Some-2.ensures.value) in
    record {
      legal = subst (IsLegal s) same next.0;
      cost_is = c.cost_of-cost-in-Some.ensures;
      moved = subst (HasMoved s c.args.layout.now) same next.1;
    }
