use Rattle.std.proofs.Common.{◌≡◌, ℕ, List, Option, sym, subst, arith}
use Rattle.std.specs.Prelude.{IfNone}
use Rattle.cable_definitions.specs.declared.cable.Cable.{Cable}
use Rattle.cable_definitions.specs.Layout.{cost}
use Rattle.cable_definitions.specs.Part.{AreCheapTyped}
use Rattle.start_layout.specs.Moves.{with_end, MakesNoneBelow}
use Rattle.start_layout.proofs.Moving.{not_legal, none_where_illegal, none_where_dear, made_legal}
use Rattle.start_layout.proofs.settling.cost_below.Goals as goal

pub returns-then-is_dear-clause-none : goal.returns-then-is_dear-clause-none
returns-then-is_dear-clause-none c = c.is_dear.ensures c.if-is_dear.true

pub returns-in_err-cost-clause-none : goal.returns-in_err-cost-clause-none
returns-in_err-cost-clause-none c =
    let s = c.args.site.now in
    let arc = c.args.arc in
    let tried = c.with_end.new.into in
    let typed = subst (λ (xs : List Cable). AreCheapTyped s (with_end xs arc.from arc.to) tried) c.cables.ensures c.with_end.ensures.typed in
    let illegal = c.in_err-cost.ensures.none in
    subst (λ (o : Option ℕ). IfNone o (MakesNoneBelow s c.args.cables.now c.args.bound arc)) (sym c.from_residual.ensures)
    (none_where_illegal s c.args.cables.now tried c.args.bound arc typed illegal)

pub returns-then-cost-bound-clause-none : goal.returns-then-cost-bound-clause-none
returns-then-cost-bound-clause-none c =
    let s = c.args.site.now in
    let arc = c.args.arc in
    let tried = c.with_end.new.into in
    let typed = subst (λ (xs : List Cable). AreCheapTyped s (with_end xs arc.from arc.to) tried) c.cables.ensures c.with_end.ensures.typed in
    let e : c.in_ok-cost.cost ≡ cost s tried = c.in_ok-cost.ensures.cost in
    none_where_dear s c.args.cables.now tried c.args.bound arc typed (omega (arith, e))

pub returns-in-Broken-clause-none : goal.returns-in-Broken-clause-none
returns-in-Broken-clause-none c =
    let s = c.args.site.now in
    let arc = c.args.arc in
    let tried = c.with_end.new.into in
    let typed = subst (λ (xs : List Cable). AreCheapTyped s (with_end xs arc.from arc.to) tried) c.cables.ensures c.with_end.ensures.typed in
    none_where_illegal s c.args.cables.now tried c.args.bound arc typed (not_legal s tried c.in-Broken.rule c.in-Broken.a c.in-Broken.b c.in-Broken.ensures)

pub returns-in-Legal-clause-some : goal.returns-in-Legal-clause-some
returns-in-Legal-clause-some c =
    let s = c.args.site.now in
    let arc = c.args.arc in
    let tried = c.with_end.new.into in
    let typed = subst (λ (xs : List Cable). AreCheapTyped s (with_end xs arc.from arc.to) tried) c.cables.ensures c.with_end.ensures.typed in
    let judged = c.in-Legal.ensures in
    made_legal s c.args.cables.now tried c.in_ok-cost.cost arc typed (judged.0, c.in_ok-cost.ensures.cost)
