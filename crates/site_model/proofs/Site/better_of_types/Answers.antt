use Rattle.std.proofs.Common.{◌+◌, subst, sym}
use Rattle.site_model.specs.Best.{IsBestBelow}
use Rattle.site_model.proofs.Cheapest.{bears_read, dearer, cheaper, first_bearing}
use Rattle.site_model.proofs.Site.better_of_types.Goals as goal

pub returns-in-Some : goal.returns-in-Some
returns-in-Some c =
    let s = c.args.self.now in
    let a = c.args in
    let h = subst (IsBestBelow s a.arc.from a.arc.to a.load a.grade) c.in-Some.is c.requires.best in
    subst (IsBestBelow s a.arc.from a.arc.to a.load (a.grade + 1)) (sym c.in-Some.is) (dearer s a.arc.from a.arc.to a.load a.grade c.cost_on-cost.result c.in-Some.field-0-0 c.in-Some.least c.cost_on-cost.ensures c.if-least-cost.true h)

pub returns-in_default : goal.returns-in_default
returns-in_default c =
    let s = c.args.self.now in
    let a = c.args in
    let h = subst (IsBestBelow s a.arc.from a.arc.to a.load a.grade) c.in-Some.is c.requires.best in
    let b = bears_read s c.types.result.now a.grade a.load (record { capacity = 0; price = 0; loss = 0 }) c.types.ensures.value c.requires.grade c.if-load-types.false in
    cheaper s a.arc.from a.arc.to a.load a.grade c.cost_on-cost.result c.in-Some.field-0-0 c.in-Some.least b c.cost_on-cost.ensures c.if-least-cost.false h

pub returns-in_default-2 : goal.returns-in_default-2
returns-in_default-2 c =
    let s = c.args.self.now in
    let a = c.args in
    let h = subst (IsBestBelow s a.arc.from a.arc.to a.load a.grade) c.in_default.is c.requires.best in
    let b = bears_read s c.types.result.now a.grade a.load (record { capacity = 0; price = 0; loss = 0 }) c.types.ensures.value c.requires.grade c.if-load-types.false in
    first_bearing s a.arc.from a.arc.to a.load a.grade c.cost_on-cost.result b c.cost_on-cost.ensures h
