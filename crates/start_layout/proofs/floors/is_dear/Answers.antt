use Rattle.std.proofs.Common.{ℕ, ◌≤◌, ◌+◌, List, length, arith, subst}
use Rattle.std.proofs.lemmas.Bool.{leb-true}
use Rattle.cable_definitions.specs.declared.cable.Cable.{Cable}
use Rattle.cable_definitions.specs.Walk.{load}
use Rattle.start_layout.specs.Floors.{without, AreLeasts, AreOthersAbove}
use Rattle.start_layout.proofs.Cutting.{none_where_dear_others}
use Rattle.start_layout.proofs.floors.is_dear.Goals as goal

pub returns-then-saturating_add-bound : goal.returns-then-saturating_add-bound
returns-then-saturating_add-bound c = λ yes.
    let s = c.args.site.now in
    let cables = c.args.cables.now in
    let floor = c.args.floor.now in
    let arc = c.args.arc in
    let low : floor.load ≤ load s (without arc.from cables) arc.from =
    subst (λ (x : ℕ). floor.load ≤ load s (without x cables) x) c.requires.start c.requires.floor.load_below in
    let above : AreOthersAbove s cables arc.from arc.to (length cables) floor.others =
    subst (λ (x : ℕ). AreOthersAbove s cables x arc.to (length cables) floor.others) c.requires.start (c.requires.floor.others_above arc.to) in
    let reached : c.args.bound ≤ floor.others + c.least_cost-price.result = omega (arith, c.saturating_add.ensures, c.if-saturating_add-bound.true) in
    none_where_dear_others s cables arc floor.others c.least_cost-price.result floor.load c.args.bound above low c.least_cost-price.ensures reached

pub returns : goal.returns
returns c = λ yes.
    let s = c.args.site.now in
    let cables = c.args.cables.now in
    let floor = c.args.floor.now in
    let arc = c.args.arc in
    let others = c.others_cost-others.result in
    let leasts = c.leasts_on_way-leasts.result in
    let low : floor.load ≤ load s (without arc.from cables) arc.from =
    subst (λ (x : ℕ). floor.load ≤ load s (without x cables) x) c.requires.start c.requires.floor.load_below in
    let each = subst (λ (xs : List Cable). (q : ℕ) → AreLeasts s xs arc.from q leasts → AreOthersAbove s xs arc.from q (length xs) others) c.cables.ensures c.others_cost-others.ensures in
    let above : AreOthersAbove s cables arc.from arc.to (length cables) others = each arc.to c.leasts_on_way-leasts.ensures in
    let reached : c.args.bound ≤ others + c.least_cost-price.result = omega (arith, c.saturating_add-2.ensures, leb-true c.args.bound c.saturating_add-2.result yes) in
    none_where_dear_others s cables arc others c.least_cost-price.result floor.load c.args.bound above low c.least_cost-price.ensures reached
