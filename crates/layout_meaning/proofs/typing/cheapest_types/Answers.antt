use Rattle.std.proofs.Common.{◌+◌, ℕ, length, take, get_or, arith, sym, ap, ◌∙◌, subst}
use Rattle.std.proofs.lemmas.List.{length_push}
use Rattle.cable_definitions.specs.declared.cable.Cable.{Cable}
use Rattle.cable_definitions.specs.Site.{Site}
use Rattle.layout_laws.specs.Cheapest.{IsCheapestOrZero}
use Rattle.layout_meaning.proofs.Flowing.{cable_there}
use Rattle.layout_meaning.proofs.Cheapest.{typed_more, cheap_typed, AreTyped}
use Rattle.layout_meaning.proofs.typing.cheapest_types.Goals as goal

-- what stands past the end of a list of cables
abbrev no_cable : Cable
no_cable = record { from = 0; to = 0; grade = 0 }

pub load-carried-requires : goal.load-carried-requires
load-carried-requires c =
    let at = cable_there c.args.flows.now.cables c.cables-cables.result.now c.loop-cable.cable-index no_cable c.cables-cables.ensures c.loop-cable-test.true in
    (c.requires.points c.loop-cable.cable-index _ at).0

pub cheapest_or_zero-requires-clause-from : goal.cheapest_or_zero-requires-clause-from
cheapest_or_zero-requires-clause-from c =
    let at = cable_there c.args.flows.now.cables c.cables-cables.result.now c.loop-cable.cable-index no_cable c.cables-cables.ensures c.loop-cable-test.true in
    rw c.site-site.ensures.value ((c.requires.points c.loop-cable.cable-index _ at).0)

pub cheapest_or_zero-requires-clause-to : goal.cheapest_or_zero-requires-clause-to
cheapest_or_zero-requires-clause-to c =
    let at = cable_there c.args.flows.now.cables c.cables-cables.result.now c.loop-cable.cable-index no_cable c.cables-cables.ensures c.loop-cable-test.true in
    rw c.site-site.ensures.value ((c.requires.points c.loop-cable.cable-index _ at).1)

pub loop-cable-preserved : goal.loop-cable-preserved
loop-cable-preserved c =
    let s = c.args.flows.now.site in
    let cables = c.args.flows.now.cables in
    let i = c.loop-cable.cable-index in
    let here : Cable = get_or c.cables-cables.result.now i no_cable in
    let at = cable_there cables c.cables-cables.result.now i no_cable c.cables-cables.ensures c.loop-cable-test.true in
    let grade = c.cheapest_or_zero.result in
    let best = subst (λ (t : Site). IsCheapestOrZero t here.from here.to c.load-carried.result grade) c.site-site.ensures.value c.cheapest_or_zero.ensures in
    record {
      count = ap length c.push.ensures ∙ length_push c.loop-cable.typed _ ∙ ap (λ n. n + 1) c.loop-cable.invariant.count;
      typed = subst (AreTyped s cables (take (i + 1) cables)) (sym c.push.ensures)
          (typed_more s cables cables c.loop-cable.typed i here grade at c.loop-cable.invariant.typed
          (subst (λ (l : ℕ). IsCheapestOrZero s here.from here.to l grade) c.load-carried.ensures.value best));
    }

pub returns : goal.returns
returns c = cheap_typed c.args.flows.now.site c.args.flows.now.cables c.loop-cable.typed c.loop-cable.cable-index (omega (arith, ap length c.cables-cables.ensures)) c.loop-cable.invariant.typed
