use Rattle.std.proofs.Common.{ℕ, suc, List, [], refl, arith}
use Rattle.cable_definitions.specs.declared.cable.Arc.{Arc}
use Rattle.cable_definitions.specs.Site.{Site}
use Rattle.cable_definitions.specs.Tree.{Item}
use Rattle.cable_definitions.specs.Core.{Runs}
use Rattle.run_definitions.specs.Rounds.{round, IsOver}
use Rattle.search_core.specs.State.{core}
use Rattle.search_core.proofs.Advancing.{advances-then, advances-failed, advances-silent}
use Rattle.search_parts.proofs.Rounding.{rounds-more}
use Rattle.search_core.proofs.Flooring.{floored-at}
use Rattle.search_core.proofs.CoreSteps.{keeps-none, keeps-then, kept-parts, advances-moved}
use Rattle.search_core.proofs.Looping.{round-further, not-ended, has-ended, advances-end, none_from, some_from}
use Rattle.search_core.proofs.rounds.work_all.Goals as goal

pub loop-alloc-init : goal.loop-alloc-init
loop-alloc-init g c = record {
  running = c.requires.running;
  parts = keeps-none c.args.search.now;
  idle = c.requires.idle;
  floored = λ h. h;
  advances = λ items.
      let old = c.args.search.now in
      advances-silent tt old.site old.arcs old.progress.budget (core items old) _ (λ more. core more old) _ [] (core items old) refl refl (0, refl) refl;
}

pub loop-alloc-smaller : goal.loop-alloc-smaller
loop-alloc-smaller g c =
    let old = c.args.search.now in
    let now = c.loop-alloc.search in
    let parts = c.loop-alloc.invariant.parts in
    let idle = c.loop-alloc.invariant.idle in
    let on = kept-parts (λ (s : Site) (arcs : List Arc) (n : ℕ). ¬ (IsOver s n (core idle.0 now))) parts
    (not-ended now.site now.progress.budget (core idle.0 now) c.ended.result (none_from c.ended.result c.is_none.result c.is_none.ensures c.loop-alloc-test.true) (c.ended.ensures.closed idle.0) (c.ended.ensures.spent idle.0)) in
    let further = round-further old.site old.arcs old.progress.budget c.args.lanes (core idle.0 now) (λ more. core more c.round.new.search) c.requires.running.searching.valid c.requires.running.are_arcs c.requires.some_lanes
    idle.1 on (advances-moved (round c.args.lanes) parts (c.in_ok-round.ensures.advances idle.0)) in
    let rises = further.rises in
    let most = further.most in
    let same = parts.budget in
    let next = c.round.ensures.parts.budget in
    omega (arith, rises, most, same, next)

pub loop-alloc-preserved : goal.loop-alloc-preserved
loop-alloc-preserved g c =
    let old = c.args.search.now in
    let now = c.loop-alloc.search in
    let parts = c.loop-alloc.invariant.parts in
    let idle = c.loop-alloc.invariant.idle in
    let on : (items : List Item) → ¬ (IsOver old.site old.progress.budget (core items now)) = λ items.
    kept-parts (λ (s : Site) (arcs : List Arc) (n : ℕ). ¬ (IsOver s n (core items now))) parts
    (not-ended now.site now.progress.budget (core items now) c.ended.result (none_from c.ended.result c.is_none.result c.is_none.ensures c.loop-alloc-test.true) (c.ended.ensures.closed items) (c.ended.ensures.spent items)) in
    let further = round-further old.site old.arcs old.progress.budget c.args.lanes (core idle.0 now) (λ more. core more c.round.new.search) c.requires.running.searching.valid c.requires.running.are_arcs c.requires.some_lanes
    idle.1 (on idle.0) (advances-moved (round c.args.lanes) parts (c.in_ok-round.ensures.advances idle.0)) in
    record {
      running = c.round.ensures.running;
      parts = keeps-then parts c.round.ensures.parts;
      idle = (further.items, further.idle);
      floored = λ h. floored-at now.progress.tree.nodes c.round.new.search.progress.tree.nodes parts.site c.in_ok-round.ensures.floored (c.loop-alloc.invariant.floored h);
      advances = λ items.
          advances-then {mid = λ more. core more now} (λ more. refl) (c.loop-alloc.invariant.advances items) (λ more. advances-moved (round c.args.lanes) parts (c.in_ok-round.ensures.advances more))
          (λ more new before runs. (suc before.0, rounds-more old.site old.arcs old.progress.budget c.args.lanes before.0 (core items old) (core more now) new before.1 (on more) runs));
    }

pub returns-in_err-round-clause-advances : goal.returns-in_err-round-clause-advances
returns-in_err-round-clause-advances g c = λ items.
    let old = c.args.search.now in
    let now = c.loop-alloc.search in
    advances-failed c.from_residual.ensures.0 c.from_residual.ensures.1
    (advances-then {Second = λ more new. Runs old.site old.arcs old.progress.budget (core more now) (round c.args.lanes) new} {Both = λ new. Unit {0}} {mid = λ more. core more now} (λ more. refl)
    (c.loop-alloc.invariant.advances items) (λ more. advances-moved (round c.args.lanes) c.loop-alloc.invariant.parts (c.in_err-round.ensures.advances more)) (λ more new before step. tt))

pub returns-clause-advances : goal.returns-clause-advances
returns-clause-advances g c = λ items.
    let old = c.args.search.now in
    let now = c.loop-alloc.search in
    advances-end c.args.lanes
    (λ more.
    kept-parts (λ (s : Site) (arcs : List Arc) (n : ℕ). IsOver s n (core more now)) c.loop-alloc.invariant.parts
    (has-ended now.site now.progress.budget (core more now) c.ended.result (some_from c.ended.result c.is_none.result c.is_none.ensures c.loop-alloc-test.false) (c.ended.ensures.closed more) (c.ended.ensures.spent more)))
    (c.loop-alloc.invariant.advances items)
