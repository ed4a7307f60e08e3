use Rattle.std.proofs.Common.{◌≡◌, refl, ap, ◌∙◌, arith, count_by}
use Rattle.cable_definitions.specs.Core.{is_holding}
use Rattle.search_progress.proofs.progress.Progress.ended.Goals as goal

pub returns-then-works-self-clause-closed : goal.returns-then-works-self-clause-closed
returns-then-works-self-clause-closed c = λ s arcs n items searching. (
  λ e. absurd (cc),
  λ closed. absurd (closed.none_wanted c.in-Some.field-0 (c.in-Some.ensures.some s arcs n items searching)),
)

pub returns-in-0-clause-closed : goal.returns-in-0-clause-closed
returns-in-0-clause-closed c = λ s arcs n items searching. (
  λ e. record {
    empty = (
        let count : c.held_count.result ≡ count_by is_holding c.args.self.now.lanes.items = c.held_count.ensures.count ∙ ap (count_by is_holding) c.as_slice.ensures.value in
        let none = c.in-0.is in
        omega (arith, count, none)
        );
    none_wanted = λ v. c.in-None.ensures.none s arcs n items v searching;
  },
  λ closed. refl,
)

pub returns-in-0-clause-spent : goal.returns-in-0-clause-spent
returns-in-0-clause-spent c = λ s arcs n items searching. (
  λ e. absurd (cc),
  λ spent. absurd (c.in-None.ensures.none s arcs n items spent.node searching spent.wanted),
)

pub returns-else-works-self-clause-closed : goal.returns-else-works-self-clause-closed
returns-else-works-self-clause-closed c = λ s arcs n items searching. (
  λ e. absurd (cc),
  λ closed. absurd (closed.none_wanted c.in-Some.field-0 (c.in-Some.ensures.some s arcs n items searching)),
)

pub returns-else-works-self-clause-spent : goal.returns-else-works-self-clause-spent
returns-else-works-self-clause-spent c = λ s arcs n items searching. (
  λ e. record {
    works = (
        let works = c.works.ensures.works in
        let most = c.works.ensures.most in
        let spent = c.if-works-self.false in
        let limit = searching.limit in
        let budget = searching.budget in
        omega (arith, works, most, spent, limit, budget)
        );
    node = c.in-Some.field-0;
    wanted = c.in-Some.ensures.some s arcs n items searching;
  },
  λ spent. refl,
)
