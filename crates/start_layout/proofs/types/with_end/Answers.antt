use Rattle.std.proofs.Common.{sym, ◌∙◌, subst}
use Rattle.layout_meaning.specs.Partial.{SitePart}
use Rattle.layout_meaning.specs.Typed.{JoinPoints}
use Rattle.layout_meaning.proofs.Flowing.{flows_are}
use Rattle.start_layout.specs.Moves.{with_end}
use Rattle.start_layout.proofs.Choosing.{ended_joins}
use Rattle.start_layout.proofs.types.with_end.Goals as goal

pub cheapest_types-typed-requires-clause-points : goal.cheapest_types-typed-requires-clause-points
cheapest_types-typed-requires-clause-points c =
    let ended = with_end c.args.cables.now c.args.arc.from c.args.arc.to in
    let flows = flows_are c.args.site.now c.new.result ended c.new-flows.result c.new-flows.ensures (c.new.ensures ∙ c.as_slice.ensures.value ∙ c.re_end-ended.ensures) in
    subst (λ (f : SitePart). JoinPoints f.site f.cables) (sym flows) (ended_joins c.args.site.now c.args.cables.now c.args.arc.from c.args.arc.to c.requires.range c.requires.to)

pub cost_of_typed-requires-clause-points : goal.cost_of_typed-requires-clause-points
cost_of_typed-requires-clause-points c =
    let ended = with_end c.args.cables.now c.args.arc.from c.args.arc.to in
    let flows = flows_are c.args.site.now c.new.result ended c.new-flows.result c.new-flows.ensures (c.new.ensures ∙ c.as_slice.ensures.value ∙ c.re_end-ended.ensures) in
    subst (λ (f : SitePart). JoinPoints f.site f.cables) (sym flows) (ended_joins c.args.site.now c.args.cables.now c.args.arc.from c.args.arc.to c.requires.range c.requires.to)
