use Rattle.std.proofs.Common.{subst, sym}
use Rattle.cable_definitions.specs.Part.{AreCheapTyped}
use Rattle.layout_meaning.specs.Partial.{SitePart}
use Rattle.layout_meaning.specs.Typed.{JoinPoints}
use Rattle.layout_meaning.proofs.Flowing.{flows_are}
use Rattle.layout_meaning.proofs.typing.with_cheapest_types.Goals as goal

pub cheapest_types-requires-clause-points : goal.cheapest_types-requires-clause-points
cheapest_types-requires-clause-points c =
    let flows = flows_are c.args.site.now c.new.result c.args.cables.now c.new-2.result c.new-2.ensures c.new.ensures in
    subst (λ (f : SitePart). JoinPoints f.site f.cables) (sym flows) c.requires.points

pub returns : goal.returns
returns c =
    let flows = flows_are c.args.site.now c.new.result c.args.cables.now c.new-2.result c.new-2.ensures c.new.ensures in
    subst (λ (f : SitePart). AreCheapTyped f.site f.cables c.cheapest_types.result) flows c.cheapest_types.ensures
