use Rattle.std.proofs.Common.{subst, sym}
use Rattle.std.specs.Prelude.{IfNone}
use Rattle.cable_definitions.specs.Part.{IsGrown}
use Rattle.layout_meaning.specs.First.{KeepsBelow}
use Rattle.layout_meaning.specs.Partial.{SitePart}
use Rattle.layout_meaning.proofs.Flowing.{flows_are}
use Rattle.layout_meaning.proofs.breach.first_breach_of_part.Goals as goal

pub breach_of_farm-requires-clause-kept : goal.breach_of_farm-requires-clause-kept
breach_of_farm-requires-clause-kept c =
    let flows = flows_are c.args.site.now c.new.result c.args.cables.now c.new-2.result c.new-2.ensures c.new.ensures in
    subst (λ (f : SitePart). KeepsBelow f.site f.cables 4) (sym flows) c.in_default.ensures.none

pub returns-clause-none : goal.returns-clause-none
returns-clause-none c =
    let flows = flows_are c.args.site.now c.new.result c.args.cables.now c.new-2.result c.new-2.ensures c.new.ensures in
    subst (λ (f : SitePart). IfNone c.breach_of_farm.result (IsGrown f.site f.cables)) flows c.breach_of_farm.ensures.none
