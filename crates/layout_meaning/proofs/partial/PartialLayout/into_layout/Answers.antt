use Rattle.std.proofs.Common.{subst}
use Rattle.cable_definitions.specs.Part.{IsGrown}
use Rattle.layout_meaning.specs.Partial.{SitePart}
use Rattle.layout_meaning.proofs.partial.PartialLayout.into_layout.Goals as goal

pub returns-clause-grown : goal.returns-clause-grown
returns-clause-grown c = subst (λ (part : SitePart). IsGrown part.site part.cables) c.self.view_is c.self.invariant.grown
