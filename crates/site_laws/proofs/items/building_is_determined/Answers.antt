use Rattle.site_laws.proofs.Building.{builds_same}
use Rattle.cable_definitions.specs.Items.{empty_draft}
use Rattle.site_laws.proofs.Adding.{NamesDiffer-empty}
use Rattle.site_laws.proofs.items.building_is_determined.Goals as goal

pub returns : goal.returns
returns c = λ items d e. builds_same items empty_draft d e NamesDiffer-empty
