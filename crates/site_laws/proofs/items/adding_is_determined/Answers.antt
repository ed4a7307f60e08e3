use Rattle.site_laws.proofs.Adding.{adds_same}
use Rattle.site_laws.proofs.items.adding_is_determined.Goals as goal

pub returns : goal.returns
returns c = λ d e f item. adds_same d item e f
