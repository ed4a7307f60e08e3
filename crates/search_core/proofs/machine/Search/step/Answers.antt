use Rattle.search_core.proofs.Seeing.{parts-after, floor-there}
use Rattle.search_core.proofs.machine.Search.step.Goals as goal

pub returns-clause-parts : goal.returns-clause-parts
returns-clause-parts g c =
    parts-after _ _ c.step_on-done.new.maker c.step_on-done.new.progress _ c.self.view_is c.requires.running.searching c.step_on-done.ensures.searching c.step_on-done.ensures.same_make
    c.step_on-done.ensures.same_site

pub returns-clause-floor : goal.returns-clause-floor
returns-clause-floor g c = λ from to made e first is.
    floor-there _ _ made c.self.view_is c.requires.running.searching (λ n h. c.step_on-done.ensures.floor from to n made e first h is)
