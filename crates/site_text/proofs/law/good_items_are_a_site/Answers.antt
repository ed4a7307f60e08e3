use Rattle.site_text.proofs.SiteReading.{site_read}
use Rattle.site_text.proofs.law.good_items_are_a_site.Goals as goal

pub returns : goal.returns
returns c = λ bytes rest items last reads ended. site_read bytes rest items last reads ended
