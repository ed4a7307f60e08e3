use Rattle.site_model.proofs.Names.{is_some-number}
use Rattle.site_model.proofs.builder.SiteBuilder.has_name.Goals as goal

pub returns : goal.returns
returns c = rw c.is_some.ensures (is_some-number c.args.self.now.site.points c.args.name.now c.number_of.result c.number_of.ensures)
