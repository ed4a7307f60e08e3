use Rattle.std.specs.Vec.{vec_items}
use Rattle.site_model.proofs.Numbered.{number_says}
use Rattle.site_model.proofs.name_index.number_in.Goals as goal

pub returns : goal.returns
returns c = number_says vec_items c.args.names.now.keys c.args.name.now c.get_index_of.result c.get_index_of.ensures.index c.get_index_of.ensures.found
