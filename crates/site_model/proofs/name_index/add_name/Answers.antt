use Rattle.std.specs.Vec.{vec_items}
use Rattle.site_model.proofs.Numbered.{names_added}
use Rattle.site_model.proofs.name_index.add_name.Goals as goal

pub returns-clause-added : goal.returns-clause-added
returns-clause-added c = names_added vec_items c.args.names.now.keys c.insert.new.self.keys c.in_ok-own_name.own_name c.args.name.now c.in-Ok.ensures.keys c.in_ok-own_name.ensures.items c.requires
