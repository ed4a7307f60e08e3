use Rattle.std.proofs.Common.{◌∙◌}
use Rattle.node_reasons.proofs.FullLayouts.{full_is}
use Rattle.node_reasons.proofs.node.NodeBox.full_layout.Goals as goal

pub returns : goal.returns
returns c =
    let n = c.args.self.now in
    full_is n.site n.arcs n.marks c.in-Some.typed c.replace.new.self c.in-Some.ensures.typed (c.replace.ensures ∙ c.as_slice.ensures.value) c.requires.full.0 c.requires.full.1
