use Rattle.std.proofs.Common.{sym, ◌∙◌}
use Rattle.serde_json.specs.View.{view}
use Rattle.site_json.proofs.TopLevel.{other_keys, site_keys}
use Rattle.site_json.proofs.top.is_top.Goals as goal

pub returns-then-len-count_there : goal.returns-then-len-count_there
returns-then-len-count_there c =
    other_keys (view c.args.tree.now) c.in-Some.members.now.entries c.len.result c.count_there.result c.in-Some.ensures (sym c.has_all.ensures ∙ c.if-not-has_all.false) c.len.ensures.len c.count_there.ensures c.if-len-count_there.true

pub returns : goal.returns
returns c =
    c.are_arrays.ensures
    ∙ site_keys (view c.args.tree.now) c.in-Some.members.now.entries c.len.result c.count_there.result c.in-Some.ensures (sym c.has_all.ensures ∙ c.if-not-has_all.false) c.len.ensures.len c.count_there.ensures c.if-len-count_there.false
