use Rattle.std.proofs.Common.{Err, None, Some, refl, ◌∙◌, arith}
use Rattle.std.proofs.lemmas.Option.{slice_get_within}
use Rattle.std.specs.Prelude.{nat_abs}
use Rattle.std.specs.Vec.{with_item}
use Rattle.search_progress.specs.declared.progress.Progress.{Progress}
use Rattle.search_progress.proofs.Acting.{IsActing, never_refused, has_room, is_acting, act-worked, act-searching, act-known, act-bound}
use Rattle.search_progress.proofs.progress.Progress.act.Goals as goal

pub unreachable-requires : goal.unreachable-requires
unreachable-requires c =
    never_refused c.args.site.now c.args.arcs.now c.requires.searching.0 c.args.self.now c.args.lane c.args.node c.in-Err.field-0 c.requires.searching.1 c.requires.held
    (λ e. c.in-Err.ensures.budget.0 (λ i. Err (e i))) (λ e. c.in-Err.ensures.unmade.0 (λ i. Err (e i))) (λ e. c.in-Err.ensures.worked.0 (λ i. Err (e i)))

pub push_children-requires-clause-room : goal.push_children-requires-clause-room
push_children-requires-clause-room c =
    has_room c.args.site.now c.args.arcs.now c.requires.searching.0 c.args.self.now c.args.lane c.args.node c.remove_node.new.nodes.items _ c.requires.searching.1 c.requires.held c.remove_node.ensures.rest c.remove_node.ensures.room

pub index_mut-requires : goal.index_mut-requires
index_mut-requires c = (let within = slice_get_within c.args.self.now.lanes.items c.args.lane (Some c.args.node) c.requires.held in omega (arith, within, c.args.self.now.lanes.ok.0))

-- the search as the act leaves it
abbrev left : goal.After-act-1 → Progress
left c = record {
  budget = c.args.self.now.budget;
  ceiling = c.args.self.now.ceiling;
  pool = c.args.self.now.pool;
  tree = c.work.new.self;
  decisions = c.args.self.now.decisions;
  open_nodes = c.push_children.new.nodes;
  lanes = with_item c.args.self.now.lanes c.args.lane None;
  best = c.update_incumbent.new.best;
  known = c.update_incumbent.new.known;
  work = record { node = c.args.node; weights = c.args.self.now.work.weights; act = c.args.choice.act };
  last = c.args.self.now.last;
}

-- what the calls did
acting : (c : goal.After-act-1) → IsActing c.args.site.now c.args.arcs.now c.args.self.now (left c) c.args.lane c.args.node c.args.choice.act c.requires.bound.0 (nat_abs c.args.choice.bound)
acting c =
    is_acting c.args.site.now c.args.arcs.now c.args.self.now (left c) c.args.lane c.args.node c.args.choice.act c.requires.bound.0 c.args.choice.bound c.remove_node.new.nodes.items c.count-count.result c.requires.held refl refl
    c.remove_node.ensures.rest c.requires.not_negative c.requires.small c.requires.bound.1 c.requires.marks refl c.requires.bound.2 c.in-Ok.ensures.ok refl c.count-count.ensures.count c.push_children.ensures.split
    c.push_children.ensures.other (c.push_children.ensures.room ∙ c.remove_node.ensures.room) c.update_incumbent.ensures c.requires.lawful c.requires.few refl

pub returns-clause-worked : goal.returns-clause-worked
returns-clause-worked c = λ n searching. act-worked c.args.site.now c.args.arcs.now n c.args.self.now (left c) c.args.lane c.args.node c.args.choice.act c.requires.bound.0 (nat_abs c.args.choice.bound) searching (acting c)

pub returns-clause-bound : goal.returns-clause-bound
returns-clause-bound c = act-bound c.args.site.now c.args.arcs.now c.args.self.now (left c) c.args.lane c.args.node c.args.choice.act c.requires.bound.0 (nat_abs c.args.choice.bound) (acting c)

pub returns-clause-known : goal.returns-clause-known
returns-clause-known c =
    act-known c.args.site.now c.args.arcs.now c.requires.searching.0 c.args.self.now (left c) c.args.lane c.args.node c.args.choice.act c.requires.bound.0 (nat_abs c.args.choice.bound) c.requires.searching.1 (acting c)

pub returns-clause-searching : goal.returns-clause-searching
returns-clause-searching c = λ n searching.
    act-searching c.args.site.now c.args.arcs.now n c.args.self.now (left c) c.args.lane c.args.node c.args.choice.act c.requires.bound.0 (nat_abs c.args.choice.bound) searching (acting c)
