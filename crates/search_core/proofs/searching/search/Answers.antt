use Rattle.std.proofs.Common.{rules}
use Rattle.search_core.proofs.Assembling.{part-none}
use Rattle.search_parts.proofs.Handing.{handed}
use Rattle.search_core.proofs.searching.search.Goals as goal

pub new-maker-requires : goal.new-maker-requires
new-maker-requires g c = record {
  takes = λ arcs shares are p q r e f h. handed c.args.site.now p.now c.args.arcs.now arcs q.now shares r.now c.in_ok-all_crossings.all_crossings c.requires.arcs c.in_ok-all_crossings.ensures are e f h;
  sound = λ arcs shares row are given. search rules;
}

pub new-requires-3-clause-makes : goal.new-requires-3-clause-makes
new-requires-3-clause-makes g c = rw (c.new-maker.ensures.make, c.new-maker.ensures.site) (record {
  takes = λ arcs shares are p q r e f h. handed c.args.site.now p.now c.args.arcs.now arcs q.now shares r.now c.in_ok-all_crossings.all_crossings c.requires.arcs c.in_ok-all_crossings.ensures are e f h;
  sound = λ arcs shares row are given. search rules;
})

pub returns-in_err-search-clause-part : goal.returns-in_err-search-clause-part
returns-in_err-search-clause-part g c = part-none c.from_residual-in_err-search.result _ _ _ _
