use Rattle.std.proofs.Common.{refl}
use Rattle.start_layout.proofs.Straightening.{candidate_listed, none_listed}
use Rattle.start_layout.proofs.straight.is_arc.Goals as goal

pub returns-in-None : goal.returns-in-None
returns-in-None c = (
  λ t. absurd (cc),
  λ candidate. absurd (none_listed c.args.site.now c.args.arcs.now c.args.from c.args.to c.requires c.in-None.ensures.none candidate),
)

pub returns-in-Some : goal.returns-in-Some
returns-in-Some c = (
  λ t. candidate_listed c.args.site.now c.args.arcs.now c.args.from c.args.to c.in-Some.number c.requires c.in-Some.ensures.number,
  λ candidate. refl,
)
