use Rattle.std.proofs.Common.{◌≡◌, List, Some, slice_get, arith, ap, sym, ◌∙◌, subst}
use Rattle.std.proofs.lemmas.Option.{slice_get_within}
use Rattle.cable_definitions.specs.declared.cable.Cable.{Cable}
use Rattle.cable_definitions.proofs.Lists.{listed_out}
use Rattle.node_reasons.specs.Reasons.{Returns}
use Rattle.node_reasons.proofs.flows.find_loop.Goals as goal

pub returns-clause-none : goal.returns-clause-none
returns-clause-none c = λ p r.
    let cables = c.args.cables.now in
    let items = c.cables-cable-items.result.now in
    let out = listed_out cables p r.0 in
    let at : slice_get items out.0 ≡ Some out.1 = ap (λ (xs : List Cable). slice_get xs out.0) c.cables-cable-items.ensures ∙ out.2 in
    let within = slice_get_within items out.0 out.1 at in
    c.loop-cable.invariant out.0 out.1 (omega arith) at (subst (Returns cables) (sym out.3) r)
