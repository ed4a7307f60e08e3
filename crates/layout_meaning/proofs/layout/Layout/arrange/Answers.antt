use Rattle.std.proofs.Common.{List, rules, ap, sym, subst, ◌∙◌}
use Rattle.std.proofs.lemmas.List.Sorted.{answers_always}
use Rattle.cable_definitions.specs.declared.cable.Cable.{Cable}
use Rattle.cable_definitions.specs.Walk.{cable_out}
use Rattle.layout_laws.specs.Alike.{StartsDiffer}
use Rattle.layout_meaning.proofs.Reordering.{differ_again, outs_again}
use Rattle.layout_meaning.proofs.Arranging.{arranged}
use Rattle.layout_meaning.proofs.layout.Layout.arrange.Goals as goal

pub returns-clause-in_order : goal.returns-clause-in_order
returns-clause-in_order c = arranged c.sort_unstable_by_key.new.self.items (c.sort_unstable_by_key.ensures.sorted (λ (x : Cable). (x.from, x.to, x.grade)) (answers_always _ _ _ (λ f a r g h. search rules)))

pub returns-clause-starts_differ : goal.returns-clause-starts_differ
returns-clause-starts_differ c = λ differ. differ_again c.self.inside.cables.items c.sort_unstable_by_key.new.self.items c.sort_unstable_by_key.ensures.permutation (subst StartsDiffer (sym c.self.view_is) differ)

pub returns-clause-same_outs : goal.returns-clause-same_outs
returns-clause-same_outs c = λ differ p.
    ap (λ (cables : List Cable). cable_out cables p) (sym c.self.view_is)
    ∙ outs_again c.self.inside.cables.items c.sort_unstable_by_key.new.self.items c.sort_unstable_by_key.ensures.permutation (subst StartsDiffer (sym c.self.view_is) differ) p
