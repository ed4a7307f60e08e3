use Rattle.std.proofs.Common.{List, Option, sym, subst}
use Rattle.std.specs.Prelude.{IfSome}
use Rattle.cable_definitions.specs.declared.cable.Cable.{Cable}
use Rattle.cable_definitions.specs.Layout.{IsLegal}
use Rattle.start_layout.proofs.Moving.{not_legal}
use Rattle.start_layout.proofs.starting.judged.Goals as goal

pub returns-in-Broken-clause-none : goal.returns-in-Broken-clause-none
returns-in-Broken-clause-none c =
    let s = c.args.site.now in
    subst (λ (o : Option (List Cable)). IfSome o (λ cables. ¬ (IsLegal s cables))) (sym c.in-Some.is)
    (not_legal s c.in-Some.layout c.in-Broken.rule c.in-Broken.a c.in-Broken.b c.in-Broken.ensures)
