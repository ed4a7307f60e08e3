use Rattle.std.proofs.Common.{List, [], ◌∷◌, ◌++◌, length, sym, ap, ◌∙◌, subst, arith}
use Rattle.cable_definitions.specs.declared.cable.Cable.{Cable}
use Rattle.cable_text.specs.Lines.{ahead}
use Rattle.proof_text.proofs.Layouts.{AreRead, one_read, cable_refused, push_ok, at_ok}
use Rattle.proof_text.proofs.cables.read_layout.Goals as goal

pub returns-in-Err-clause-refused : goal.returns-in-Err-clause-refused
returns-in-Err-clause-refused g c =
    let e = c.cables-in-cables.ensures.value in
    let P : List Cable → Type 0 = λ cs. AreRead c.args.site.now c.args.ordered c.args.count c.cables._done (ahead c.args.lines.now (g.S.Source.state c.args.src.now)) (ahead c.cables.lines (g.S.Source.state c.cables.src)) c.args.lines.now.lines c.cables.lines.lines cs in
    let h = subst P (sym e) c.cables.invariant.are_read in
    cable_refused Cable (Unit {0}) c.in-Err.fault c.args.site.now c.args.ordered c.args.count c.cables._done (ahead c.args.lines.now (g.S.Source.state c.args.src.now)) (ahead c.cables.lines (g.S.Source.state c.cables.src)) c.args.lines.now.lines c.cables.lines.lines c.cables-in-cables.result.now c.cables-test.true h c.in-Err.ensures.line.refused

pub cables-preserved : goal.cables-preserved
cables-preserved g c =
    let e = c.cables-in-cables.ensures.value in
    let P : List Cable → Type 0 = λ cs. AreRead c.args.site.now c.args.ordered c.args.count c.cables._done (ahead c.args.lines.now (g.S.Source.state c.args.src.now)) (ahead c.cables.lines (g.S.Source.state c.cables.src)) c.args.lines.now.lines c.cables.lines.lines cs in
    let h = subst P (sym e) c.cables.invariant.are_read in
    let ok = push_ok c.push.result (length c.cables.into) c.push.ensures.full (omega (arith, c.cables.invariant.are_read.size, c.cables-test.true, c.requires.most)) in
    let more = at_ok c.push.result ok c.push.ensures.ok ∙ ap (λ cs. cs ++ c.in-Ok.cable ∷ []) (sym e) in
    record {
      are_read =
          one_read c.args.site.now c.args.ordered c.args.count c.cables._done (ahead c.args.lines.now (g.S.Source.state c.args.src.now)) (ahead c.cables.lines (g.S.Source.state c.cables.src)) (ahead c.read_cable-cable.new.lines (g.S.Source.state c.read_cable-cable.new.src)) c.args.lines.now.lines c.cables.lines.lines c.read_cable-cable.new.lines.lines c.cables-in-cables.result.now c.push.new.self c.in-Ok.cable
          c.cables-test.true h more c.in-Ok.ensures.reads c.in-Ok.ensures.text c.in-Ok.ensures.listed c.in-Ok.ensures.in_order c.in-Ok.ensures.line.lines;
      no_fault = c.in-Ok.ensures.line.no_fault;
      faults = omega (arith, c.cables.invariant.faults, c.read_cable-cable.ensures.line.count);
    }
