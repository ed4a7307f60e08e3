use Rattle.line_words.proofs.Shapes.{not_so}
use Rattle.proof_text.proofs.Names.{ahead_too}
use Rattle.proof_text.proofs.cables.cable_in.Goals as goal

pub returns-clause-bad : goal.returns-clause-bad
returns-clause-bad c =
    let h = c.in-Some.ensures.some in (
      c.in-Some.from.now,
      c.in-Some.to.now,
      h.0,
      h.1,
      λ d named ahead. not_so c.is_ahead.ensures c.if-is_ahead.false
          (ahead_too c.args.site.now c.in-Some.from.now c.in-Some.to.now h.0 d c.in-Some-cable_named.cable c.args.ordered c.args.cables.now c.cable_named.ensures.valid.names_differ named (c.in-Some-cable_named.ensures.some h.0 h.2) ahead),
    )
