use Rattle.cable_run.proofs.Broken.{points_named, broken_of}
use Rattle.cable_run.proofs.judge.write_verdict.Goals as goal

pub write_broken-requires-clause-first : goal.write_broken-requires-clause-first
write_broken-requires-clause-first g c = (points_named c.args.site.now c.args.layout.now c.in-Broken.rule c.in-Broken.a c.in-Broken.b c.requires.listed (broken_of c.args.site.now c.args.layout.now _ _ _ _ c.in-Broken.is c.requires.verdict)).0

pub write_broken-requires-clause-second : goal.write_broken-requires-clause-second
write_broken-requires-clause-second g c = (points_named c.args.site.now c.args.layout.now c.in-Broken.rule c.in-Broken.a c.in-Broken.b c.requires.listed (broken_of c.args.site.now c.args.layout.now _ _ _ _ c.in-Broken.is c.requires.verdict)).1
