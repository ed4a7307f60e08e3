use Rattle.std.proofs.Common.{arith}
use Rattle.std.proofs.lemmas.Option.{slice_get-get_or}
use Rattle.cable_definitions.specs.declared.cable.Arc.{Arc}
use Rattle.row_makers.proofs.Rivals.{rivals_iff}
use Rattle.row_makers.proofs.crossing.are_rivals.Goals as goal

pub returns : goal.returns
returns c =
    let none : Arc = record { from = 0; to = 0; length = 0; charge = 0 } in
    let first = slice_get-get_or c.args.arcs.now c.args.a none c.requires.first in
    let second = slice_get-get_or c.args.arcs.now c.args.b none c.requires.second in
    rivals_iff c.args.site.now c.args.arcs.now c.args.shares.now c.args.a c.args.b c.get.result c.get-2.result _ _ c.incompatible.result c.get.ensures.share c.get-2.ensures.share
    (omega (arith, c.if-get-le-WHOLE.false)) first second (c.incompatible.ensures _ _ first second)
