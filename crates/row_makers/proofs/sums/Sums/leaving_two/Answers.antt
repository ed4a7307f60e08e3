use Rattle.std.proofs.Common.{◌+◌, ◌*◌, ◌∷◌, [], arith, ap}
use Rattle.bound_shares.specs.Shares.{leaving_shares}
use Rattle.row_makers.specs.Sums.{SharedArcs}
use Rattle.row_makers.proofs.Tables.{read_there}
use Rattle.row_makers.proofs.Leaving.{leaving_two-tables}
use Rattle.row_makers.proofs.sums.Sums.leaving_two.Goals as goal

pub overflow_sub-result : goal.overflow_sub-result
overflow_sub-result c =
    let are = c.self.invariant in
    let parts = leaving_two-tables c.self.inside.arcs.now c.self.inside.shares.now c.self.inside.out c.self.inside.between.items c.args.p c.args.q are c.requires.first c.requires.second c.requires.different in
    let read = read_there c.self.inside.between.items (256 * c.args.p + c.args.q) c.index.result.now 0 (omega (arith, c.requires.first, c.requires.second, are.between_size)) in
    omega (arith, parts, read, c.index.ensures)

pub overflow_sub-result-2 : goal.overflow_sub-result-2
overflow_sub-result-2 c =
    let are = c.self.invariant in
    let parts = leaving_two-tables c.self.inside.arcs.now c.self.inside.shares.now c.self.inside.out c.self.inside.between.items c.args.p c.args.q are c.requires.first c.requires.second c.requires.different in
    let read = read_there c.self.inside.between.items (256 * c.args.p + c.args.q) c.index.result.now 0 (omega (arith, c.requires.first, c.requires.second, are.between_size)) in
    let back = read_there c.self.inside.between.items (256 * c.args.q + c.args.p) c.index-2.result.now 0 (omega (arith, c.requires.first, c.requires.second, are.between_size)) in
    omega (arith, parts, read, back, c.index.ensures, c.index-2.ensures)

pub returns : goal.returns
returns c =
    let are = c.self.invariant in
    let parts = leaving_two-tables c.self.inside.arcs.now c.self.inside.shares.now c.self.inside.out c.self.inside.between.items c.args.p c.args.q are c.requires.first c.requires.second c.requires.different in
    let read = read_there c.self.inside.between.items (256 * c.args.p + c.args.q) c.index.result.now 0 (omega (arith, c.requires.first, c.requires.second, are.between_size)) in
    let back = read_there c.self.inside.between.items (256 * c.args.q + c.args.p) c.index-2.result.now 0 (omega (arith, c.requires.first, c.requires.second, are.between_size)) in
    let seen = ap (λ (v : SharedArcs). leaving_shares (c.args.p ∷ c.args.q ∷ []) v.arcs v.shares) c.self.view_is in
    omega (arith, parts, read, back, seen, c.index.ensures, c.index-2.ensures)
