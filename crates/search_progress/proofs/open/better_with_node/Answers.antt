use Rattle.std.proofs.Common.{refl, sym, ◌∙◌, subst, ℤ}
use Rattle.std.specs.Prelude.{pos, ◌^◌, ◌<ℤ◌}
use Rattle.search_progress.proofs.OpenFirst.{passed, first-same, first-more}
use Rattle.search_progress.proofs.open.better_with_node.Goals as goal

pub returns-then-not-is_free : goal.returns-then-not-is_free
returns-then-not-is_free c = λ numbers place here before.
    first-same c.args.tree.now.nodes c.args.lanes.now numbers place c.args.node c.args.first here (λ free. (let is = c.is_free.ensures.1 free in let not = c.if-not-is_free.true in absurd (cc))) before

pub returns : goal.returns
returns c = λ numbers place here before.
    let free = c.is_free.ensures.0 c.if-not-is_free.false in
    let some = c.bound-bound.ensures.not_negative in
    let small = c.bound-bound.ensures.small in
    let same = passed c.bound-bound.result some small in
    first-more c.args.tree.now.nodes c.args.lanes.now numbers place c.args.node c.args.first _ c.first_of.result before here refl free (same ∙ c.bound-bound.ensures.bound free.node free.made)
    (subst (λ (z : ℤ). z <ℤ pos (2 ^ 100)) (sym same) small) c.first_of.ensures.either c.first_of.ensures.least c.first_of.ensures.least_first
