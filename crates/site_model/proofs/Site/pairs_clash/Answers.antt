use Rattle.std.proofs.lemmas.Bool.{iff_false}
use Rattle.site_model.proofs.Clashing.{point_at, pairs_clash_from, pairs_clash_segments}
use Rattle.site_model.proofs.Site.pairs_clash.Goals as goal

pub returns : goal.returns
returns k =
    let s = k.args.self.now in
    let ps = k.points-points.result.now in
    let e = k.points-points.ensures.value in
    let p = point_at s ps k.args.a k.index-points-a.result e k.requires.first in
    let q = point_at s ps k.args.b k.index-points-b.result e k.requires.second in
    let r = point_at s ps k.args.c k.index-points-c.result e k.requires.third in
    let t = point_at s ps k.args.d k.index-points-d.result e k.requires.fourth in (
      λ yes. pairs_clash_from s k.args.a k.args.b k.args.c k.args.d _ _ _ _ p q r t (iff_false k.is_same_pair.ensures k.if-is_same_pair.false) (k.clash.ensures.0 yes),
      λ c. k.clash.ensures.1 (pairs_clash_segments s k.args.a k.args.b k.args.c k.args.d _ _ _ _ p q r t c),
    )
