use Rattle.std.proofs.Common.{◌≡◌, length, take, sum_by}
use Rattle.site_model.proofs.builder.corner_count.Given as goal

abbrev pub invariant-loop-obstacle : goal.invariant-loop-obstacle
invariant-loop-obstacle l = l.count ≡ sum_by length (take l.obstacle-index l.obstacles)
