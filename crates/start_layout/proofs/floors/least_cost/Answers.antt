use Rattle.std.proofs.Common.{arith}
use Rattle.layout_laws.proofs.Monotone.{Bears-lower, cheapest-le_higher}
use Rattle.start_layout.proofs.floors.least_cost.Goals as goal

pub returns-in-Some : goal.returns-in-Some
returns-in-Some c = λ grade high l bears.
    let s = c.args.site.now in
    let less = cheapest-le_higher s c.args.from c.args.to c.args.load high c.in-Some.grade grade l c.in-Some.ensures.grade bears in
    omega (arith, less, c.in-Some.ensures.cost)

pub returns-in-None : goal.returns-in-None
returns-in-None c = λ grade high l bears. absurd (c.in-None.ensures.none grade (Bears-lower c.args.site.now grade c.args.load high l bears))
