use Rattle.std.proofs.Common.{◌≡◌, arith, ap}
use Rattle.std.proofs.lemmas.Int.{ints}
use Rattle.std.proofs.lemmas.Nat.{mul-le}
use Rattle.drt_model.specs.Numbers.{most_time}
use Rattle.drt_model.specs.Walk.{wcet}
use Rattle.drt_graph.proofs.constants.opening.Goals as goal

pub returns-clause-low : goal.returns-clause-low
returns-clause-low c =
    let w : c.vertex.result.now.wcet ≡ wcet c.args.graph.now c.args.v = ap (λ x. x.wcet) c.vertex.ensures in
    let small = (c.keep_limits.ensures.wcet c.args.v c.requires.vertex).1 in
    let most = mul-le c.args.den c.vertex.result.now.wcet 1000000000 most_time c.requires.den (omega arith) in
    let reach = c.requires.near c.args.v c.requires.vertex in
    omega (arith, ints, c.potential_at.ensures, reach.0, reach.1, most)

pub returns-clause-high : goal.returns-clause-high
returns-clause-high c =
    let w : c.vertex.result.now.wcet ≡ wcet c.args.graph.now c.args.v = ap (λ x. x.wcet) c.vertex.ensures in
    let small = (c.keep_limits.ensures.wcet c.args.v c.requires.vertex).1 in
    let most = mul-le c.args.den c.vertex.result.now.wcet 1000000000 most_time c.requires.den (omega arith) in
    let reach = c.requires.near c.args.v c.requires.vertex in
    omega (arith, ints, c.potential_at.ensures, reach.0, reach.1, most)
