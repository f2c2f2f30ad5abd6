use Rattle.std.proofs.Common.{◌≡◌, ◌*◌, arith, ap}
use Rattle.std.proofs.lemmas.Int.{ints}
use Rattle.std.proofs.lemmas.Nat.{mul-le}
use Rattle.drt_model.specs.Numbers.{most_time}
use Rattle.drt_model.specs.Digraph.{vertex_of}
use Rattle.drt_model.specs.Walk.{deadline}
use Rattle.drt_graph.proofs.constants.closing.Goals as goal

pub returns-clause-low : goal.returns-clause-low
returns-clause-low c =
    let w : c.vertex.result.now.deadline ≡ (vertex_of c.args.graph.now c.args.v).deadline = ap (λ x. x.deadline) c.vertex.ensures in
    let small = (c.keep_limits.ensures.deadline c.args.v c.requires.vertex).1 in
    let most = mul-le c.args.num c.vertex.result.now.deadline 1000000000 most_time c.requires.num (omega arith) in
    let reach = c.requires.near c.args.v c.requires.vertex in
    omega (arith, ints, c.potential_at.ensures, reach.0, reach.1, most)

pub returns-clause-high : goal.returns-clause-high
returns-clause-high c =
    let w : c.vertex.result.now.deadline ≡ (vertex_of c.args.graph.now c.args.v).deadline = ap (λ x. x.deadline) c.vertex.ensures in
    let small = (c.keep_limits.ensures.deadline c.args.v c.requires.vertex).1 in
    let most = mul-le c.args.num c.vertex.result.now.deadline 1000000000 most_time c.requires.num (omega arith) in
    let reach = c.requires.near c.args.v c.requires.vertex in
    omega (arith, ints, c.potential_at.ensures, reach.0, reach.1, most)

pub overflow_sub-result : goal.overflow_sub-result
overflow_sub-result c =
    let w : c.vertex.result.now.deadline ≡ (vertex_of c.args.graph.now c.args.v).deadline = ap (λ x. x.deadline) c.vertex.ensures in
    let small = (c.keep_limits.ensures.deadline c.args.v c.requires.vertex).1 in
    let most = mul-le c.args.num c.vertex.result.now.deadline 1000000000 most_time c.requires.num (omega arith) in
    let reach = c.requires.near c.args.v c.requires.vertex in
    omega (arith, ints, c.potential_at.ensures, reach.0, reach.1, most)

pub returns-clause-value : goal.returns-clause-value
returns-clause-value c =
    let w : c.vertex.result.now.deadline ≡ deadline c.args.graph.now c.args.v = ap (λ x. x.deadline) c.vertex.ensures in
    let e : c.args.num * c.vertex.result.now.deadline ≡ c.args.num * deadline c.args.graph.now c.args.v = ap (λ x. c.args.num * x) w in
    let small = (c.keep_limits.ensures.deadline c.args.v c.requires.vertex).1 in
    let most = mul-le c.args.num c.vertex.result.now.deadline 1000000000 most_time c.requires.num (omega arith) in
    let reach = c.requires.near c.args.v c.requires.vertex in
    omega (arith, ints, c.potential_at.ensures, reach.0, reach.1, most, e)
