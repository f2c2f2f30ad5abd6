use Rattle.std.proofs.Common.{◌+◌, ◌<◌, ◌≤◌, ◌⊎◌, inl, inr, arith}
use Rattle.std.proofs.lemmas.Bool.{cases_lt}
use Rattle.std.specs.Prelude.{Contains}
use Rattle.drt_graph.specs.declared.front.FrontEntry.{FrontEntry}
use Rattle.drt_edf_fronts.specs.DemandWalk.{IsPrefixLabel}
use Rattle.drt_edf_fronts.proofs.Prefixes.{has_prefix, entry_vertex}
use Rattle.drt_edf_fronts.proofs.walks.predecessor.Goals as goal

pub prefix_of-requires-clause-entry : goal.prefix_of-requires-clause-entry
prefix_of-requires-clause-entry c = entry_vertex c.args.graph.now c.vertex_count-count.ensures.sound c.requires.front.0 c.args.front.now c.requires.front.1 c.args.entry c.requires.entry

pub prefix_of-requires-clause-ordered : goal.prefix_of-requires-clause-ordered
prefix_of-requires-clause-ordered c = c.requires.front.1.ordered.1

pub vertices-preserved : goal.vertices-preserved
vertices-preserved c = λ d has p. go d has p (c.vertices.invariant d has p) (cases_lt c.vertices.u d.vertex)
  where
    go : (d : FrontEntry) → Contains c.args.front.now d → IsPrefixLabel c.args.graph.now d c.args.entry → c.vertices.u ≤ d.vertex → (c.vertices.u < d.vertex) ⊎ (d.vertex ≤ c.vertices.u)
        → c.vertices.u + 1 ≤ d.vertex
    go d has p l (inl m) = omega (arith, m)
    go d has p l (inr m) = absurd (c.in-None.ensures d has (omega (arith, l, m)) p)

pub unreachable-requires : goal.unreachable-requires
unreachable-requires c =
    let g = c.args.graph.now in
    let sound = c.vertex_count-count.ensures.sound in
    let is = c.requires.front.1 in
    let d = has_prefix g sound c.requires.front.0 c.args.front.now is c.requires.constrained c.args.entry c.requires.entry c.requires.later in
    let l = c.vertices.invariant d.0 d.1 d.2 in
    let m = entry_vertex g sound c.requires.front.0 c.args.front.now is d.0 d.1 in
    omega (arith, l, m, c.vertices-test.false, c.vertex_count-count.ensures.count)
