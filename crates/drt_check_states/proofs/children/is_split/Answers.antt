use Rattle.std.proofs.Common.{◌≤◌, ◌<◌, length, arith, sym, ◌∙◌}
use Rattle.std.proofs.lemmas.Bool.{eqb-false, eqb-true}
use Rattle.drt_check_states.proofs.Splits.{place_in, split_is, split_of, vertices_in}
use Rattle.drt_check_states.proofs.children.is_split.Goals as goal

pub returns-then-place-order : goal.returns-then-place-order
returns-then-place-order c = (
  λ e. absurd (cc),
  λ is. (
      let l = place_in c.args.graphs.now c.args.order.now c.args.deadline c.args.states.now c.args.state.now c.args.place c.args.numbers.now is in
      absurd (omega (arith, l, c.if-place-order.true))
      ),
)

pub returns-then-is_empty : goal.returns-then-is_empty
returns-then-is_empty c = (
  λ e. absurd (cc),
  λ is. (let z = eqb-true (length c.args.numbers.now) 0 (sym c.is_empty.ensures ∙ c.if-is_empty.true) in absurd (omega (arith, z, is.some))),
)

pub are_dominated-requires : goal.are_dominated-requires
are_dominated-requires c =
    let l : c.args.place < length c.args.order.now = omega (arith, c.if-place-order.false) in
    record {
      in_order = c.requires.state.in_order;
      vertices = vertices_in c.args.graphs.now c.args.order.now c.args.place l c.args.state.now.entries c.graph-graph.result.now c.graph-graph.ensures.graph c.requires.state.entries;
    }

pub returns : goal.returns
returns c =
    let l : c.args.place < length c.args.order.now = omega (arith, c.if-place-order.false) in
    let z = eqb-false (length c.args.numbers.now) 0 (sym c.is_empty.ensures ∙ c.if-is_empty.false) in
    let some : 1 ≤ length c.args.numbers.now = omega (arith, z) in (
      λ e. split_is c.args.graphs.now c.args.order.now c.args.place l c.args.deadline c.args.states.now c.args.state.now c.args.numbers.now c.graph-graph.result.now c.graph-graph.ensures.graph some
          (c.are_dominated.ensures.0 e),
      λ is. c.are_dominated.ensures.1
          (split_of c.args.graphs.now c.args.order.now c.args.place l c.args.deadline c.args.states.now c.args.state.now c.args.numbers.now c.graph-graph.result.now c.graph-graph.ensures.graph is),
    )
