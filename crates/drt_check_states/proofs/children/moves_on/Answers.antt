use Rattle.std.proofs.Common.{◌≡◌, ◌+◌, length, get_or, true, false, arith, subst, sym}
use Rattle.std.specs.Prelude.{nat_lt}
use Rattle.std.proofs.lemmas.Bool.{eqb-true, le-ltb, lt-ltb}
use Rattle.drt_model.specs.Digraph.{no_edge, out_edges}
use Rattle.drt_model.specs.declared.tasks.Vertex.{Vertex}
use Rattle.drt_states.specs.States.{NamesAbove, child_at}
use Rattle.drt_check_states.proofs.Cuts.{equal}
use Rattle.drt_check_states.proofs.Moves.{along_end, along_not, along_over, along_short, along_skip, along_take, child_by, far, near_by}
use Rattle.drt_check_states.proofs.children.moves_on.Goals as goal

pub loop-k-preserved-then-not-is_near : goal.loop-k-preserved-then-not-is_near
loop-k-preserved-then-not-is_near c =
    let x = c.out_edge-edge.result.now in
    let t : nat_lt (c.args.from.offset + x.sep) c.args.deadline ≡ false
    = le-ltb (c.args.from.offset + x.sep) c.args.deadline (far (c.args.from.offset + x.sep) c.args.deadline c.is_near.result c.is_near.ensures.1 c.if-not-is_near.true) in
    along_skip (NamesAbove c.args.states.now) (child_by c.args.graph.now c.args.state.now c.args.from) (near_by c.args.deadline c.args.from)
    (out_edges c.args.graph.now c.args.from.vertex) c.args.numbers.now
    c.loop-k.k c.loop-k.next no_edge x (omega (arith, c.loop-k-test.true, c.out_degree-k-end.ensures)) c.out_edge-edge.ensures t c.loop-k.invariant

pub returns-then-next-numbers : goal.returns-then-next-numbers
returns-then-next-numbers c = (
  λ e. absurd (cc),
  λ fit.
      let x = c.out_edge-edge.result.now in
      let t : nat_lt (c.args.from.offset + x.sep) c.args.deadline ≡ true = lt-ltb (c.args.from.offset + x.sep) c.args.deadline (c.is_near.ensures.0 c.if-not-is_near.false) in
      absurd (
      along_short (NamesAbove c.args.states.now) (child_by c.args.graph.now c.args.state.now c.args.from) (near_by c.args.deadline c.args.from) (out_edges c.args.graph.now c.args.from.vertex)
      c.args.numbers.now c.loop-k.k c.loop-k.next no_edge x (omega (arith, c.loop-k-test.true, c.out_degree-k-end.ensures)) c.out_edge-edge.ensures t c.if-next-numbers.true c.loop-k.invariant fit
      ),
)

pub returns-then-not-names_above : goal.returns-then-not-names_above
returns-then-not-names_above c = (
  λ e. absurd (cc),
  λ fit.
      let x = c.out_edge-edge.result.now in
      let n = get_or c.args.numbers.now c.loop-k.next 0 in
      let t : nat_lt (c.args.from.offset + x.sep) c.args.deadline ≡ true = lt-ltb (c.args.from.offset + x.sep) c.args.deadline (c.is_near.ensures.0 c.if-not-is_near.false) in
      let fails : NamesAbove c.args.states.now (child_by c.args.graph.now c.args.state.now c.args.from x) n → ⊥
      = (λ names.
      let own = subst (λ (v : Vertex). NamesAbove c.args.states.now
      (child_at c.args.state.now c.args.from.place x.to (c.args.from.offset + x.sep) (c.args.state.now.work + v.wcet)) n) (sym c.vertex.ensures)
      names in
      let t2 : c.names_above.result ≡ true = c.names_above.ensures.1 own in cc) in
      absurd (
      along_not (NamesAbove c.args.states.now) (child_by c.args.graph.now c.args.state.now c.args.from) (near_by c.args.deadline c.args.from) (out_edges c.args.graph.now c.args.from.vertex)
      c.args.numbers.now c.loop-k.k c.loop-k.next no_edge x (omega (arith, c.loop-k-test.true, c.out_degree-k-end.ensures)) c.out_edge-edge.ensures t
      c.if-next-numbers.false fails c.loop-k.invariant fit
      ),
)

pub loop-k-preserved : goal.loop-k-preserved
loop-k-preserved c =
    let x = c.out_edge-edge.result.now in
    let n = get_or c.args.numbers.now c.loop-k.next 0 in
    let t : nat_lt (c.args.from.offset + x.sep) c.args.deadline ≡ true = lt-ltb (c.args.from.offset + x.sep) c.args.deadline (c.is_near.ensures.0 c.if-not-is_near.false) in
    let here : NamesAbove c.args.states.now (child_by c.args.graph.now c.args.state.now c.args.from x) n
    = subst (λ (v : Vertex). NamesAbove c.args.states.now (child_at c.args.state.now c.args.from.place x.to (c.args.from.offset + x.sep) (c.args.state.now.work + v.wcet)) n) c.vertex.ensures
    (c.names_above.ensures.0 c.if-not-names_above.false) in
    along_take (NamesAbove c.args.states.now) (child_by c.args.graph.now c.args.state.now c.args.from) (near_by c.args.deadline c.args.from)
    (out_edges c.args.graph.now c.args.from.vertex) c.args.numbers.now
    c.loop-k.k c.loop-k.next no_edge x (omega (arith, c.loop-k-test.true, c.out_degree-k-end.ensures)) c.out_edge-edge.ensures t c.if-next-numbers.false here c.loop-k.invariant

pub returns : goal.returns
returns c = (
  λ e.
      along_end (NamesAbove c.args.states.now) (child_by c.args.graph.now c.args.state.now c.args.from) (near_by c.args.deadline c.args.from)
      (out_edges c.args.graph.now c.args.from.vertex) c.args.numbers.now
      c.loop-k.k c.loop-k.next (omega (arith, c.loop-k-test.false, c.out_degree-k-end.ensures)) c.loop-k.invariant (eqb-true c.loop-k.next (length c.args.numbers.now) e),
  λ fit.
      let same : c.loop-k.next ≡ length c.args.numbers.now
      = along_over (NamesAbove c.args.states.now) (child_by c.args.graph.now c.args.state.now c.args.from) (near_by c.args.deadline c.args.from) (out_edges c.args.graph.now c.args.from.vertex)
      c.args.numbers.now c.loop-k.k c.loop-k.next (omega (arith, c.loop-k-test.false, c.out_degree-k-end.ensures)) c.loop-k.invariant fit in
      equal c.loop-k.next (length c.args.numbers.now) same,
)
