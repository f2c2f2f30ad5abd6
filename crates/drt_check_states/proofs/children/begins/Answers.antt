use Rattle.std.proofs.Common.{ℕ, get_or, arith, refl, subst, sym}
use Rattle.std.proofs.lemmas.List.FromFn.{length-map-range_with_len}
use Rattle.drt_model.specs.Digraph.{vertex_count}
use Rattle.drt_states.specs.States.{Child, NamesAbove, child_at}
use Rattle.drt_check_states.proofs.Splits.{child_plain}
use Rattle.drt_check_states.proofs.Zips.{zip_first, zip_firsts, zip_long}
use Rattle.drt_check_states.proofs.children.begins.Goals as goal

pub returns-then-numbers-count : goal.returns-then-numbers-count
returns-then-numbers-count c = (
  λ e. absurd (cc),
  λ all.
      let l = zip_long (NamesAbove c.args.states.now) _ c.args.numbers.now all in
      let m = length-map-range_with_len (λ (v : ℕ). child_at c.args.state.now c.args.place v 0 c.args.state.now.work) 0 (vertex_count c.args.graph.now) in
      absurd (omega (arith, l, m, c.if-numbers-count.true, c.vertex_count-count.ensures.count)),
)

pub returns-then-not-names_above : goal.returns-then-not-names_above
returns-then-not-names_above c = (
  λ e. absurd (cc),
  λ all.
      let n = get_or c.args.numbers.now c.loop-v.v 0 in
      let e = child_plain c.args.state.now (record { place = c.args.place; vertex = c.loop-v.v; offset = 0 }) in
      let here = zip_first (NamesAbove c.args.states.now) (λ (v : ℕ). child_at c.args.state.now c.args.place v 0 c.args.state.now.work) (vertex_count c.args.graph.now)
      c.args.numbers.now c.loop-v.v all
      (omega (arith, c.loop-v-test.true, c.vertex_count-count.ensures.count)) in
      let t = c.names_above.ensures.1 (subst (λ (k : Child). NamesAbove c.args.states.now k n) (sym e) here) in
      absurd (cc),
)

pub returns : goal.returns
returns c = (
  λ e. zip_firsts (NamesAbove c.args.states.now) (λ (v : ℕ). child_at c.args.state.now c.args.place v 0 c.args.state.now.work) (vertex_count c.args.graph.now) c.args.numbers.now
      (omega (arith, c.if-numbers-count.false, c.vertex_count-count.ensures.count)) (λ k h. c.loop-v.invariant k (omega (arith, h, c.loop-v-test.false, c.vertex_count-count.ensures.count))),
  λ all. refl,
)
