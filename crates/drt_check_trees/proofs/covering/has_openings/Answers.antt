use Rattle.std.proofs.Common.{◌≡◌, ℕ, ◌<◌, inl, inr, [], true, ap, arith, subst, ◌∙◌}
use Rattle.std.specs.Prelude.{Any}
use Rattle.std.proofs.lemmas.Bool.{cases_lt}
use Rattle.drt_model.specs.Digraph.{vertex_count}
use Rattle.drt_model.specs.declared.tasks.Vertex.{Vertex}
use Rattle.drt_claims.specs.Trees.{IsAbove}
use Rattle.drt_check_trees.proofs.Extending.{short_opening, span_opening, work_opening}
use Rattle.drt_check_trees.proofs.covering.has_openings.Goals as goal

pub has_above-requires-clause-walk : goal.has_above-requires-clause-walk
has_above-requires-clause-walk c =
    short_opening c.args.bounded.now.graph.now c.args.bounded.now.bound c.loop-v.v c.requires.from (omega (arith, c.loop-v-test.true, c.vertex_count-v-end.ensures.count))

pub has_above-requires-clause-span : goal.has_above-requires-clause-span
has_above-requires-clause-span c = span_opening c.args.bounded.now.graph.now c.loop-v.v

pub has_above-requires-clause-work : goal.has_above-requires-clause-work
has_above-requires-clause-work c = ap (λ (x : Vertex). x.wcet) c.vertex.ensures ∙ work_opening c.args.bounded.now.graph.now c.loop-v.v

pub returns-then-not-has_above : goal.returns-then-not-has_above
returns-then-not-has_above c = (
  λ e. absurd (cc),
  λ each.
      let l : c.loop-v.v < vertex_count c.args.bounded.now.graph.now = omega (arith, c.loop-v-test.true, c.vertex_count-v-end.ensures.count) in
      let r : c.has_above.result ≡ true = c.has_above.ensures.1 (each c.loop-v.v l) in
      absurd (cc),
)

pub loop-v-preserved : goal.loop-v-preserved
loop-v-preserved c = λ w l.
    let r : c.has_above.result ≡ true = cc in
    let here = c.has_above.ensures.0 r in
    elim (cases_lt w c.loop-v.v) [
      | inl q ↦ c.loop-v.invariant w q
      | inr q ↦ (
          let e : c.loop-v.v ≡ w = omega (arith, l, q) in
          subst (λ (n : ℕ). Any (IsAbove c.args.bounded.now.bound c.args.bounded.now.graph.now n []) c.args.catalogue.now.tree.now.walks) e here)
    ]
