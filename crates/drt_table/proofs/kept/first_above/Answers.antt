use Rattle.std.proofs.Common.{◌≡◌, ◌<◌, false, sym, ◌∙◌, subst}
use Rattle.drt_table.proofs.kept.first_above.Goals as goal

pub first_in_chain-requires-clause-chain : goal.first_in_chain-requires-clause-chain
first_in_chain-requires-clause-chain g c κs within = sym c.is_chain.ensures ∙ c.if-is_chain.true

pub first_told-requires-clause-sampled : goal.first_told-requires-clause-sampled
first_told-requires-clause-sampled g c κs within = (c.requires.sampled (sym c.is_chain.ensures ∙ c.if-is_chain.false)).sampled

pub first_told-requires-clause-vertex : goal.first_told-requires-clause-vertex
first_told-requires-clause-vertex g c κs within =
    subst (λ n. g.L.Label.algebra.vertex c.args.label.now < n) (sym (c.requires.sampled (sym c.is_chain.ensures ∙ c.if-is_chain.false)).vertices_are) c.requires.vertex
