-- Walks of the graph of two vertices: their work, their span, cycles, gains, and the canonical potentials.
use Rattle.std.proofs.Common.{◌≡◌, [], ◌∷◌, Some, None, refl}
use Rattle.std.specs.Prelude.{pos, negsuc}
use Rattle.drt_model.specs.Digraph.{Digraph, digraph_of}
use Rattle.drt_model.specs.Walk.{sep, sep_in, or_zero, work, span, IsPath, IsCycle, cycle_span}
use Rattle.drt_graph.specs.Potential.{gain}
use Rattle.drt_rows.proofs.Sets.{two_vertices}

-- The graph of a (1, 2) and b (4, 6) with the edges a-b 2, b-a 8 and a-a 5.
abbrev pub g : Digraph
g = digraph_of two_vertices

-- There is an edge from b to a, and none from b to b.
pub edge_ba : sep g 1 0 ≡ Some 8
unfolding sep_in
edge_ba = refl

pub no_edge_bb : sep g 1 1 ≡ None
unfolding sep_in
no_edge_bb = refl

-- The walk a b a has the work 6 and the span 10.
pub walk_aba : IsPath g 0 (1 ∷ 0 ∷ [])
unfolding sep_in or_zero
walk_aba = (refl, (refl, tt))

pub work_aba : work g (0 ∷ 1 ∷ 0 ∷ []) ≡ 6
unfolding work
work_aba = refl

pub span_aba : span g 0 (1 ∷ 0 ∷ []) ≡ 10
unfolding span sep_in or_zero
span_aba = refl

-- The cycle a b has the work 5 and, with its closing edge, the span 10.
pub cycle_ab : IsCycle g (0 ∷ 1 ∷ [])
unfolding sep_in or_zero
cycle_ab = (refl, (refl, tt))

pub cycle_work : work g (0 ∷ 1 ∷ []) ≡ 5
unfolding work
cycle_work = refl

pub cycle_span_ab : cycle_span g (0 ∷ 1 ∷ []) ≡ 10
unfolding span sep_in or_zero
cycle_span_ab = refl

-- At the ratio 1 / 2 the walk a b gains 2 * 4 - 1 * 2 = 6, and a a loses 3.
pub gain_ab : gain g 1 2 0 (1 ∷ []) ≡ pos 6
unfolding work span sep_in or_zero
gain_ab = refl

pub gain_aa : gain g 1 2 0 (0 ∷ []) ≡ negsuc 2
unfolding work span sep_in or_zero
gain_aa = refl
