-- Constants and horizons of worked sets, with their ratios and potentials.
use Rattle.std.proofs.Common.{◌≡◌, List, [], ◌∷◌, map, refl}
use Rattle.std.specs.Prelude.{codes, ℤ, pos}
use Rattle.drt_model.specs.Digraph.{Digraph, digraph_of}
use Rattle.drt_graph.specs.Horizon.{most_to, constant_of, extra, horizon}
use Rattle.drt_model.specs.Utilisation.{Fraction, rate}
use Rattle.drt_rows.proofs.Sets.{looped, lone, short, two_vertices, three_of_ten, two_of_ten, apart, engine_set}
use Rattle.drt_rows.proofs.UtilisationRows.{fraction}

abbrev pub zeros : List ℤ
zeros = pos 0 ∷ []

-- One vertex (2, 5) with a loop of 5: the constant is (5 * 2 - 0) + (0 - 2 * 5) = 0.
pub short_constant : constant_of (digraph_of short) 2 5 zeros ≡ pos 0
unfolding most_to
short_constant = refl

pub short_horizon : horizon 5 (digraph_of short ∷ []) (fraction 2 5 ∷ []) (zeros ∷ []) ≡ 0
unfolding most_to extra rate
short_horizon = refl

-- x (100, 1000) alone and y (1, 1) with a loop of 2: the ratio is 1/2, the potentials are 0, the greatest of 2 times an execution time is
-- 200 (of x), the greatest of less a deadline is -1 (of y). So the constant is 199, where no walk has twice its work more than 1 above its
-- deadline.
pub apart_constant : constant_of (digraph_of apart) 1 2 (pos 0 ∷ pos 0 ∷ []) ≡ pos 199
unfolding most_to
apart_constant = refl

pub apart_horizon : horizon 2 (digraph_of apart ∷ []) (fraction 1 2 ∷ []) ((pos 0 ∷ pos 0 ∷ []) ∷ []) ≡ 197
unfolding most_to extra rate
apart_horizon = refl

-- One vertex (5, 5) alone: K is 5, and H is 4.
pub lone_horizon : horizon 1 (digraph_of (lone (codes "T") 1 5 5) ∷ []) (fraction 0 1 ∷ []) (zeros ∷ []) ≡ 4
unfolding most_to extra rate
lone_horizon = refl

-- (2, 4) with a loop of 5 and (4, 7) with a loop of 7: K is 14, below L, so that H is 0.
abbrev pub close : List Digraph
close = digraph_of (looped (codes "T1") 1 2 4 5) ∷ digraph_of (looped (codes "T2") 2 4 7 7) ∷ []

pub close_extra : extra 35 close (fraction 2 5 ∷ fraction 4 7 ∷ []) (zeros ∷ zeros ∷ []) ≡ 14
unfolding most_to extra
close_extra = refl

pub close_horizon : horizon 35 close (fraction 2 5 ∷ fraction 4 7 ∷ []) (zeros ∷ zeros ∷ []) ≡ 0
unfolding most_to extra rate
close_horizon = refl

-- The two vertices a (1, 2) and b (4, 6), beside (2, 4) with a loop of 10: K is 22 and H is 4; beside (3, 4) they are 28 and 9.
pub light_extra : extra 10 (digraph_of two_vertices ∷ digraph_of two_of_ten ∷ []) (fraction 1 2 ∷ fraction 1 5 ∷ []) ((pos 0 ∷ pos 6 ∷ []) ∷ zeros ∷ []) ≡ 22
unfolding most_to extra
light_extra = refl

pub light_horizon : horizon 10 (digraph_of two_vertices ∷ digraph_of two_of_ten ∷ []) (fraction 1 2 ∷ fraction 1 5 ∷ []) ((pos 0 ∷ pos 6 ∷ []) ∷ zeros ∷ []) ≡ 4
unfolding most_to extra rate
light_horizon = refl

pub heavy_extra : extra 10 (digraph_of two_vertices ∷ digraph_of three_of_ten ∷ []) (fraction 1 2 ∷ fraction 3 10 ∷ []) ((pos 0 ∷ pos 6 ∷ []) ∷ zeros ∷ []) ≡ 28
unfolding most_to extra
heavy_extra = refl

pub heavy_horizon : horizon 10 (digraph_of two_vertices ∷ digraph_of three_of_ten ∷ []) (fraction 1 2 ∷ fraction 3 10 ∷ []) ((pos 0 ∷ pos 6 ∷ []) ∷ zeros ∷ []) ≡ 9
unfolding most_to extra rate
heavy_horizon = refl

-- The set of the engine: L is 30, A is 17, K is 300 and H is 20.
abbrev pub engine_ratios : List Fraction
engine_ratios = fraction 4 15 ∷ fraction 1 5 ∷ fraction 1 10 ∷ []

abbrev pub engine_potentials : List (List ℤ)
engine_potentials = (pos 120 ∷ pos 60 ∷ pos 0 ∷ []) ∷ zeros ∷ zeros ∷ []

pub engine_rate : rate 30 engine_ratios ≡ 17
unfolding rate
engine_rate = refl

pub engine_extra : extra 30 (map digraph_of engine_set) engine_ratios engine_potentials ≡ 300
unfolding most_to extra
engine_extra = refl

pub engine_horizon : horizon 30 (map digraph_of engine_set) engine_ratios engine_potentials ≡ 20
unfolding most_to extra rate
engine_horizon = refl
