-- The constants and the horizon of a set with ratios and potentials.
use Rattle.std.specs.Prelude.{ℕ, zero, suc, ◌+◌, ◌-◌, ◌*◌, ◌/◌, ℤ, pos, negsuc, ◌+ℤ◌, ◌-ℤ◌, List, [], ◌∷◌}
use Rattle.std.specs.Int.{int_max}
use Rattle.drt_model.specs.Digraph.{Digraph, vertex_count}
use Rattle.drt_model.specs.Walk.{wcet, deadline}
use Rattle.drt_graph.specs.Potential.{potential_of}
use Rattle.drt_model.specs.Utilisation.{Fraction, rate}

-- The greatest of f 0, .., f n.
unfoldable pub most_to : (ℕ → ℤ) → ℕ → ℤ
most_to f zero = f 0
most_to f (suc n) = int_max (most_to f n) (f (suc n))

-- The greatest of f at the vertices of a graph.
abbrev pub most_over : Digraph → (ℕ → ℤ) → ℤ
most_over g f = most_to f (vertex_count g - 1)

-- The constant of a task with the ratio a / b and potentials: the greatest of b times an execution time less its potential, plus
-- the greatest of a potential less a times a deadline. Summed along a walk, the rule on potentials gives that b times the walk's
-- work is at most a times its last deadline plus this constant.
abbrev pub constant_of : Digraph → ℕ → ℕ → List ℤ → ℤ
constant_of g a b hs = most_over g (λ u. pos (b * wcet g u) -ℤ potential_of hs u) +ℤ most_over g (λ w. potential_of hs w -ℤ pos (a * deadline g w))

-- The number, or 0 where it is negative.
abbrev pub above_zero : ℤ → ℕ
above_zero (pos n) = n
above_zero (negsuc n) = 0

-- The constant K of a set at a scale: the sum of the tasks' constants above 0, each times the scale over its denominator.
unfoldable pub extra : ℕ → List Digraph → List Fraction → List (List ℤ) → ℕ
extra scale [] ratios potentials = 0
extra scale (g ∷ graphs) [] potentials = 0
extra scale (g ∷ graphs) (r ∷ ratios) [] = 0
extra scale (g ∷ graphs) (r ∷ ratios) (hs ∷ potentials) =
    above_zero (constant_of g r.num r.den hs) * (scale / r.den) + extra scale graphs ratios potentials

-- The horizon H of a set whose rate is below its scale. (A difference of these numbers is 0 where it would be negative.)
abbrev pub horizon : ℕ → List Digraph → List Fraction → List (List ℤ) → ℕ
horizon scale graphs ratios potentials = (extra scale graphs ratios potentials - scale) / (scale - rate scale ratios)
