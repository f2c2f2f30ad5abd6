-- The scales of the generated sets.
use Rattle.std.specs.Prelude.{ℕ, ◌*◌, ◌≤◌, List, map}
use Rattle.drt_model.specs.Digraph.{digraph_of}
use Rattle.drt_model.specs.Utilisation.{Fraction, AreRatios, IsScale}
use Rattle.drt_gen.specs.Generated.{generated}

-- No generated set has a greater scale: the least common multiple of 1 to 24, times that of the periods.
abbrev pub most_drawn_scale : ℕ
most_drawn_scale = 5354228880 * 1200

-- The scale of each generated set is at most that.
abbrev pub AreAllSmall : Type 0
AreAllSmall = (number scale : ℕ) (ratios : List Fraction) → AreRatios (map digraph_of (generated number).tasks) ratios → IsScale ratios scale → scale ≤ most_drawn_scale
