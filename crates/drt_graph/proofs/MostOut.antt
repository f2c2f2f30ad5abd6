-- The greatest number of edges out of a vertex is the least number that no vertex exceeds.
use Rattle.std.proofs.Common.{ℕ, zero, suc, ◌<◌, ◌≤◌, List, [], ◌∷◌, length, get_or, arith}
use Rattle.std.proofs.Math.Nat.{le-max_left, le-max_right}
use Rattle.drt_model.specs.declared.tasks.Edge.{Edge}
use Rattle.drt_graph.specs.Degrees.{most_out}

-- No row has more.
pub most_row : (rows : List (List Edge)) (v : ℕ) → length (get_or rows v []) ≤ most_out rows
most_row [] zero = omega arith
most_row [] (suc v) = omega arith
most_row (row ∷ rows) zero = le-max_left (length row) (most_out rows)
most_row (row ∷ rows) (suc v) =
    let h = most_row rows v in
    let m = le-max_right (length row) (most_out rows) in
    omega (arith, h, m)

-- What no row exceeds, it doesn't exceed.
pub most_least : (rows : List (List Edge)) (m : ℕ) → ((v : ℕ) → v < length rows → length (get_or rows v []) ≤ m) → most_out rows ≤ m
most_least [] m all = omega arith
most_least (row ∷ rows) m all = let here = all 0 (omega arith) in let rest = most_least rows m (λ v lt. all (suc v) (omega arith)) in omega (arith, here, rest)
