-- No separation so far is less, and no greater number is at most each of them.
use Rattle.std.proofs.Common.{ℕ, ◌<◌, ◌≤◌}
use Rattle.drt_model.specs.Digraph.{edge_of}
use Rattle.drt_wave.proofs.plan.least_out.Given as goal

abbrev pub invariant-edges : goal.invariant-edges
invariant-edges l = (0 < l.least) × (l.least ≤ l.fn.most) × ((j : ℕ) → j < l.k → l.least ≤ (edge_of l.graph l.v j).sep)
    × ((n : ℕ) → n ≤ l.fn.most → ((j : ℕ) → j < l.k → n ≤ (edge_of l.graph l.v j).sep) → n ≤ l.least)
