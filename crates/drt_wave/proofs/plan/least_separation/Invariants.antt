-- No separation out of a vertex so far is less, and no greater number is at most each of them.
use Rattle.std.proofs.Common.{ℕ, ◌<◌, ◌≤◌}
use Rattle.drt_model.specs.Digraph.{out_degree, edge_of}
use Rattle.drt_wave.proofs.plan.least_separation.Given as goal

abbrev pub invariant-vertices : goal.invariant-vertices
invariant-vertices l = (0 < l.least) × (l.least ≤ l.fn.most) × ((u j : ℕ) → u < l.v → j < out_degree l.graph u → l.least ≤ (edge_of l.graph u j).sep)
    × ((n : ℕ) → n ≤ l.fn.most → ((u j : ℕ) → u < l.v → j < out_degree l.graph u → n ≤ (edge_of l.graph u j).sep) → n ≤ l.least)
