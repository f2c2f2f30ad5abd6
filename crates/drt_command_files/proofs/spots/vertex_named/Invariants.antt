-- No vertex so far has the name.
use Rattle.std.proofs.Common.{◌≡◌, ℕ, ◌<◌, Some, slice_get}
use Rattle.drt_model.specs.declared.tasks.Vertex.{Vertex}
use Rattle.drt_command_files.proofs.spots.vertex_named.Given as goal

abbrev pub invariant-loop-v : goal.invariant-loop-v
invariant-loop-v l = (i : ℕ) (w : Vertex) → i < l.v → slice_get l.vertices i ≡ Some w → w.name ≡ l.name → ⊥
