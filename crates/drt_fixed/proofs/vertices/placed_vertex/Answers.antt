use Rattle.std.proofs.Common.{refl}
use Rattle.drt_fixed.proofs.vertices.placed_vertex.Goals as goal

pub vertex-job-requires : goal.vertex-job-requires
vertex-job-requires c = c.requires

pub returns-clause-place : goal.returns-clause-place
returns-clause-place c = refl
