-- The labels of the last vertices are gathered.
use Rattle.std.proofs.Common.{◌-◌}
use Rattle.drt_model.specs.Digraph.{vertex_count}
use Rattle.drt_table.specs.View.{setting_of}
use Rattle.drt_edf_fronts.specs.Falling.{AreFalling, IsFromVertex}
use Rattle.drt_edf_fronts.proofs.fronts.front_of.Given as goal

abbrev pub invariant-vertices : goal.invariant-vertices
invariant-vertices l = AreFalling (setting_of l.table) (IsFromVertex (vertex_count l.graph - l.later)) l.front.items
