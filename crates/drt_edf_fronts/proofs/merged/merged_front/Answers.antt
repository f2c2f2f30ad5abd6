use Rattle.std.proofs.Common.{ℕ, List, Option, Some, None}
use Rattle.std.specs.Prelude.{IfSome}
use Rattle.drt_model.specs.Digraph.{Digraph, IsSoundGraph}
use Rattle.drt_graph.specs.declared.front.FrontEntry.{FrontEntry}
use Rattle.drt_claims.specs.Ranges.{IsCounted}
use Rattle.drt_merge.specs.Gathered.{IsMergedFront}
use Rattle.drt_edf_fronts.specs.LabelFronts.{IsLabelFront}
use Rattle.drt_edf_fronts.proofs.WaveFronts.{wave_front_is}
use Rattle.drt_edf_fronts.proofs.merged.merged_front.Goals as goal

label_front : (g : Digraph) (bound : ℕ) → IsSoundGraph g → (o : Option (List FrontEntry)) → IfSome o (IsMergedFront g bound) → IfSome o (IsLabelFront g bound)
label_front g bound sound None h = tt
label_front g bound sound (Some front) m = wave_front_is g bound sound front m.ordered m.exact m.covers

counted_front : (g : Digraph) (bound : ℕ) (o : Option (List FrontEntry)) → IfSome o (IsMergedFront g bound) → IfSome o IsCounted
counted_front g bound None h = tt
counted_front g bound (Some front) m = m.counted

pub returns-clause-front : goal.returns-clause-front
returns-clause-front c = label_front c.args.graph.now c.args.bound c.keep_limits.ensures c.in_ok-merged.merged c.in_ok-merged.ensures

pub returns-clause-counted : goal.returns-clause-counted
returns-clause-counted c = counted_front c.args.graph.now c.args.bound c.in_ok-merged.merged c.in_ok-merged.ensures
