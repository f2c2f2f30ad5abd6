-- The demand of a time over a list of labels (the demand bound function of Stigge, Ekberg, Guan and Yi, RTAS 2011).
use Rattle.std.specs.Prelude.{ℕ, List}
use Rattle.drt_model.specs.Digraph.{Digraph}
use Rattle.drt_graph.specs.FrontEntry.{due}
use Rattle.drt_sweep.specs.Dues.{greatest_due}
use Rattle.drt_graph.specs.declared.front.FrontEntry.{FrontEntry}

-- The greatest work among the labels whose offset and deadline are at most t, and 0 where there is none.
abbrev pub dbf_at : Digraph → List FrontEntry → ℕ → ℕ
dbf_at g xs t = greatest_due (due g) (λ x. x.work) xs t
