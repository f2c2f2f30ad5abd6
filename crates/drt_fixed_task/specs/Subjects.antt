-- What the searches of the vertices of a task are given, and the subject of each.
use Rattle.std.specs.Prelude.{◌≡◌, ℕ, ◌<◌, ◌≤◌, length, map}
use Rattle.drt_model.specs.Digraph.{vertex_count}
use Rattle.drt_model.specs.Walk.{deadline, wcet}
use Rattle.drt_busy.specs.Choice.{graph_at}
use Rattle.drt_claims.specs.Claims.{graphs_of}
use Rattle.drt_check_states.specs.Crests.{AreCrests}
use Rattle.drt_check_states.specs.Places.{graphs_at}
use Rattle.drt_sp_states.specs.declared.places.Subject.{Subject}
use Rattle.drt_fixed_task.specs.Higher.{higher_tasks}
use Rattle.drt_fixed_task.specs.Tails.{AreTails}
use Rattle.drt_fixed_task.specs.declared.subjects.Given.{Given}

-- The numbers are those of the tasks of higher priority; the tails bound what their walks ask for up to a bound, which no deadline of the task
-- is past; and the crests are those of the tails.
pub record IsTaskGiven (g : Given) : Type 0 where
  pub task : g.task < length g.set.now.tasks
  pub higher : g.higher.now ≡ higher_tasks g.set.now.tasks g.task
  pub tails : AreTails g.bound (graphs_at (graphs_of g.set.now.tasks) g.higher.now) g.tails.now
  pub crests : AreCrests g.tails.now g.crests.now
  pub near : (v : ℕ) → v < vertex_count (graph_at g.set.now.tasks g.task) → deadline (graph_at g.set.now.tasks g.task) v ≤ g.bound

-- The subject has the graphs and the tails of the tasks of higher priority, and the numbers of vertex v of the task.
pub record IsTaskSubject (g : Given) (v : ℕ) (s : Subject) : Type 0 where
  pub graphs : graphs_at s.graphs.now s.order.now ≡ map (graph_at g.set.now.tasks) (higher_tasks g.set.now.tasks g.task)
  pub tails : s.tails.now ≡ g.tails.now
  pub wcet : s.wcet ≡ wcet (graph_at g.set.now.tasks g.task) v
  pub deadline : s.deadline ≡ deadline (graph_at g.set.now.tasks g.task) v
