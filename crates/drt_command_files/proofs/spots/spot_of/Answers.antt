use Rattle.drt_command_files.proofs.SpotLemmas.{no_task_spot, no_vertex_spot}
use Rattle.drt_command_files.proofs.spots.spot_of.Goals as goal

pub returns-in_err-k : goal.returns-in_err-k
returns-in_err-k c =
    rw c.from_residual.ensures (λ k v s. no_task_spot c.args.set.now.tasks c.args.task.now c.args.vertex.now (rw c.tasks.ensures.tasks at c.in_err-k.ensures) k v s)

pub returns-in_err-v : goal.returns-in_err-v
returns-in_err-v c =
    rw c.from_residual-in_err-v.ensures
    (λ l v s. no_vertex_spot c.args.set.now.tasks c.args.task.now c.args.vertex.now c.in_ok-k.k c.in_ok-k.of.now (rw c.tasks.ensures.tasks at c.in_ok-k.ensures)
    (rw c.as_slice.ensures at c.in_err-v.ensures) l v s)

pub returns : goal.returns
returns c = record {
  of = c.in_ok-k.of.now;
  task_is = rw c.tasks.ensures.tasks at c.in_ok-k.ensures;
  at = c.in_ok-v.ensures.0;
  vertex_is = rw c.as_slice.ensures at c.in_ok-v.ensures.1;
}
