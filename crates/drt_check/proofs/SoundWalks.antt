-- The work of walks, one for each task, task by task.
use Rattle.std.proofs.Common.{◌≡◌, ℕ, zero, suc, ◌+◌, List, ◌∷◌, refl, arith}
use Rattle.drt_model.specs.declared.tasks.Task.{Task}
use Rattle.drt_model.specs.Digraph.{digraph_of}
use Rattle.drt_model.specs.Walk.{work}
use Rattle.drt_busy.specs.Choice.{efforts}

pub efforts_none : (tasks : List Task) (walks : ℕ → List ℕ) → efforts tasks walks 0 ≡ 0
unfolding efforts
efforts_none tasks walks = refl

-- The work of the first task's walk, and that of the others'.
pub efforts_cons : (t : Task) (tasks : List Task) (walks : ℕ → List ℕ) (n : ℕ) → efforts (t ∷ tasks) walks (suc n) ≡ work (digraph_of t) (walks 0) + efforts tasks (λ k. walks (suc k)) n
unfolding efforts
efforts_cons t tasks walks zero = omega arith
efforts_cons t tasks walks (suc n) = omega (arith, efforts_cons t tasks walks n)
