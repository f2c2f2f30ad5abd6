-- The releases of walks, from 0 on and as early as the separations allow, each with its whole execution time.
use Rattle.std.specs.Prelude.{ℕ, zero, suc, ◌+◌, if◌then◌else◌, nat_lt, ◌==◌, List, [], ◌∷◌, ◌++◌}
use Rattle.drt_model.specs.declared.jobs.Release.{Release}
use Rattle.drt_model.specs.declared.tasks.Task.{Task}
use Rattle.drt_model.specs.Digraph.{Digraph}
use Rattle.drt_model.specs.Walk.{gap, wcet}
use Rattle.drt_busy.specs.Choice.{graph_at, task_at}

-- The release of vertex u of task k at x.
abbrev pub release_at : Digraph → ℕ → ℕ → ℕ → Release
release_at g k x u = record { task = k; vertex = u; time = x; need = wcet g u }

-- The releases of the walk that starts at u, from x on.
unfoldable pub releases_from : Digraph → ℕ → ℕ → ℕ → List ℕ → List Release
releases_from g k x u [] = release_at g k x u ∷ []
releases_from g k x u (v ∷ vs) = release_at g k x u ∷ releases_from g k (x + gap g u v) v vs

-- The releases of a walk of task k.
abbrev pub releases_of : Digraph → ℕ → List ℕ → List Release
releases_of g k [] = []
releases_of g k (u ∷ vs) = releases_from g k 0 u vs

-- The releases of the walks of the first n tasks, in order of tasks.
unfoldable pub all_releases : List Task → (ℕ → List ℕ) → ℕ → List Release
all_releases tasks walks zero = []
all_releases tasks walks (suc k) = all_releases tasks walks k ++ releases_of (graph_at tasks k) k (walks k)

-- The walks of the tasks of a higher priority than task k, vertex v alone for task k, and none for the others.
unfoldable pub with_job : List Task → (ℕ → List ℕ) → ℕ → ℕ → ℕ → List ℕ
with_job tasks walks k v i =
    if nat_lt (task_at tasks i).priority (task_at tasks k).priority then walks i else (if i == k then v ∷ [] else [])
