-- What other priorities leave as it was.
use Rattle.std.specs.Prelude.{◌≡◌, ◌↔◌, ℕ, List, length, map}
use Rattle.drt_model.specs.declared.jobs.Release.{Release}
use Rattle.drt_model.specs.declared.tasks.Task.{Task}
use Rattle.drt_model.specs.Constrained.{AreConstrained}
use Rattle.drt_model.specs.Digraph.{digraph_of}
use Rattle.drt_model.specs.Legal.{IsLegal}
use Rattle.drt_model.specs.Limits.{IsTaskSet}
use Rattle.drt_priorities.specs.Priorities.{ArePriorities, prioritised}

-- A set within the limits of either version, with distinct priorities in range, is within those of version 2.
abbrev pub PrioritiesKeepLimits : Type 0
PrioritiesKeepLimits =
    (version : ℕ) (tasks : List Task) (priorities : List ℕ) → IsTaskSet version tasks → ArePriorities (length tasks) priorities
    → IsTaskSet 2 (prioritised tasks priorities)

-- There are as many tasks as before, with the same graphs, so with the same vertices and edges.
abbrev pub PrioritiesKeepGraphs : Type 0
PrioritiesKeepGraphs =
    (tasks : List Task) (priorities : List ℕ)
    → (length (prioritised tasks priorities) ≡ length tasks) × (map digraph_of (prioritised tasks priorities) ≡ map digraph_of tasks)

-- Deadlines are constrained exactly where they were.
abbrev pub PrioritiesKeepConstraints : Type 0
PrioritiesKeepConstraints = (tasks : List Task) (priorities : List ℕ) → AreConstrained (prioritised tasks priorities) ↔ AreConstrained tasks

-- The same releases are legal.
abbrev pub PrioritiesKeepLegality : Type 0
PrioritiesKeepLegality =
    (tasks : List Task) (priorities : List ℕ) (releases : List Release) → IsLegal (prioritised tasks priorities) releases ↔ IsLegal tasks releases

-- Of two lists of priorities for all tasks the last one counts, and the priorities that the tasks have change nothing.
abbrev pub PrioritiesUndo : Type 0
PrioritiesUndo =
    (tasks : List Task)
    → ((first last : List ℕ) → length last ≡ length tasks → prioritised (prioritised tasks first) last ≡ prioritised tasks last)
    × (prioritised tasks (map (λ t. t.priority) tasks) ≡ tasks)
