-- A budget that is enough isn't spent, and one that was spent stops a search that could go on.
use Rattle.std.specs.Prelude.{ℕ, ◌<◌, List, [], ◌∷◌, ◌++◌}
use Rattle.drt_model.specs.Contents.{Contents}
use Rattle.drt_model.specs.Digraph.{Digraph, IsSoundGraph}
use Rattle.drt_model.specs.Limits.{IsTaskSet}
use Rattle.drt_request.specs.Request.{request_algebra}
use Rattle.drt_table.specs.Machine.{IsRun, search_of}
use Rattle.drt_table.specs.declared.step.Entry.{Entry}
use Rattle.drt_trails.specs.declared.FixedTrail.{FixedTrail}
use Rattle.drt_sp.specs.Answers.{IsTreeUndecided}
use Rattle.drt_sp.specs.Needs.{IsEnoughForTrees}
use Rattle.drt_sp.specs.TreeClaims.{IsSpentWalkSearch}

-- Where there is no answer, since a budget was spent, that budget isn't enough.
abbrev pub BudgetsSuffice : Type 0
BudgetsSuffice = (set : Contents) (budget : ℕ) (spent : FixedTrail) → IsTaskSet set.version set.tasks → IsTreeUndecided set budget spent → IsEnoughForTrees set.tasks budget → ⊥

-- Where a search of a graph's walks spent its budget, its steps and one more are steps of the search under any greater one.
abbrev pub SearchesGoOn : Type 0
SearchesGoOn =
    (g : Digraph) (bound budget more : ℕ) (log : List Entry) → IsSoundGraph g → IsSpentWalkSearch g bound budget log → budget < more
    → (entry : Entry) × IsRun request_algebra (search_of g bound more) (log ++ entry ∷ [])
