-- Walks of the places of a search, with what they ask for.
use Rattle.std.specs.Prelude.{◌≡◌, ℕ, ◌≤◌, List, length}
use Rattle.std.specs.List.{AllZip}
use Rattle.drt_model.specs.Digraph.{Digraph}
use Rattle.drt_model.specs.Walk.{IsWalk}
use Rattle.drt_states_laws.specs.Laws.{asked_together}
use Rattle.drt_steps.specs.Time.{AreChosen, sum_at}
use Rattle.drt_sp_states.specs.declared.trials.Pool.{Pool}
use Rattle.drt_sp_states.specs.declared.trials.Trial.{Trial}
use Rattle.drt_sp_states.specs.declared.trials.Trial.TheVariants.{Misses, Passes, Broken}
use Rattle.drt_sp_states.specs.Misses.{AreMissing, AreReachingWalks}

-- There is one walk of each graph, and the chosen functions together are what the walks ask for.
pub record ArePooled (deadline : ℕ) (graphs : List Digraph) (pool : Pool) : Type 0 where
  pub count : length pool.functions.items ≡ length graphs
  pub numbers : length pool.chosen.items ≡ length graphs
  pub each : AllZip IsWalk graphs pool.walks.items
  pub chosen : AreChosen deadline pool.functions.items pool.chosen.items
  pub sums : (t : ℕ) → 1 ≤ t → t ≤ deadline → sum_at pool.functions.items pool.chosen.items t ≡ asked_together graphs pool.walks.items t

-- What is said of a trial: where it misses, no time passes, and else this is the least one that does.
abbrev pub IsTrialAnswer : List Digraph → ℕ → ℕ → Trial → Type 0
IsTrialAnswer graphs wcet deadline (Misses walks) = AreMissing graphs wcet deadline walks
IsTrialAnswer graphs wcet deadline (Passes time pool) = AreReachingWalks graphs wcet deadline time pool.walks.items
IsTrialAnswer graphs wcet deadline Broken = Unit {0}
