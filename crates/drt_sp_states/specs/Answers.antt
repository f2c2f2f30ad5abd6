-- What is said of a search's answer.
use Rattle.std.specs.Prelude.{ℕ, ◌+◌, ◌<◌, ◌≤◌, List}
use Rattle.std.specs.List.{AllZip}
use Rattle.drt_model.specs.Digraph.{Digraph}
use Rattle.drt_model.specs.Walk.{IsWalk}
use Rattle.drt_states.specs.declared.claims.StateClaim.{StateClaim}
use Rattle.drt_states.specs.declared.claims.TailClaim.{TailClaim}
use Rattle.drt_states.specs.States.{AreStates, HaveDominatedChildren, HavePassingTimes}
use Rattle.drt_states_laws.specs.Laws.{asked_together}
use Rattle.drt_sp_states.specs.Misses.{AreMissing}
use Rattle.drt_sp_states.specs.declared.response.Responded.{Responded}
use Rattle.drt_sp_states.specs.declared.response.Responded.TheVariants as responses
use Rattle.drt_sp_states.specs.declared.search.Searched.{Searched}
use Rattle.drt_sp_states.specs.declared.search.Searched.TheVariants.{Passes, Misses, Spent}

-- The states keep the rules of a search.
pub record ArePassing (graphs : List Digraph) (tails : List TailClaim) (wcet deadline : ℕ) (states : List StateClaim) : Type 0 where
  pub are : AreStates graphs states
  pub times : HavePassingTimes deadline wcet tails states
  pub children : HaveDominatedChildren graphs deadline states

-- A yes has states that keep the rules, and a no has walks for which no time passes.
abbrev pub IsSearchedAnswer : List Digraph → List TailClaim → ℕ → ℕ → Searched → Type 0
IsSearchedAnswer graphs tails wcet deadline (Passes states) = ArePassing graphs tails wcet deadline states
IsSearchedAnswer graphs tails wcet deadline (Misses walks) = AreMissing graphs wcet deadline walks
IsSearchedAnswer graphs tails wcet deadline Spent = Unit {0}

-- There is one walk of each graph, and the number is the least time that has room for the job and for what the walks ask for before it.
-- The states show that some time up to the number has room whatever the walks are. Their children are released before a bound.
pub record AreWorst (graphs : List Digraph) (tails : List TailClaim) (wcet deadline ticks : ℕ) (walks : List (List ℕ)) : Type 0 where
  pub each : AllZip IsWalk graphs walks
  pub some : 1 ≤ ticks
  pub fits : wcet + asked_together graphs walks ticks ≤ ticks
  pub none : (t : ℕ) → 1 ≤ t → t < ticks → t < wcet + asked_together graphs walks t
  pub bound : ℕ
  pub within : ticks ≤ bound
  pub near : bound ≤ deadline
  pub states : List StateClaim
  pub are : AreStates graphs states
  pub times : HavePassingTimes ticks wcet tails states
  pub children : HaveDominatedChildren graphs bound states

-- A greatest response has walks that reach it, and states that show that none is greater.
abbrev pub IsRespondedAnswer : List Digraph → List TailClaim → ℕ → ℕ → Responded → Type 0
IsRespondedAnswer graphs tails wcet deadline (responses.Reached ticks walks) = AreWorst graphs tails wcet deadline ticks walks
IsRespondedAnswer graphs tails wcet deadline responses.Spent = Unit {0}
