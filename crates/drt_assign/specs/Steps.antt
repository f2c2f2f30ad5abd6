-- The steps of the rule, as the parts of `assign` see them.
use Rattle.std.specs.Prelude.{◌≡◌, ℕ, ◌<◌, List, None, Some, All, length, slice_index, slice_index_or}
use Rattle.drt_model.specs.declared.tasks.Task.{Task}
use Rattle.drt_model.specs.Constrained.{AreConstrained}
use Rattle.drt_model.specs.Contents.{Contents}
use Rattle.drt_model.specs.Digraph.{Digraph}
use Rattle.drt_model.specs.Limits.{IsTaskSet}
use Rattle.drt_claims.specs.Claims.{graphs_of}
use Rattle.drt_priorities.specs.Priorities.{prioritised}
use Rattle.drt_sp.specs.Answers.{IsTreeUndecided}
use Rattle.drt_sp_task.specs.Task.{IsTaskAnswer}
use Rattle.drt_sp_task.specs.declared.answer.TaskAnswer.{TaskAnswer}
use Rattle.drt_assign.specs.Assign.{AreStuck, IsEndSpent, IsEndStuck, IsSpentAtTask, IsYesOf, with_priorities}
use Rattle.drt_assign.specs.Rule.{AreRanks, FollowRule, IsFirstPassing, IsTrialPriorities}
use Rattle.drt_assign.specs.declared.ahead.Ahead.{Ahead}
use Rattle.drt_assign.specs.declared.answer.AssignAnswer.{AssignAnswer}
use Rattle.drt_assign.specs.declared.answer.AssignAnswer.TheVariants as answers
use Rattle.drt_assign.specs.declared.ranking.Ranking.{Ranking}
use Rattle.drt_assign.specs.declared.ranking.Ranking.TheVariants as rankings
use Rattle.drt_assign.specs.declared.rounds.Round.{Round}
use Rattle.drt_assign.specs.declared.rounds.Round.TheVariants as rounds

-- What stays over all steps: the tasks of the file keep the limits of a version and have constrained deadlines; the graphs are theirs; and
-- there are priorities for all of them.
pub record IsCourse (tasks : List Task) (graphs : List Digraph) (old : List ℕ) : Type 0 where
  pub version : ℕ
  pub limits : IsTaskSet version tasks
  pub constrained : AreConstrained tasks
  pub graphs_are : graphs ≡ graphs_of tasks
  pub as_many : length old ≡ length tasks

-- With their old priorities the tasks of the set are those of the file.
abbrev pub IsOfFile : List Task → List ℕ → Contents → Type 0
IsOfFile tasks old set = prioritised set.tasks old ≡ tasks

-- Task k was tried: the set has priorities for it, and the answer is said of the task in that set.
pub record IsTaskTried (tasks : List Task) (ranks : List ℕ) (m k budget : ℕ) (set : Contents) (answer : TaskAnswer) : Type 0 where
  pub priorities : List ℕ
  pub trial : IsTrialPriorities ranks m k priorities
  pub set_is : set ≡ with_priorities tasks priorities
  pub says : IsTaskAnswer set budget k answer

-- These are open tasks.
abbrev pub AreOpen : List ℕ → List ℕ → Type 0
AreOpen ranks ks = All (λ k. (k < length ranks) × (slice_index ranks k ≡ 0)) ks

-- What was found ahead is said of the task at its place.
abbrev pub AreTrialsAhead : List Task → List ℕ → ℕ → ℕ → Ahead → Type 0
AreTrialsAhead tasks ranks m budget ahead =
    (i : ℕ) (r : Contents × TaskAnswer) → slice_index_or ahead.found.items i None ≡ Some r → IsTaskTried tasks ranks m (slice_index ahead.tasks.items i) budget r.0 r.1

-- An open task that has the rank m by the rule.
pub record IsNextRanked (tasks : List Task) (ranks : List ℕ) (m k : ℕ) : Type 0 where
  pub task : k < length tasks
  pub is_open : slice_index ranks k ≡ 0
  pub first : IsFirstPassing tasks ranks m k

-- What a round says, with m open tasks; the set has the tasks of the file, but for their priorities.
abbrev pub IsRoundAnswer : List Task → List ℕ → List ℕ → ℕ → ℕ → Round → Type 0
IsRoundAnswer tasks old ranks m budget (rounds.Found set k) = IsOfFile tasks old set × IsNextRanked tasks ranks m k
IsRoundAnswer tasks old ranks m budget (rounds.AllStuck set stuck) = IsOfFile tasks old set × AreStuck tasks ranks m stuck
IsRoundAnswer tasks old ranks m budget (rounds.Spent set k trail) = IsOfFile tasks old set × IsSpentAtTask tasks ranks m budget k trail

-- What the rounds say together: each task has a rank by the rule, or a round ended the search.
abbrev pub IsRanking : List Task → List ℕ → ℕ → Ranking → Type 0
IsRanking tasks old budget (rankings.Whole set ranks) = IsOfFile tasks old set × AreRanks (length tasks) 0 ranks × FollowRule tasks ranks
IsRanking tasks old budget (rankings.AllStuck set stuck) = IsOfFile tasks old set × IsEndStuck tasks stuck
IsRanking tasks old budget (rankings.Spent set higher k trail) = IsOfFile tasks old set × IsEndSpent tasks budget higher k trail

-- What the analysis of a schedulable set says.
abbrev pub IsAnalysis : Contents → ℕ → AssignAnswer → Type 0
IsAnalysis set budget (answers.Done dossier) = IsYesOf set dossier
IsAnalysis set budget (answers.Unproved same trail) = (same ≡ set) × IsTreeUndecided set budget trail
IsAnalysis set budget (answers.NoOrder same stuck) = ⊥
IsAnalysis set budget (answers.Undecided same higher task trail) = ⊥
