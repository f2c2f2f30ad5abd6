-- What each answer of `assign` says.
use Rattle.std.specs.Prelude.{◌≡◌, ◌≢◌, ℕ, ◌<◌, ◌≤◌, List, length, map, All, Contains, slice_index}
use Rattle.drt_model.specs.declared.jobs.Policy.TheVariants.{Fixed}
use Rattle.drt_model.specs.declared.tasks.Task.{Task}
use Rattle.drt_model.specs.Contents.{Contents}
use Rattle.drt_model.specs.Legal.{IsLegal}
use Rattle.drt_model.specs.Misses.{miss_of}
use Rattle.drt_model.specs.Schedulable.{jobs_of}
use Rattle.drt_model.specs.Trace.{Misses}
use Rattle.drt_claims.specs.Ranges.{IsEvidenceInRange}
use Rattle.drt_claims.specs.Statement.{Statement}
use Rattle.drt_claims.specs.declared.evidence.Evidence.{Evidence}
use Rattle.drt_fixed.specs.Answers.{IsYes}
use Rattle.drt_priorities.specs.Priorities.{ArePriorities, OrderExists, prioritised}
use Rattle.drt_sp.specs.Answers.{IsTreeUndecided}
use Rattle.drt_sp.specs.Evidence.{under_fixed}
use Rattle.drt_sp_task.specs.Task.{IsUndecidedTask}
use Rattle.drt_trails.specs.declared.FixedTrail.{FixedTrail}
use Rattle.drt_assign.specs.Rule.{AreRanks, FollowRule, IsTrialPriorities, PassesUnder, is_other, open_beside, open_tasks}
use Rattle.drt_assign.specs.declared.answer.AssignAnswer.{AssignAnswer}
use Rattle.drt_assign.specs.declared.answer.AssignAnswer.TheVariants as answers
use Rattle.drt_assign.specs.declared.answer.Stuck.{Stuck}

-- The set of version 2 of the tasks with these priorities. Nothing else of them changes.
abbrev pub with_priorities : List Task → List ℕ → Contents
with_priorities tasks priorities = record { version = 2; tasks = prioritised tasks priorities }

-- The priorities are those that Audsley's rule gives to all tasks.
pub record AreByRule (tasks : List Task) (priorities : List ℕ) : Type 0 where
  pub are : ArePriorities (length tasks) priorities
  pub ranks : AreRanks (length tasks) 0 priorities
  pub rule : FollowRule tasks priorities

-- The dossier is that of the set under fixed priorities, and its evidence, which is accepted, says yes.
pub record IsYesOf (set : Contents) (dossier : Statement) : Type 0 where
  pub evidence : Evidence
  pub dossier_is : dossier ≡ under_fixed set evidence
  pub in_range : IsEvidenceInRange evidence
  pub yes : IsYes set evidence

-- An order: the dossier says yes of the set with the priorities by the rule.
pub record IsOrderFound (tasks : List Task) (dossier : Statement) : Type 0 where
  pub priorities : List ℕ
  pub by_rule : AreByRule tasks priorities
  pub proved : IsYesOf (with_priorities tasks priorities) dossier

-- The named job of these releases misses under the priorities.
pub record IsMissing (tasks : List Task) (priorities : List ℕ) (stuck : Stuck) : Type 0 where
  pub job : ℕ
  pub here : job < length stuck.releases
  pub is : stuck.miss ≡ miss_of (jobs_of (prioritised tasks priorities) stuck.releases) job
  pub misses : Misses Fixed (jobs_of (prioritised tasks priorities) stuck.releases) job

-- The priorities give each of some tasks another than k a lower number, so that k has the lowest priority among them.
pub record IsLowest (count : ℕ) (lowest : List ℕ) (k : ℕ) (priorities : List ℕ) : Type 0 where
  pub are : ArePriorities count priorities
  pub others : (j : ℕ) → Contains lowest j → j ≢ k → slice_index priorities j < slice_index priorities k

-- Of some tasks, one is stuck: it misses where it has the lowest priority among them. The releases are legal, only those tasks release, and
-- the named job, which is of that task, misses.
pub record IsStuck (tasks : List Task) (lowest : List ℕ) (stuck : Stuck) : Type 0 where
  pub legal : IsLegal tasks stuck.releases
  pub only : All (λ r. Contains lowest r.task) stuck.releases
  pub priorities : List ℕ
  pub is_lowest : IsLowest (length tasks) lowest stuck.miss.task priorities
  pub misses : IsMissing tasks priorities stuck

-- All open tasks are stuck, one `stuck` for each in order of the file: each misses where it has the lowest priority among them, and for none
-- of them do all vertices pass under the others.
pub record AreStuck (tasks : List Task) (ranks : List ℕ) (m : ℕ) (stuck : List Stuck) : Type 0 where
  pub tasks_are : map (λ s. s.miss.task) stuck ≡ open_tasks ranks
  pub each : All (IsStuck tasks (open_tasks ranks)) stuck
  pub fail : (k : ℕ) → k < length tasks → slice_index ranks k ≡ 0 → PassesUnder tasks (is_other ranks m k) k → ⊥

-- Where the rule ends at least one task is open, and all open tasks are stuck.
pub record IsEndStuck (tasks : List Task) (stuck : List Stuck) : Type 0 where
  pub ranks : List ℕ
  pub open_count : ℕ
  pub are : AreRanks (length tasks) open_count ranks
  pub rule : FollowRule tasks ranks
  pub left : 1 ≤ open_count
  pub some : 1 ≤ length stuck
  pub stuck_are : AreStuck tasks ranks open_count stuck

-- No order exists, since tasks are stuck; the set is as it was.
pub record IsNoOrder (set same : Contents) (stuck : List Stuck) : Type 0 where
  pub same_is : same ≡ set
  pub none : ¬ OrderExists set.tasks
  pub ended : IsEndStuck set.tasks stuck

-- A budget was spent at an open task, which was tried under the other open ones: each open task of a lower number fails under the other
-- open ones. The budget was spent by the analysis of the task in the set with priorities that put just those others above it.
pub record IsSpentAtTask (tasks : List Task) (ranks : List ℕ) (m budget k : ℕ) (trail : FixedTrail) : Type 0 where
  pub task : k < length tasks
  pub is_open : slice_index ranks k ≡ 0
  pub earlier : (u : ℕ) → u < k → slice_index ranks u ≡ 0 → PassesUnder tasks (is_other ranks m u) u → ⊥
  pub priorities : List ℕ
  pub trial : IsTrialPriorities ranks m k priorities
  pub spent : IsUndecidedTask (with_priorities tasks priorities) budget k trail

-- A budget was spent at the task that the rule reaches, under these others.
pub record IsEndSpent (tasks : List Task) (budget : ℕ) (higher : List ℕ) (task : ℕ) (trail : FixedTrail) : Type 0 where
  pub ranks : List ℕ
  pub open_count : ℕ
  pub are : AreRanks (length tasks) open_count ranks
  pub rule : FollowRule tasks ranks
  pub higher_are : higher ≡ open_beside ranks task
  pub spent : IsSpentAtTask tasks ranks open_count budget task trail

-- Nothing is decided, since a budget was spent; the set is as it was.
pub record IsUndecidedOrder (set : Contents) (budget : ℕ) (same : Contents) (higher : List ℕ) (task : ℕ) (trail : FixedTrail) : Type 0 where
  pub same_is : same ≡ set
  pub ended : IsEndSpent set.tasks budget higher task trail

-- An order exists, the one by the rule, and the set is the one with it. The analysis of that set spent a budget.
pub record IsUnproved (tasks : List Task) (budget : ℕ) (ordered : Contents) (trail : FixedTrail) : Type 0 where
  pub priorities : List ℕ
  pub by_rule : AreByRule tasks priorities
  pub ordered_is : ordered ≡ with_priorities tasks priorities
  pub spent : IsTreeUndecided ordered budget trail
  pub exists : OrderExists tasks

-- What each answer says, with a budget.
abbrev pub IsAssigned : Contents → ℕ → AssignAnswer → Type 0
IsAssigned set budget (answers.Done dossier) = IsOrderFound set.tasks dossier
IsAssigned set budget (answers.NoOrder same stuck) = IsNoOrder set same stuck
IsAssigned set budget (answers.Undecided same higher task trail) = IsUndecidedOrder set budget same higher task trail
IsAssigned set budget (answers.Unproved ordered trail) = IsUnproved set.tasks budget ordered trail
