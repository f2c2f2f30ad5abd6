-- What each answer of the analysis under fixed priorities says.
use Rattle.drt_busy.specs.Response.{MeetsDeadlines}
use Rattle.std.specs.Prelude.{◌≡◌, ℕ, ◌<◌, List, length, All}
use Rattle.drt_model.specs.Contents.{Contents}
use Rattle.drt_model.specs.declared.tasks.Task.{Task}
use Rattle.drt_model.specs.declared.jobs.Policy.TheVariants.{Fixed}
use Rattle.drt_model.specs.declared.jobs.Release.{Release}
use Rattle.drt_model.specs.declared.jobs.Miss.{Miss}
use Rattle.drt_model.specs.Digraph.{vertex_count}
use Rattle.drt_model.specs.Legal.{IsLegal}
use Rattle.drt_model.specs.Schedulable.{Schedulable, jobs_of}
use Rattle.drt_model.specs.Trace.{job_at, Misses}
use Rattle.drt_model.specs.Walk.{deadline, wcet}
use Rattle.drt_busy.specs.Choice.{AreWalks, graph_at, task_at}
use Rattle.drt_busy.specs.WalkReleases.{all_releases, with_job}
use Rattle.drt_tree.specs.Tree.{IsForest, Plain}
use Rattle.drt_refine.specs.Below.{AreBelow, AreNodes}
use Rattle.drt_refine.specs.declared.step.FrontierEntry.{FrontierEntry}
use Rattle.drt_table.specs.declared.step.Entry.{Entry}
use Rattle.drt_sp.specs.Choices.{FirstPass, VertexPasses}
use Rattle.drt_sp.specs.ChoiceLaws.{IsPosed, no_releases}
use Rattle.drt_model.specs.Each.{Each}
use Rattle.drt_claims.specs.Ranges.{IsEvidenceInRange}
use Rattle.drt_claims.specs.Rules.{Accepts}
use Rattle.drt_claims.specs.Trees.{AreByPriority, greatest_deadline, tree_graphs}
use Rattle.drt_claims.specs.declared.evidence.Evidence.{Evidence}
use Rattle.drt_claims.specs.declared.evidence.Evidence.TheVariants.{EdfYes, EdfNo, UtilisationOne, FixedYes, FixedStates, FixedNo, Undecided}
use Rattle.drt_claims.specs.declared.evidence.ProofClaim.{ProofClaim}
use Rattle.drt_claims.specs.declared.evidence.TreeClaim.{TreeClaim}
use Rattle.drt_sp.specs.Claims.{AreClaimsOf, begins}
use Rattle.drt_sp.specs.Evidence.{under_fixed}
use Rattle.drt_sp.specs.Items.{IsFailure, IsSpentRefinement}
use Rattle.drt_sp.specs.Needs.{AreFewLeaves, IsBelowRefinement, IsBelowSearch}
use Rattle.drt_sp.specs.Progress.{first_graphs}
use Rattle.drt_sp.specs.TreeClaims.{IsSpentWalkSearch, IsTreeOf}
use Rattle.drt_sp.specs.Written.{IsEagerProof}
use Rattle.drt_sp.specs.declared.answer.Answer.{Answer}
use Rattle.drt_sp.specs.declared.answer.Answer.TheVariants as answers
use Rattle.drt_trails.specs.declared.FixedTrail.{FixedTrail}
use Rattle.drt_trails.specs.declared.FixedTrail.TheVariants.{Table, Refine}

-- None of the jobs of a task of higher priority than task k does.
abbrev pub HigherMeetDeadlines : List Task → ℕ → Type 0
HigherMeetDeadlines tasks k = (i : ℕ) → i < length tasks → (task_at tasks i).priority < (task_at tasks k).priority → MeetsDeadlines tasks i

-- A yes: the set is schedulable, the evidence is accepted, each tree has exactly the labels of walks that no other one dominates, and each
-- proof passes with the least time, or splits where no time passes, at the node with the most walks below it. The trees are those of the
-- tasks in order of priority.
pub record IsExactTreeYes (set : Contents) (trees : List TreeClaim) (proofs : List ProofClaim) : Type 0 where
  pub schedulable : Schedulable set.tasks Fixed
  pub accepted : Accepts (under_fixed set (FixedYes trees proofs))
  pub sorted : List Task
  pub in_order : AreByPriority set.tasks sorted
  pub exact : Each (IsTreeOf (greatest_deadline set.tasks)) (tree_graphs sorted trees) trees
  pub eager : All (IsEagerProof set.tasks (tree_graphs sorted trees) trees) proofs

-- The forest's trees with these roots are the halved ones over the exact walks of the tasks at the first places of the order, one behind the
-- other from node 0 on.
pub record AreExactTrees (tasks : List Task) (order : List ℕ) (f : Plain) (roots : List ℕ) : Type 0 where
  pub trees : List TreeClaim
  pub claimed : AreClaimsOf (greatest_deadline tasks) f (first_graphs tasks order (length roots)) (begins 0 roots) roots trees
  pub exact : Each (IsTreeOf (greatest_deadline tasks)) (first_graphs tasks order (length roots)) trees

-- Where an analysis stands at a vertex: the trees of a forest are those of the tasks of higher priority and stand for the walks of these, with
-- no more leaves than there are walks; each vertex of those tasks passes, so that none of their jobs misses; and each earlier vertex of its
-- task passes.
pub record IsVertexReached (set : Contents) (order : List ℕ) (f : Plain) (roots : List ℕ) (k v : ℕ) : Type 0 where
  pub task : k < length set.tasks
  pub nodes : AreNodes f roots
  pub posed : IsPosed set.version set.tasks order (greatest_deadline set.tasks) f roots k v
  pub passed : FirstPass set.tasks order (length roots)
  pub higher : HigherMeetDeadlines set.tasks k
  pub earlier : (u : ℕ) → u < v → VertexPasses set.tasks k u
  pub forest : IsForest f
  pub few : AreFewLeaves set.tasks order f roots
  pub exact : AreExactTrees set.tasks order f roots

-- The tuple has one leaf of each tree of the tasks of higher priority than that of the vertex.
pub record IsTupleFor (set : Contents) (order : List ℕ) (f : Plain) (k v : ℕ) (tuple : List ℕ) : Type 0 where
  pub roots : List ℕ
  pub task : k < length set.tasks
  pub nodes : AreNodes f roots
  pub posed : IsPosed set.version set.tasks order (greatest_deadline set.tasks) f roots k v
  pub below : AreBelow f tuple roots

-- The vertex that was reached is the first that fails: no time passes for it and the tuple of leaves.
pub record IsFailedVertex (set : Contents) (order : List ℕ) (f : Plain) (k v : ℕ) (tuple : List ℕ) : Type 0 where
  pub roots : List ℕ
  pub reached : IsVertexReached set order f roots k v
  pub failure : IsFailure f (wcet (graph_at set.tasks k) v) (deadline (graph_at set.tasks k) v) roots tuple

-- The releases are those of a walk of each task of higher priority than the named job's, from time 0, as early as the separations allow and each
-- with its whole execution time, and one of a vertex of that task at 0, whose job is the named one.
pub record AreOfWalks (tasks : List Task) (releases : List Release) (miss : Miss) : Type 0 where
  pub walks : ℕ → List ℕ
  pub are : AreWalks tasks walks
  pub task : miss.task < length tasks
  pub vertex : ℕ
  pub within : vertex < vertex_count (graph_at tasks miss.task)
  pub releases_are : releases ≡ all_releases tasks (with_job tasks walks miss.task vertex) (length tasks)
  pub miss_is : miss ≡ record { task = miss.task; index = 0; deadline = deadline (graph_at tasks miss.task) vertex }

-- A no: the set isn't schedulable, and the evidence is accepted. It is that of the first vertex that fails, in order of priority and then
-- of the file: the releases are those of the walks of a tuple of leaves and one of the vertex, whose job misses.
pub record IsTreeMiss (set : Contents) (releases : List Release) (miss : Miss) : Type 0 where
  pub not_schedulable : ¬ Schedulable set.tasks Fixed
  pub accepted : Accepts (under_fixed set (FixedNo releases miss))
  pub order : List ℕ
  pub forest : Plain
  pub task : ℕ
  pub vertex : ℕ
  pub tuple : List ℕ
  pub failed : IsFailedVertex set order forest task vertex tuple
  pub releases_are : releases ≡ no_releases set.tasks forest order tuple task vertex
  pub miss_is : miss ≡ record { task = task; index = 0; deadline = deadline (graph_at set.tasks task) vertex }
  pub of_walks : AreOfWalks set.tasks releases miss

-- The evidence of a yes, and no other.
abbrev pub IsYesEvidence : Contents → Evidence → Type 0
IsYesEvidence set (EdfYes ratios fronts) = ⊥
IsYesEvidence set (EdfNo releases miss) = ⊥
IsYesEvidence set (UtilisationOne ratios) = ⊥
IsYesEvidence set (FixedYes trees proofs) = IsExactTreeYes set trees proofs
IsYesEvidence set (FixedStates tails searches) = ⊥
IsYesEvidence set (FixedNo releases miss) = ⊥
IsYesEvidence set Undecided = ⊥

-- The evidence of a yes, in range.
abbrev pub IsTreeYes : Contents → Evidence → Type 0
IsTreeYes set evidence = IsYesEvidence set evidence × IsEvidenceInRange evidence

-- The evidence of a no, and no other.
abbrev pub IsRefusalEvidence : Contents → Evidence → Type 0
IsRefusalEvidence set (EdfYes ratios fronts) = ⊥
IsRefusalEvidence set (EdfNo releases miss) = ⊥
IsRefusalEvidence set (UtilisationOne ratios) = ⊥
IsRefusalEvidence set (FixedYes trees proofs) = ⊥
IsRefusalEvidence set (FixedStates tails searches) = ⊥
IsRefusalEvidence set (FixedNo releases miss) = IsTreeMiss set releases miss
IsRefusalEvidence set Undecided = ⊥

-- The evidence of a no, in range.
abbrev pub IsTreeNo : Contents → Evidence → Type 0
IsTreeNo set evidence = IsRefusalEvidence set evidence × IsEvidenceInRange evidence

-- The search of a task's walks up to the greatest deadline spent the budget, which is below what the search may need. Another task has a
-- lower priority, and no job of the task or of one of higher priority misses.
pub record IsSpentTreeTable (tasks : List Task) (budget k : ℕ) (log : List Entry) : Type 0 where
  pub task : k < length tasks
  pub lower : (i : ℕ) × (i < length tasks) × ((task_at tasks k).priority < (task_at tasks i).priority)
  pub search : IsSpentWalkSearch (graph_at tasks k) (greatest_deadline tasks) budget log
  pub short : IsBelowSearch (greatest_deadline tasks) (graph_at tasks k) budget
  pub meets : MeetsDeadlines tasks k
  pub higher : HigherMeetDeadlines tasks k

-- The refinement at a vertex spent the budget, which is below what it may need.
pub record IsSpentVertex (set : Contents) (budget k v : ℕ) (log : List FrontierEntry) : Type 0 where
  pub order : List ℕ
  pub forest : Plain
  pub roots : List ℕ
  pub reached : IsVertexReached set order forest roots k v
  pub refinement : IsSpentRefinement forest (wcet (graph_at set.tasks k) v) (deadline (graph_at set.tasks k) v) roots budget log
  pub short : IsBelowRefinement set.tasks budget k

-- Why there is no answer: a budget was spent.
abbrev pub IsTreeUndecided : Contents → ℕ → FixedTrail → Type 0
IsTreeUndecided set budget (Table task log) = IsSpentTreeTable set.tasks budget task log
IsTreeUndecided set budget (Refine task vertex log) = IsSpentVertex set budget task vertex log

-- What an answer says, by what each of its variants says.
abbrev pub IsAnswerOf : {Y T : Type 0} → (Y → Type 0) → (Evidence → Type 0) → (T → Type 0) → Answer Y T → Type 0
IsAnswerOf if_meets if_misses if_undecided (answers.Meets shown) = if_meets shown
IsAnswerOf if_meets if_misses if_undecided (answers.Misses evidence) = if_misses evidence
IsAnswerOf if_meets if_misses if_undecided (answers.Undecided trail) = if_undecided trail

-- What each answer says, with a budget.
abbrev pub IsTreeAnswer : Contents → ℕ → Answer Evidence FixedTrail → Type 0
IsTreeAnswer set budget answer = IsAnswerOf (IsTreeYes set) (IsTreeNo set) (IsTreeUndecided set budget) answer
