-- What each answer says of the response times of a set.
use Rattle.std.specs.Prelude.{◌≡◌, ℕ, zero, suc, List, [], ◌++◌, length, map, All}
use Rattle.drt_model.specs.Contents.{Contents}
use Rattle.drt_model.specs.declared.jobs.Policy.TheVariants.{Fixed}
use Rattle.drt_model.specs.declared.tasks.Task.{Task}
use Rattle.drt_model.specs.Digraph.{vertex_count}
use Rattle.drt_model.specs.Schedulable.{Schedulable}
use Rattle.drt_model.specs.Walk.{deadline, wcet}
use Rattle.drt_model.specs.declared.jobs.Miss.{Miss}
use Rattle.drt_model.specs.declared.jobs.Release.{Release}
use Rattle.drt_busy.specs.Choice.{AreWalks, graph_at}
use Rattle.drt_busy.specs.Response.{IsGreatestResponse, reaching as reaching_walks}
use Rattle.drt_tree.specs.Tree.{Plain}
use Rattle.drt_sp.specs.ChoiceLaws.{AreReachingReleases}
use Rattle.drt_claims.specs.Ranges.{IsEvidenceInRange}
use Rattle.drt_claims.specs.declared.evidence.Evidence.{Evidence}
use Rattle.drt_claims.specs.declared.evidence.Evidence.TheVariants.{FixedNo}
use Rattle.drt_fixed.specs.Answers.{IsNo}
use Rattle.drt_sp.specs.Answers.{IsTreeUndecided, IsVertexReached, IsAnswerOf}
use Rattle.drt_sp.specs.Needs.{IsBelowRefinement}
use Rattle.drt_sp.specs.Vertices.{subjects}
use Rattle.drt_sp.specs.declared.answer.Answer.{Answer}
use Rattle.drt_worst.specs.Splitting.{search_for}
use Rattle.drt_worst.specs.Spent.{IsSpent}
use Rattle.drt_responses.specs.declared.response.Response.{Response}
use Rattle.drt_response.specs.declared.answer.ResponseTrail.{ResponseTrail}
use Rattle.drt_response.specs.declared.answer.ResponseTrail.TheVariants.{Fixed as FixedTrailOf, Search}
use Rattle.drt_response.specs.declared.vertex.VertexResponse.{VertexResponse}
use Rattle.drt_response.specs.declared.vertex.VertexResponse.TheVariants as outcomes

-- The number of ticks is the greatest response of the vertex. The releases are legal, in order of tasks, and reach it: they are those of a walk
-- of each task of higher priority, from time 0 and with offsets below that number, each with its worst case, and the job of the vertex at 0,
-- which finishes after exactly so many ticks.
pub record IsResponseOf (set : Contents) (r : Response) : Type 0 where
  pub greatest : IsGreatestResponse set.tasks r.task r.vertex r.ticks
  pub reaching : AreReachingReleases set.tasks r.task r.vertex r.ticks r.releases
  pub walks : ℕ → List ℕ
  pub are : AreWalks set.tasks walks
  pub releases_are : r.releases ≡ reaching_walks set.tasks walks r.task r.vertex r.ticks

-- It is the response of vertex v of task k.
abbrev pub IsResponseOfVertex : Contents → ℕ → ℕ → Response → Type 0
IsResponseOfVertex set k v r = (r.task ≡ k) × (r.vertex ≡ v) × IsResponseOf set r

-- The search at a vertex that the analysis reached spent the budget, which is below what it may need.
pub record IsSpentResponse (set : Contents) (budget k v : ℕ) (taken : List (List ℕ)) : Type 0 where
  pub order : List ℕ
  pub forest : Plain
  pub roots : List ℕ
  pub reached : IsVertexReached set order forest roots k v
  pub spent : IsSpent (search_for forest (wcet (graph_at set.tasks k) v) (deadline (graph_at set.tasks k) v)) roots budget taken
  pub short : IsBelowRefinement set.tasks budget k

-- Why there is no answer: a budget was spent, in the analysis, or at a vertex of a set that is schedulable.
abbrev pub IsUndecidedResponse : Contents → ℕ → ResponseTrail → Type 0
IsUndecidedResponse set budget (FixedTrailOf trail) = IsTreeUndecided set budget trail
IsUndecidedResponse set budget (Search task vertex taken) = Schedulable set.tasks Fixed × IsSpentResponse set budget task vertex taken

-- The vertices of the first n tasks, in order of the file.
abbrev pub vertices_of : List Task → ℕ → List (ℕ × ℕ)
vertices_of tasks zero = []
vertices_of tasks (suc k) = vertices_of tasks k ++ subjects k (vertex_count (graph_at tasks k))

-- The task and the vertex of a response.
abbrev pub respondent : Response → ℕ × ℕ
respondent r = (r.task, r.vertex)

-- They are the responses of the vertices of the tasks before task k, and of its first n vertices.
pub record AreResponsesTo (set : Contents) (k n : ℕ) (responses : List Response) : Type 0 where
  pub are : map respondent responses ≡ vertices_of set.tasks k ++ subjects k n
  pub each : All (IsResponseOf set) responses

-- The set is schedulable, and there is a response of each vertex of each task, in order of the file.
pub record AreResponses (set : Contents) (responses : List Response) : Type 0 where
  pub schedulable : Schedulable set.tasks Fixed
  pub are : map respondent responses ≡ vertices_of set.tasks (length set.tasks)
  pub each : All (IsResponseOf set) responses

-- The evidence of a no, in range.
pub record IsRefused (set : Contents) (evidence : Evidence) : Type 0 where
  pub releases : List Release
  pub miss : Miss
  pub evidence_is : evidence ≡ FixedNo releases miss
  pub in_range : IsEvidenceInRange (FixedNo releases miss)
  pub no : IsNo set releases miss

-- What each answer says, with a budget.
abbrev pub IsResponseAnswer : Contents → ℕ → Answer (List Response) ResponseTrail → Type 0
IsResponseAnswer set budget answer = IsAnswerOf (AreResponses set) (IsRefused set) (IsUndecidedResponse set budget) answer

-- What tails and states say.
abbrev pub IsStatesResponse : Contents → Answer (List Response) Unit → Type 0
IsStatesResponse set answer = IsAnswerOf (AreResponses set) (IsRefused set) (λ nothing. Unit {0}) answer

-- What came of vertex v of task k.
abbrev pub IsVertexResponse : Contents → ℕ → ℕ → ℕ → VertexResponse → Type 0
IsVertexResponse set budget k v (outcomes.Reached r) = IsResponseOfVertex set k v r
IsVertexResponse set budget k v (outcomes.Spent taken) = IsSpentResponse set budget k v taken
