-- A greatest response by states: no walks need more time, and the walks found reach it.
use Rattle.std.proofs.Common.{inl, inr, ◌≡◌, ℕ, ◌+◌, ◌<◌, ◌≤◌, List, length, take, sym, ap, ◌∙◌, subst, arith}
use Rattle.std.specs.List.{AllZip}
use Rattle.std.proofs.lemmas.Bool.{cases_lt}
use Rattle.drt_model.specs.declared.tasks.Task.{Task}
use Rattle.drt_model.specs.declared.jobs.Policy.TheVariants.{Fixed}
use Rattle.drt_model.specs.declared.jobs.Release.{Release}
use Rattle.drt_model.specs.Constrained.{AreConstrained}
use Rattle.drt_model.specs.Contents.{Contents}
use Rattle.drt_model.specs.Digraph.{IsSoundGraph, vertex_count}
use Rattle.drt_model.specs.Limits.{IsTaskSet}
use Rattle.drt_model.specs.Schedulable.{Schedulable}
use Rattle.drt_model.specs.Walk.{deadline, wcet}
use Rattle.drt_graph.proofs.Soundness.{all_sound}
use Rattle.drt_busy.specs.Choice.{AreWalks, graph_at, no_task, task_at}
use Rattle.drt_busy.specs.Response.{FitsWithin, IsGreatestFit, IsGreatestResponse, IsLeastFit, MeetsDeadlines, ReleasesReach, ResponseDecides, reaching}
use Rattle.drt_states.specs.declared.claims.TailClaim.{TailClaim}
use Rattle.drt_states.specs.States.{AreStates, HaveDominatedChildren}
use Rattle.drt_states.specs.Tails.{BoundsWalks, EachTail, IsTail, graphs_of_places}
use Rattle.drt_states_laws.specs.Laws.{StatesPass}
use Rattle.drt_sp.specs.ChoiceLaws.{AreReachingReleases}
use Rattle.drt_claims.specs.Searches.{higher_tails}
use Rattle.drt_claims.specs.Sorting.{sorted_higher_places, sorted_places}
use Rattle.drt_claims.specs.Trees.{higher_count}
use Rattle.drt_check.proofs.SoundOrder.{Walked, ordered, ordered_walked, walked}
use Rattle.drt_fixed.proofs.Prefixes.{zip_take}
use Rattle.drt_sp_states.specs.Answers.{AreWorst}
use Rattle.drt_response.specs.Tails.{HaveTails}
use Rattle.drt_response.specs.Answers.{IsResponseOf}
use Rattle.drt_response.specs.Placed.{walk_in_priority_order}
use Rattle.drt_response.proofs.Higher.{first_walks, higher, higher_are, higher_near, higher_sound, places_in, requests_together, walks_in}
use Rattle.drt_response.proofs.Placed.{placed_are_walks, placed_asked}
use Rattle.drt_response.proofs.Rises.{tails_bounding, tails_rising}
use Rattle.drt_model.specs.Numbers.{most_time}

module _ (version : ℕ) (tasks : List Task) (limits : IsTaskSet version tasks) (tails : List TailClaim) (have : HaveTails tasks tails)
    (k v : ℕ) (task : k < length tasks) (vertex : v < vertex_count (graph_at tasks k)) (ticks : ℕ) (walks : List (List ℕ))
    (worst : AreWorst (graphs_of_places (sorted_higher_places tasks (task_at tasks k))) (higher_tails tasks tails (task_at tasks k)) (wcet (graph_at tasks k) v)
    (deadline (graph_at tasks k) v) ticks walks) where
  -- Whatever the walks, some time up to the number has room.
  most : StatesPass → (others : ℕ → List ℕ) → AreWalks tasks others → FitsWithin tasks others k v ticks
  most pass others are =
      let n : ℕ = higher_count tasks (task_at tasks k).priority in
      let xs : List Walked = ordered (walked tasks others) in
      let first : List Walked = higher tasks others k in
      let same = higher_are tasks others k task in
      let rising = subst (λ ps. EachTail IsTail ps (take n tails)) same (zip_take (λ q tail. IsTail q.bound q.graph tail) n (sorted_places tasks) tails (tails_rising tasks tails have)) in
      let bounding = subst (λ ps. EachTail BoundsWalks ps (take n tails)) same
      (zip_take (λ q tail. BoundsWalks q.bound q.graph tail) n (sorted_places tasks) tails (tails_bounding tasks tails have)) in
      let states = subst (λ ps. AreStates (graphs_of_places ps) worst.states) same worst.are in
      let children = subst (λ ps. HaveDominatedChildren (graphs_of_places ps) worst.bound worst.states) same worst.children in
      let found = pass (places_in tasks first) (take n tails) (wcet (graph_at tasks k) v) worst.bound ticks worst.states
      (higher_sound version tasks limits others k) (higher_near tasks others k v worst.bound task vertex worst.near) rising bounding states worst.within worst.times children
      (walks_in first) (first_walks tasks n xs (ordered_walked tasks others are)) in
      let t : ℕ = found.0 in
      let fits = found.3 in
      (t, found.1, found.2, omega (arith, fits, requests_together tasks others k t))

  pub are_walks : AreWalks tasks (walk_in_priority_order tasks walks)
  are_walks = placed_are_walks version tasks limits k task walks worst.each

  -- The number is the least time that has room for the walks found.
  least : IsLeastFit tasks (walk_in_priority_order tasks walks) k v ticks
  least =
      let asked = placed_asked version tasks limits k task walks worst.each in
      record {
        from = worst.some;
        fits = omega (arith, worst.fits, asked ticks);
        least = λ t one fits. elim (cases_lt t ticks) [
          | inl lt ↦ (let before = worst.none t one lt in absurd (omega (arith, before, fits, asked t)))
          | inr le ↦ le
        ];
      }

  -- It is the greatest response, and their releases reach it.
  pub states_respond : StatesPass → ResponseDecides → ReleasesReach → AreConstrained tasks → Schedulable tasks Fixed
      → IsGreatestResponse tasks k v ticks × AreReachingReleases tasks k v ticks (reaching tasks (walk_in_priority_order tasks walks) k v ticks)
  states_respond pass decides reach constrained schedulable =
      let meets : MeetsDeadlines tasks k = λ rs legal j here of. schedulable rs legal j here in
      let fit : IsGreatestFit tasks k v ticks = record { walks = walk_in_priority_order tasks walks; are = are_walks; least = least; most = most pass } in
      let (legal, (job, here, finish)) = reach version tasks limits constrained k v task vertex meets (walk_in_priority_order tasks walks) are_walks ticks least in
      ((decides version tasks limits constrained k v task vertex meets ticks).1 fit, record { legal = legal; job = job; here = here; finish = finish })

  -- The number is within the limits of a deadline.
  pub ticks_most : ticks ≤ most_time
  ticks_most =
      let sound : IsSoundGraph (graph_at tasks k) = all_sound version tasks limits k no_task task in
      omega (arith, worst.within, worst.near, (sound.deadline v vertex).1)

  -- With these releases it is the response of the vertex.
  pub response_is : StatesPass → ResponseDecides → ReleasesReach → AreConstrained tasks → Schedulable tasks Fixed
      → (set : Contents) (n : ℕ) (releases : List Release) → tasks ≡ set.tasks → n ≡ ticks → releases ≡ reaching tasks (walk_in_priority_order tasks walks) k v n
      → IsResponseOf set (record { task = k; vertex = v; ticks = ticks; releases = releases })
  response_is pass decides reach constrained schedulable set n releases same is are =
      let releases_are : releases ≡ reaching tasks (walk_in_priority_order tasks walks) k v ticks = are ∙ ap (λ (m : ℕ). reaching tasks (walk_in_priority_order tasks walks) k v m) is in
      let shown = states_respond pass decides reach constrained schedulable in
      let reached : AreReachingReleases tasks k v ticks releases = subst (λ (rs : List Release). AreReachingReleases tasks k v ticks rs) (sym releases_are) shown.1 in
      record {
        greatest = subst (λ (ts : List Task). IsGreatestResponse ts k v ticks) same shown.0;
        reaching = subst (λ (ts : List Task). AreReachingReleases ts k v ticks releases) same reached;
        walks = walk_in_priority_order tasks walks;
        are = subst (λ (ts : List Task). AreWalks ts (walk_in_priority_order tasks walks)) same are_walks;
        releases_are = releases_are ∙ ap (λ (ts : List Task). reaching ts (walk_in_priority_order tasks walks) k v ticks) same;
      }
