-- A yes of fixed priorities: trees that cover all walks, and proofs that pass, leave a time for each vertex whatever the walks.
use Rattle.std.proofs.Common.{◌≡◌, ℕ, ◌<◌, inl, Some, List, [], length, map, take, refl, sym, ap, ◌∙◌, subst, arith}
use Rattle.std.specs.Prelude.{All, slice_get, slice_index_or}
use Rattle.std.proofs.lemmas.Option.{slice_get-get_or}
use Rattle.drt_model.specs.declared.tasks.Task.{Task}
use Rattle.drt_model.specs.declared.jobs.Policy.TheVariants.{Fixed}
use Rattle.drt_model.specs.Constrained.{AreConstrained}
use Rattle.drt_model.specs.Digraph.{Digraph, digraph_of, vertex_count}
use Rattle.drt_model.specs.Limits.{IsTaskSet}
use Rattle.drt_model.specs.Schedulable.{Schedulable}
use Rattle.drt_busy.specs.Choice.{AreWalks, graph_at, no_task, task_at}
use Rattle.drt_busy.specs.Decide.{TimesDecide}
use Rattle.drt_model.specs.Each.{Each}
use Rattle.drt_claims.specs.Proofs.{HasPassingTime, after_all, opening_stack, passes}
use Rattle.drt_claims.specs.Trees.{CoversWalks, greatest_deadline, higher_count, root}
use Rattle.drt_claims.specs.Sorting.{by_priority, sorted_graphs}
use Rattle.drt_claims.specs.declared.evidence.ProofClaim.{ProofClaim}
use Rattle.drt_claims.specs.declared.evidence.TreeClaim.{TreeClaim}
use Rattle.drt_claims.proofs.Accepting.{IsFixedYes}
use Rattle.drt_check.proofs.SoundOrder.{Walked, higher_below, ordered, ordered_tasks, ordered_walked, requests_first, tasks_of, walked}
use Rattle.drt_check.proofs.SoundProofs.{have_leaves, leaves_at, leaves_most, stack_passes}
use Rattle.drt_check.proofs.SoundTimes.{HasTime, claim_of, deadline_near}

-- What stands for a proof past the last one.
no_proof : ProofClaim
no_proof = record { task = 0; vertex = 0; items = [] }

-- What a proof of the vertex begins with.
abbrev start : List Task → List TreeClaim → ℕ → List (List ℕ)
start tasks trees k = opening_stack trees (higher_count tasks (task_at tasks k).priority)

-- The time passes for the vertex and the combination.
abbrev Passes : List Task → List TreeClaim → ℕ → ℕ → List ℕ × ℕ → Type 0
Passes tasks trees k v at = HasPassingTime (sorted_graphs tasks trees) trees (graph_at tasks k) v at

-- The items of the vertex's proof end what it begins with, and pass at times that pass.
record IsProved (tasks : List Task) (trees : List TreeClaim) (k v : ℕ) : Type 0 where
  pub proof : ProofClaim
  pub ends : after_all trees proof.items (Some (start tasks trees k)) ≡ Some []
  pub passed : All (Passes tasks trees k v) (passes trees proof.items (Some (start tasks trees k)))

is_proved : (tasks : List Task) (trees : List TreeClaim) (proofs : List ProofClaim) → IsFixedYes tasks (by_priority tasks) trees proofs
    → (k v : ℕ) → k < length tasks → v < vertex_count (graph_at tasks k) → IsProved tasks trees k v
is_proved tasks trees proofs is k v l m =
    let has = claim_of (λ (p : ProofClaim). (p.task, p.vertex)) tasks proofs no_proof is.per_vertex k v l m in
    let proof : ProofClaim = slice_index_or proofs has.place no_proof in
    let task_is : proof.task ≡ k = ap (λ x. x.0) has.names_it in
    let vertex_is : proof.vertex ≡ v = ap (λ x. x.1) has.names_it in
    let at : slice_get tasks proof.task ≡ Some (task_at tasks k) = ap (λ n. slice_get tasks n) task_is ∙ slice_get-get_or tasks k no_task l in
    let passed = is.times has.place no_proof has.here (task_at tasks k) at in
    record {
      proof = proof;
      ends = is.shapes has.place no_proof has.here (task_at tasks k) at;
      passed = subst (λ u. All (Passes tasks trees k u) (passes trees proof.items (Some (start tasks trees k)))) vertex_is passed;
    }

-- Whatever the walks, there is such a time: their leaves are below the roots, so that an item passes for them.
has_time : (tasks : List Task) (trees : List TreeClaim) (proofs : List ProofClaim) → IsFixedYes tasks (by_priority tasks) trees proofs
    → (k v : ℕ) → k < length tasks → v < vertex_count (graph_at tasks k) → (walks : ℕ → List ℕ) → AreWalks tasks walks → HasTime tasks walks k v
has_time tasks trees proofs is k v l m walks are =
    let p : ℕ = (task_at tasks k).priority in
    let n : ℕ = higher_count tasks p in
    let bound : ℕ = greatest_deadline tasks in
    let xs : List Walked = ordered (walked tasks walks) in
    let graphs : List Digraph = take (length trees) (map digraph_of (tasks_of xs)) in
    let same : graphs ≡ sorted_graphs tasks trees = ap (λ ts. take (length trees) (map digraph_of ts)) (ordered_tasks tasks walks) in
    let below = higher_below tasks p k l (omega arith) in
    let per_task = is.trees_are.per_task in
    let covers = subst (λ gs. Each (CoversWalks bound) gs trees) (sym same) is.trees_are.covers in
    let have = have_leaves bound n xs trees (ordered_walked tasks walks are) (omega (arith, below, per_task)) covers is.trees_are.shapes in
    let proved = is_proved tasks trees proofs is k v l m in
    let goes = stack_passes trees have.leaves (Passes tasks trees k v) proved.proof.items (start tasks trees k) proved.ends proved.passed in
    let found = goes (map root (take n trees)) (inl refl) have.under in
    let t : ℕ = found.0.1 in
    let some = found.1.some in
    let within = found.1.within in
    let fits = found.1.fits in
    let asked = requests_first tasks walks p t in
    let near = deadline_near tasks k v l m in
    let first = have.most t some (omega (arith, within, near)) in
    let moved : leaves_at graphs trees have.leaves t ≡ leaves_at (sorted_graphs tasks trees) trees have.leaves t = ap (λ gs. leaves_at gs trees have.leaves t) same in
    let most = leaves_most (sorted_graphs tasks trees) trees is.trees_are.shapes have.leaves found.0.0 found.2 t in
    (t, some, within, omega (arith, fits, asked, first, moved, most))

-- Claimed trees and proofs that keep the rules imply schedulability under fixed priorities.
pub fixed_is_sound : TimesDecide → (version : ℕ) (tasks : List Task) → IsTaskSet version tasks → AreConstrained tasks
    → (trees : List TreeClaim) (proofs : List ProofClaim) → IsFixedYes tasks (by_priority tasks) trees proofs → Schedulable tasks Fixed
fixed_is_sound decide version tasks limits constrained trees proofs is = (decide version tasks limits constrained).1 (has_time tasks trees proofs is)
