-- How large a budget is enough for the tasks (2, 2) with a loop of 4 and, below it, (2, 5) with a loop of 8.
use Rattle.std.proofs.Common.{◌≡◌, ℕ, zero, suc, ◌+◌, ◌*◌, ◌<◌, ◌≤◌, List, [], ◌∷◌, Some, codes, refl, ap, sym, ◌∙◌, lit<, lit≤, arith}
use Rattle.std.specs.Prelude.{Contains, None, if◌then◌else◌}
use Rattle.std.proofs.lemmas.Bool.{ne_eqb}
use Rattle.std.proofs.lemmas.Option.{none-some}
use Rattle.drt_model.specs.declared.tasks.Task.{Task}
use Rattle.drt_graph.specs.Degrees.{most_out}
use Rattle.drt_model.specs.Walk.{sep_in, or_zero, span}
use Rattle.drt_busy.specs.Choice.{graph_at, task_at}
use Rattle.drt_claims.specs.Trees.{IsShortWalk, greatest_deadline, latest_deadline}
use Rattle.drt_sp.specs.Needs.{HasAtMost, IsEnoughForTrees, product_above}
use Rattle.drt_rows.proofs.Sets.{edge, looped}

abbrev pub tasks : List Task
tasks = looped (codes "T1") 1 2 2 4 ∷ looped (codes "T2") 2 2 5 8 ∷ []

-- The loop leads to no other vertex.
no_edge : (p v : ℕ) → sep_in (edge 0 0 p ∷ []) (suc v) ≡ None
unfolding sep_in
no_edge p v = ap (λ b. if b then Some p else sep_in [] (suc v)) (ne_eqb 0 (suc v) (λ h. omega (arith, h)))

-- The walks of the first task that span less than 5 are a and a a.
upper_walk : (w : List ℕ) → IsShortWalk 5 (graph_at tasks 0) w → Contains ((0 ∷ []) ∷ (0 ∷ 0 ∷ []) ∷ []) w
unfolding span sep_in or_zero
upper_walk [] h = absurd h
upper_walk (zero ∷ []) h = (0, lit< tt, refl)
upper_walk (zero ∷ zero ∷ []) h = (1, lit< tt, refl)
upper_walk (zero ∷ zero ∷ zero ∷ vs) h = absurd (omega (arith, h.2))
upper_walk (zero ∷ zero ∷ suc v ∷ vs) h = absurd (none-some _ (sym (no_edge 4 v) ∙ h.1.1.0))
upper_walk (zero ∷ suc v ∷ vs) h = absurd (none-some _ (sym (no_edge 4 v) ∙ h.1.0))
upper_walk (suc u ∷ vs) h = absurd (omega (arith, h.0))

pub upper_walks : HasAtMost 5 (graph_at tasks 0) 2
upper_walks = ((0 ∷ []) ∷ (0 ∷ 0 ∷ []) ∷ [], refl, upper_walk)

-- That of the second task is b.
lower_walk : (w : List ℕ) → IsShortWalk 5 (graph_at tasks 1) w → Contains ((0 ∷ []) ∷ []) w
unfolding span sep_in or_zero
lower_walk [] h = absurd h
lower_walk (zero ∷ []) h = (0, lit< tt, refl)
lower_walk (zero ∷ zero ∷ vs) h = absurd (omega (arith, h.2))
lower_walk (zero ∷ suc v ∷ vs) h = absurd (none-some _ (sym (no_edge 8 v) ∙ h.1.0))
lower_walk (suc u ∷ vs) h = absurd (omega (arith, h.0))

pub lower_walks : HasAtMost 5 (graph_at tasks 1) 1
lower_walks = ((0 ∷ []) ∷ [], refl, lower_walk)

-- Two walks with one edge each: the search needs at most 2 * 3 steps, and the refinement below them at most 4 * 2.
abbrev walks : ℕ → ℕ
walks zero = 2
walks (suc k) = 1

pub eight_is_enough : IsEnoughForTrees tasks 8
unfolding greatest_deadline latest_deadline product_above
eight_is_enough = record { counts = walks; walks = are; searches = searches; refinements = refinements }
  where
    are : (k : ℕ) → k < 2 → HasAtMost (greatest_deadline tasks) (graph_at tasks k) (walks k)
    are zero h = upper_walks
    are (suc zero) h = lower_walks
    are (suc (suc k)) h = absurd (omega (arith, h))

    searches : (k i : ℕ) → k < 2 → i < 2 → (task_at tasks k).priority < (task_at tasks i).priority → walks k * (most_out (graph_at tasks k).out + 2) ≤ 8
    searches zero i h l less = lit≤ tt
    searches (suc zero) i h l less = lit≤ tt
    searches (suc (suc k)) i h l less = absurd (omega (arith, h))

    refinements : (k : ℕ) → k < 2 → 4 * product_above tasks walks (task_at tasks k).priority 2 ≤ 8
    refinements zero h = lit≤ tt
    refinements (suc zero) h = lit≤ tt
    refinements (suc (suc k)) h = absurd (omega (arith, h))
