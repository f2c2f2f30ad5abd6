-- A set that is schedulable under each policy, and two that aren't under either, each by a legal list and its miss.
use Rattle.std.proofs.Common.{◌≤◌, List, [], ◌∷◌, refl, lit<, lit≤}
use Rattle.std.specs.Prelude.{codes}
use Rattle.std.proofs.lemmas.List.Elements.{All-nil, All-cons}
use Rattle.drt_model.specs.declared.jobs.Policy.{Policy}
use Rattle.drt_model.specs.declared.jobs.Policy.TheVariants.{Edf, Fixed}
use Rattle.drt_model.specs.declared.jobs.Release.{Release}
use Rattle.drt_model.specs.Legal.{IsLegal, IsAllowed, IsAllowedStep}
use Rattle.drt_model.specs.Schedulable.{Schedulable, jobs_of}
use Rattle.drt_model.specs.Trace.{trace, pending, best, better, goes_before, is_before, is_pending, done, Misses}
use Rattle.drt_model.proofs.LegalLemmas.{legal_if_allowed}
use Rattle.drt_model.proofs.Neighbours.{AllNeighbours-one}
use Rattle.drt_busy.proofs.OneTask.{one_task_decides}
use Rattle.drt_rows.proofs.Sets.{vertex, release, short, too_long, too_long_again}
use Rattle.drt_rows.proofs.SetRows.{short_is_set, short_is_constrained}

-- One task with one vertex (2, 5) and a loop of 5.
pub short_is_schedulable : (policy : Policy) → Schedulable (short ∷ []) policy
short_is_schedulable policy =
    (one_task_decides 1 (short ∷ []) short policy short_is_set short_is_constrained refl refl).1
    (All-cons (λ v. v.wcet ≤ v.deadline) (vertex (codes "a") 2 5) [] (lit≤ tt) (All-nil (λ v. v.wcet ≤ v.deadline)))

-- The one release at 0 with the need 6.
abbrev pub at_once : List Release
at_once = release 0 0 0 6 ∷ []

-- It is legal with the vertex (6, 5) alone.
pub once_is_legal : IsLegal (too_long ∷ []) at_once
once_is_legal =
    legal_if_allowed (too_long ∷ []) at_once
    (All-cons (IsAllowed (too_long ∷ [])) (release 0 0 0 6) [] (lit≤ tt, lit≤ tt) (All-nil (IsAllowed (too_long ∷ []))))
    (AllNeighbours-one (IsAllowedStep (too_long ∷ [])) (release 0 0 0 6))

-- It has had 5 ticks before 5.
pub once_misses : (policy : Policy) → Misses policy (jobs_of (too_long ∷ []) at_once) 0
unfolding done trace pending best better goes_before is_before is_pending
once_misses Edf = lit< tt
once_misses Fixed = lit< tt

pub too_long_is_not_schedulable : (policy : Policy) → ¬ Schedulable (too_long ∷ []) policy
too_long_is_not_schedulable policy s = s at_once once_is_legal 0 (lit< tt) (once_misses policy)

-- The same with a loop of 5.
pub once_is_legal_again : IsLegal (too_long_again ∷ []) at_once
once_is_legal_again =
    legal_if_allowed (too_long_again ∷ []) at_once
    (All-cons (IsAllowed (too_long_again ∷ [])) (release 0 0 0 6) [] (lit≤ tt, lit≤ tt) (All-nil (IsAllowed (too_long_again ∷ []))))
    (AllNeighbours-one (IsAllowedStep (too_long_again ∷ [])) (release 0 0 0 6))

pub once_misses_again : (policy : Policy) → Misses policy (jobs_of (too_long_again ∷ []) at_once) 0
unfolding done trace pending best better goes_before is_before is_pending
once_misses_again Edf = lit< tt
once_misses_again Fixed = lit< tt

pub too_long_again_is_not_schedulable : (policy : Policy) → ¬ Schedulable (too_long_again ∷ []) policy
too_long_again_is_not_schedulable policy s = s at_once once_is_legal_again 0 (lit< tt) (once_misses_again policy)
