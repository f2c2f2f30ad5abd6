-- A list of releases is legal exactly where each release is allowed alone and each step from one to the next is.
use Rattle.std.proofs.Common.{◌≡◌, ℕ, ◌+◌, ◌<◌, ◌≤◌, inl, inr, eqb, List, [], ◌∷◌, length, get_or, slice_get, Some, All, refl, sym, ◌∙◌, subst, arith}
use Rattle.std.proofs.lemmas.Option.{slice_get-get_or, slice_get_past}
use Rattle.std.proofs.lemmas.List.Elements.{All-nil, All-cons, All-head, All-tail}
use Rattle.std.proofs.lemmas.Bool.{cases_eq, cases_lt, eq-eqb, ne_eqb}
use Rattle.drt_model.specs.declared.tasks.Task.{Task}
use Rattle.drt_model.specs.declared.jobs.Release.{Release}
use Rattle.drt_model.specs.Legal.{AllNeighbours, IsReleaseOf, Follows, IsLegal, IsAllowed, IsAllowedStep, part_of}
use Rattle.drt_model.proofs.Neighbours.{filter-yes, filter-no, kept, kept_neighbours, AllNeighbours-nil, AllNeighbours-one, AllNeighbours-tail, AllNeighbours-cons, AllNeighbours-head}

task_at : (tasks : List Task) (r : Release) → r.task < length tasks → (t : Task) × (slice_get tasks r.task ≡ Some t)
task_at [] r h = absurd (omega arith)
task_at (t ∷ ts) r h = (get_or (t ∷ ts) r.task t, slice_get-get_or (t ∷ ts) r.task t h)

pub allowed_if_legal : (tasks : List Task) (rs : List Release) → IsLegal tasks rs → (k : ℕ) (d : Release) → k < length rs → IsAllowed tasks (get_or rs k d)
allowed_if_legal tasks rs l k d h =
    let r = get_or rs k d in
    let (t, at) = task_at tasks r (l.of_tasks k d h) in
    let (c, in', same) = kept (λ x. eqb x.task r.task) rs k d h (eq-eqb r.task r.task refl) in
    let fact : IsReleaseOf t r = subst (IsReleaseOf t) same ((l.parts r.task t at).each c d in') in
    rw at fact

pub step_if_legal : (tasks : List Task) (rs : List Release) → IsLegal tasks rs → (k : ℕ) (d : Release) → k + 1 < length rs → IsAllowedStep tasks (get_or rs k d) (get_or rs (k + 1) d)
step_if_legal tasks rs l k d h =
    let r = get_or rs k d in
    let s = get_or rs (k + 1) d in
    elim (cases_eq r.task s.task) [
      | inl e ↦
          (let (t, at) = task_at tasks r (l.of_tasks k d (omega arith)) in
          let (c, in', first, second) = kept_neighbours (λ x. eqb x.task r.task) rs k d h (eq-eqb r.task r.task refl) (eq-eqb s.task r.task (sym e)) in
          let fact : Follows t r s = subst (λ x. Follows t x s) first (subst (λ y. Follows t (get_or (part_of r.task rs) c d) y) second ((l.parts r.task t at).steps c d in')) in
          inr (e, rw at fact))
      | inr ne ↦ inl (omega (arith, l.in_order k d h, ne))
    ]

-- the other way, by the list
part-same : (n : ℕ) (r : Release) (rs : List Release) → r.task ≡ n → part_of n (r ∷ rs) ≡ r ∷ part_of n rs
part-same n r rs e = filter-yes (λ x. eqb x.task n) r rs (eq-eqb r.task n e)

part-other : (n : ℕ) (r : Release) (rs : List Release) → (r.task ≡ n → ⊥) → part_of n (r ∷ rs) ≡ part_of n rs
part-other n r rs ne = filter-no (λ x. eqb x.task n) r rs (ne_eqb r.task n ne)

-- a list in order of tasks that begins with a later task has no part of task n
part-later : (n : ℕ) (y : Release) (zs : List Release) → n < y.task → AllNeighbours (λ r s. r.task ≤ s.task) (y ∷ zs) → part_of n (y ∷ zs) ≡ []
part-later n y [] h o = part-other n y [] (λ e. omega (arith, e))
part-later n y (z ∷ ws) h o =
    part-other n y (z ∷ ws) (λ e. omega (arith, e))
    ∙ part-later n z ws (omega (arith, AllNeighbours-head (λ r s. r.task ≤ s.task) y z ws o)) (AllNeighbours-tail (λ r s. r.task ≤ s.task) y (z ∷ ws) o)

module _ (tasks : List Task) where
  in_task_range : (r : Release) → IsAllowed tasks r → r.task < length tasks
  in_task_range r a = elim (cases_lt r.task (length tasks)) [ inl h ↦ h | inr h ↦ absurd (rw (slice_get_past tasks r.task h) at a) ]

  step_order : (r s : Release) → IsAllowedStep tasks r s → r.task ≤ s.task
  step_order r s (inl h) = omega arith
  step_order r s (inr h) = omega (arith, h.0)

  module _ (n : ℕ) (t : Task) (at : slice_get tasks n ≡ Some t) where
    release_here : (r : Release) → r.task ≡ n → IsAllowed tasks r → IsReleaseOf t r
    release_here r e a = rw (e, at) at a

    step_here : (r s : Release) → r.task ≡ n → s.task ≡ n → IsAllowedStep tasks r s → Follows t r s
    step_here r s e f (inl h) = absurd (omega arith)
    step_here r s e f (inr h) = rw (e, at) at h.1

    part_each : (rs : List Release) → All (IsAllowed tasks) rs → All (IsReleaseOf t) (part_of n rs)
    part_each [] a = All-nil (IsReleaseOf t)
    part_each (r ∷ rs) a =
        let later = part_each rs (All-tail (IsAllowed tasks) r rs a) in
        elim (cases_eq r.task n) [
          | inl e ↦ rw (part-same n r rs e) (All-cons (IsReleaseOf t) r (part_of n rs) (release_here r e (All-head (IsAllowed tasks) r rs a)) later)
          | inr ne ↦ rw (part-other n r rs ne) later
        ]

    part_steps : (rs : List Release) → AllNeighbours (λ r s. r.task ≤ s.task) rs → AllNeighbours (IsAllowedStep tasks) rs → AllNeighbours (Follows t) (part_of n rs)
    part_steps [] o a = AllNeighbours-nil (Follows t)
    part_steps (r ∷ []) o a =
        elim (cases_eq r.task n) [
          | inl e ↦ rw (part-same n r [] e) (AllNeighbours-one (Follows t) r)
          | inr ne ↦ rw (part-other n r [] ne) (AllNeighbours-nil (Follows t))
        ]
    part_steps (r ∷ (s ∷ rs)) o a =
        let order = AllNeighbours-head (λ r s. r.task ≤ s.task) r s rs o in
        let order_later = AllNeighbours-tail (λ r s. r.task ≤ s.task) r (s ∷ rs) o in
        let later = part_steps (s ∷ rs) order_later (AllNeighbours-tail (IsAllowedStep tasks) r (s ∷ rs) a) in
        elim (cases_eq r.task n) [
          | inr ne ↦ rw (part-other n r (s ∷ rs) ne) later
          | inl e ↦ rw (part-same n r (s ∷ rs) e) (elim (cases_eq s.task n) [
            | inl f ↦ rw (part-same n s rs f)
                (AllNeighbours-cons (Follows t) r s (part_of n rs) (step_here r s e f (AllNeighbours-head (IsAllowedStep tasks) r s rs a)) (rw (part-same n s rs f) at later))
            | inr nf ↦ rw (part-later n s rs (omega (arith, nf)) order_later) (AllNeighbours-one (Follows t) r)
          ])
        ]

pub legal_if_allowed : (tasks : List Task) (rs : List Release) → All (IsAllowed tasks) rs → AllNeighbours (IsAllowedStep tasks) rs → IsLegal tasks rs
legal_if_allowed tasks rs each steps =
    let order : AllNeighbours (λ r s. r.task ≤ s.task) rs = λ i d h. step_order tasks (get_or rs i d) (get_or rs (i + 1) d) (steps i d h) in
    record {
      of_tasks = λ k d h. in_task_range tasks (get_or rs k d) (each k d h);
      in_order = order;
      parts = λ n t at. record { each = part_each tasks n t at rs each; steps = part_steps tasks n t at rs order steps };
    }
