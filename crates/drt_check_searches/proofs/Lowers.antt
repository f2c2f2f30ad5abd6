-- The greatest deadline of the tasks of lower priority, task by task.
use Rattle.std.proofs.Common.{◌≡◌, ℕ, ◌+◌, ◌<◌, ◌≤◌, max, Bool, true, false, List, ◌∷◌, length, drop, filter, get_or, sym, ap, ◌∙◌}
use Rattle.std.proofs.lemmas.Bool.{cond-false, cond-true}
use Rattle.std.proofs.lemmas.List.{drop_all, drop_more}
use Rattle.drt_model.specs.declared.tasks.Task.{Task}
use Rattle.drt_claims.specs.Trees.{greatest_deadline, latest_deadline}

-- One more task that the test takes, and one that it doesn't.
pub lower_more : (p : Task → Bool) (tasks : List Task) (i : ℕ) (t : Task) → i < length tasks → t ≡ get_or tasks i t → p t ≡ true
    → greatest_deadline (filter p (drop i tasks)) ≡ max (latest_deadline t.vertices) (greatest_deadline (filter p (drop (i + 1) tasks)))
unfolding greatest_deadline
lower_more p tasks i t l at is =
    ap (λ (ts : List Task). greatest_deadline (filter p ts)) (drop_more tasks i t l ∙ ap (λ (u : Task). u ∷ drop (i + 1) tasks) (sym at))
    ∙ ap greatest_deadline (cond-true (p t) (t ∷ filter p (drop (i + 1) tasks)) (filter p (drop (i + 1) tasks)) is)

pub lower_skip : (p : Task → Bool) (tasks : List Task) (i : ℕ) (t : Task) → i < length tasks → t ≡ get_or tasks i t → p t ≡ false
    → greatest_deadline (filter p (drop i tasks)) ≡ greatest_deadline (filter p (drop (i + 1) tasks))
lower_skip p tasks i t l at is =
    ap (λ (ts : List Task). greatest_deadline (filter p ts)) (drop_more tasks i t l ∙ ap (λ (u : Task). u ∷ drop (i + 1) tasks) (sym at))
    ∙ ap greatest_deadline (cond-false (p t) (t ∷ filter p (drop (i + 1) tasks)) (filter p (drop (i + 1) tasks)) is)

pub lower_end : (p : Task → Bool) (tasks : List Task) (i : ℕ) → length tasks ≤ i → greatest_deadline (filter p (drop i tasks)) ≡ 0
unfolding greatest_deadline
lower_end p tasks i l = ap (λ (ts : List Task). greatest_deadline (filter p ts)) (drop_all i tasks l)
