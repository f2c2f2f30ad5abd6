-- What the lines above leave, as its tasks.
use Rattle.std.proofs.Common.{◌≡◌, ◌≢◌, ℕ, ◌+◌, ◌<◌, ◌≤◌, Bool, true, false, ◌||◌, List, [], ◌∷◌, ◌++◌, length, map, Option, Some, None, refl, sym, ap, ◌∙◌, subst, arith, length-append}
use Rattle.std.specs.Prelude.{bytes_eq}
use Rattle.std.specs.List.{AllByRecursion, list_any}
use Rattle.std.proofs.lemmas.List.{map_push, length-map}
use Rattle.drt_file.proofs.Meanings.{either_false, every_of_any, any_of_every, unlike, differ}
use Rattle.drt_file.proofs.Snoc.{every_push, every_pop, every_map, every_unmap, every_weaker}
use Rattle.drt_classic.specs.declared.classic.Classic.{Classic}
use Rattle.drt_classic.specs.declared.state.Draft.{Draft}
use Rattle.drt_classic.specs.declared.state.State.{State}
use Rattle.drt_classic.specs.Classics.{name_of}
use Rattle.drt_classic.specs.ClassicFaults.{with_last_classic, task_of_draft, has_classic_task, in_last, is_named, classic_task_count}
use Rattle.drt_classic.proofs.Runs.{tasks_in}

-- The tasks, where these are closed and this one is the last.
pub with_open : (s : State) (d : Draft) → s.last ≡ Some d → tasks_in s ≡ map task_of_draft s.closed ++ d.task ∷ []
unfolding with_last_classic
with_open s d at = ap (λ o. map task_of_draft (with_last_classic s.closed o)) at ∙ map_push task_of_draft s.closed d

pub with_none : (s : State) → s.last ≡ None → tasks_in s ≡ map task_of_draft s.closed
unfolding with_last_classic
with_none s at = ap (λ o. map task_of_draft (with_last_classic s.closed o)) at

pub counted : (s : State) → classic_task_count s ≡ length (tasks_in s)
unfolding classic_task_count with_last_classic
counted s = go s.last refl
  where
    go : (o : Option Draft) → s.last ≡ o → (elim o [ None ↦ length s.closed | Some d ↦ length s.closed + 1 ]) ≡ length (map task_of_draft (with_last_classic s.closed o))
    go None at = sym (length-map s.closed task_of_draft)
    go (Some d) at = sym (length-map (s.closed ++ d ∷ []) task_of_draft ∙ length-append s.closed (d ∷ []))

-- A name is new where no task above has it.
other_name : (name : List ℕ) (d : Draft) → is_named name d ≡ false → name_of (task_of_draft d) ≢ name
unfolding is_named
other_name name d e = differ (name_of d.task) name e

name_other : (name : List ℕ) (d : Draft) → name_of (task_of_draft d) ≢ name → is_named name d ≡ false
unfolding is_named
name_other name d other = unlike (name_of d.task) name other

pub new_name : (name : List ℕ) (s : State) → has_classic_task name s ≡ false → AllByRecursion (λ t. name_of t ≢ name) (tasks_in s)
unfolding has_classic_task in_last with_last_classic
new_name name s e = go s.last e
  where
    closed : list_any (is_named name) s.closed ≡ false → AllByRecursion (λ d. name_of (task_of_draft d) ≢ name) s.closed
    closed none = every_weaker (λ d. is_named name d ≡ false) (λ d. name_of (task_of_draft d) ≢ name) (other_name name) s.closed (every_of_any (is_named name) s.closed none)

    go : (o : Option Draft) → (list_any (is_named name) s.closed || (elim o [ None ↦ false | Some d ↦ is_named name d ])) ≡ false
        → AllByRecursion (λ t. name_of t ≢ name) (map task_of_draft (with_last_classic s.closed o))
    go None h = every_map (λ t. name_of t ≢ name) task_of_draft s.closed (closed (either_false _ _ h).0)
    go (Some d) h =
        let r = either_false _ _ h in
        every_map (λ t. name_of t ≢ name) task_of_draft (s.closed ++ d ∷ []) (every_push (λ d. name_of (task_of_draft d) ≢ name) s.closed d (closed r.0) (other_name name d r.1))

either : (a b : Bool) → a ≡ false → b ≡ false → (a || b) ≡ false
either a b p q = rw p q

pub name_new : (name : List ℕ) (s : State) → AllByRecursion (λ t. name_of t ≢ name) (tasks_in s) → has_classic_task name s ≡ false
unfolding has_classic_task in_last with_last_classic
name_new name s are = go s.last are
  where
    closed : AllByRecursion (λ d. name_of (task_of_draft d) ≢ name) s.closed → list_any (is_named name) s.closed ≡ false
    closed others = any_of_every (is_named name) s.closed (every_weaker (λ d. name_of (task_of_draft d) ≢ name) (λ d. is_named name d ≡ false) (name_other name) s.closed others)

    go : (o : Option Draft) → AllByRecursion (λ t. name_of t ≢ name) (map task_of_draft (with_last_classic s.closed o))
        → (list_any (is_named name) s.closed || (elim o [ None ↦ false | Some d ↦ is_named name d ])) ≡ false
    go None h = either _ _ (closed (every_unmap (λ t. name_of t ≢ name) task_of_draft s.closed h)) refl
    go (Some d) h =
        let r = every_pop (λ d. name_of (task_of_draft d) ≢ name) s.closed d (every_unmap (λ t. name_of t ≢ name) task_of_draft (s.closed ++ d ∷ []) h) in
        either _ _ (closed r.0) (name_other name d r.1)
