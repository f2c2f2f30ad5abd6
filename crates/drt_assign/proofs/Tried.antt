-- What a trial says of the task that is tried, and the rounds.
use Rattle.std.proofs.Common.{◌≡◌, ◌≢◌, ℕ, zero, suc, ◌+◌, ◌<◌, ◌≤◌, eqb, List, [], ◌∷◌, ◌++◌, length, map, get_or, All, Contains, refl, sym, ap, ◌∙◌, subst, arith, inl, inr}
use Rattle.std.specs.Prelude.{filter, option_map, slice_get, unwrap_or}
use Rattle.std.specs.List.{range_with_len}
use Rattle.std.proofs.lemmas.Bool.{cases_eq, eq-eqb, ne_eqb}
use Rattle.std.proofs.lemmas.List.{map_push}
use Rattle.std.proofs.lemmas.List.Elements.{All-nil, All-push}
use Rattle.drt_model.specs.declared.jobs.Miss.{Miss}
use Rattle.drt_model.specs.declared.jobs.Release.{Release}
use Rattle.drt_model.specs.declared.tasks.Task.{Task}
use Rattle.drt_model.specs.Constrained.{AreConstrained}
use Rattle.drt_model.specs.Contents.{Contents}
use Rattle.drt_model.specs.Digraph.{Digraph}
use Rattle.drt_model.specs.Legal.{IsLegal}
use Rattle.drt_model.specs.Limits.{IsTaskSet}
use Rattle.drt_model.specs.Schedulable.{priority_of}
use Rattle.drt_claims.specs.Claims.{graphs_of}
use Rattle.drt_busy.specs.Choice.{no_task, task_at}
use Rattle.drt_priorities.specs.Priorities.{ArePriorities, prioritised}
use Rattle.drt_priorities.proofs.Prioritised.{get_or-prioritised, graphs_stay, keep_constraints, keep_legality, keep_limits, length-prioritised, prioritised_twice}
use Rattle.drt_trails.specs.declared.FixedTrail.{FixedTrail}
use Rattle.drt_sp_task.specs.Task.{IsMeeting, IsTaskMiss, IsUndecidedTask}
use Rattle.drt_sp_task.specs.declared.answer.TaskAnswer.{TaskAnswer}
use Rattle.drt_sp_task.specs.declared.answer.TaskAnswer.TheVariants as answers
use Rattle.drt_assign.specs.Assign.{AreStuck, IsSpentAtTask, IsStuck, with_priorities}
use Rattle.drt_assign.specs.Rule.{AreRanks, IsTrialPriorities, PassesUnder, is_other, open_tasks}
use Rattle.drt_assign.specs.Steps.{IsCourse, IsNextRanked, IsOfFile, IsTaskTried}
use Rattle.drt_assign.specs.declared.answer.Stuck.{Stuck}
use Rattle.drt_assign.proofs.Orders.{rank_above}
use Rattle.drt_assign.proofs.Passing.{above_in, passes_from_under, passes_under_fewer, under_from_passes}
use Rattle.drt_assign.proofs.Ranges.{filter_more_in, filter_more_out, in_open_is, is_in_open}
use Rattle.drt_assign.proofs.Trials.{above_is_other, other_is_above}

-- The priority of a release's task.
priority_in : (tasks : List Task) (ps : List ℕ) (j : ℕ) → length ps ≡ length tasks → j < length tasks
    → unwrap_or (option_map (λ (t : Task). t.priority) (slice_get (prioritised tasks ps) j)) 0 ≡ get_or ps j 0
priority_in [] ps j e l = absurd (omega arith)
priority_in (t ∷ tasks) [] j e l = absurd (omega arith)
priority_in (t ∷ tasks) (p ∷ ps) zero e l = refl
priority_in (t ∷ tasks) (p ∷ ps) (suc j) e l = priority_in tasks ps j (omega arith) (omega arith)

module _ (tasks : List Task) (m : ℕ) (ranks ps : List ℕ) (are : AreRanks (length tasks) m ranks) (k : ℕ) (l : k < length tasks) (e : get_or ranks k 0 ≡ 0)
    (trial : IsTrialPriorities ranks m k ps) where
  as_many : length ps ≡ length tasks
  as_many = omega (arith, trial.are.as_many, are.as_many)

  are_priorities : ArePriorities (length tasks) ps
  are_priorities = subst (λ n. ArePriorities n ps) are.as_many trial.are

  -- A task that meets its deadlines passes under the other open ones.
  pub meets_passes : IsMeeting (prioritised tasks ps) k → PassesUnder tasks (is_other ranks m k) k
  meets_passes meeting =
      passes_under_fewer tasks (is_other ranks m k) (above_in ps k) k (other_is_above (length tasks) m ranks ps are k l trial) (under_from_passes tasks ps as_many k l meeting.passes)

  -- A task that misses doesn't.
  pub miss_fails : (releases : List Release) (miss : Miss) → IsTaskMiss (prioritised tasks ps) k releases miss → PassesUnder tasks (is_other ranks m k) k → ⊥
  miss_fails releases miss is under =
      is.fails (passes_from_under tasks ps as_many k l (passes_under_fewer tasks (above_in ps k) (is_other ranks m k) k (above_is_other (length tasks) m ranks ps are k l trial) under))

  -- It is stuck: where it misses, only open tasks release.
  pub miss_is_stuck : (releases : List Release) (miss : Miss) → IsTaskMiss (prioritised tasks ps) k releases miss
      → IsStuck tasks (open_tasks ranks) (record { releases = releases; miss = miss })
  miss_is_stuck releases miss is = record {
    legal = legal;
    only = λ i d h. only i d h;
    priorities = ps;
    is_lowest = record { are = are_priorities; others = lowest };
    misses = record { job = is.job; here = is.here; is = is.is; misses = is.misses };
  }
    where
      legal : IsLegal tasks releases
      legal = (keep_legality tasks ps releases).0 is.legal

      only : (i : ℕ) (d : Release) → i < length releases → Contains (open_tasks ranks) (get_or releases i d).task
      only i d h =
          let j : ℕ = (get_or releases i d).task in
          let known : j < length tasks = legal.of_tasks i d h in
          let high : priority_of (prioritised tasks ps) (get_or releases i d) ≤ (task_at (prioritised tasks ps) k).priority = is.above i d h in
          let number = priority_in tasks ps j as_many known in
          let own : (task_at (prioritised tasks ps) k).priority ≡ get_or ps k 0 = ap (λ (u : Task). u.priority) (get_or-prioritised tasks ps k no_task 0 as_many l) in
          elim (cases_eq (get_or ranks j 0) 0) [
            | inl z ↦ is_in_open ranks j (omega (arith, known, are.as_many)) z
            | inr some ↦ absurd (omega (
              arith,
              high,
              number,
              own,
              trial.own,
              trial.ranked j (omega (arith, known, are.as_many)) (omega arith),
              rank_above (length tasks) m ranks are j
                  known (omega arith),
            ))
          ]

      lowest : (j : ℕ) → Contains (open_tasks ranks) j → j ≢ miss.task → get_or ps j 0 < get_or ps miss.task 0
      lowest j c ne =
          let at = in_open_is ranks j c in
          let apart : j ≢ k = λ s. ne (s ∙ sym is.of_task) in
          omega (arith, trial.beside j at.0 at.1 apart, trial.own, ap (λ n. get_or ps n 0) is.of_task)

-- What the set is ready for that has the tasks of the file with priorities.
pub record IsReady (tasks : List Task) (graphs : List Digraph) (set : Contents) : Type 0 where
  pub limits : IsTaskSet 2 set.tasks
  pub constrained : AreConstrained set.tasks
  pub graphs_are : graphs ≡ graphs_of set.tasks
  pub as_many : length set.tasks ≡ length tasks

pub ready : (tasks : List Task) (graphs : List Digraph) (old : List ℕ) → IsCourse tasks graphs old
    → (ps : List ℕ) → ArePriorities (length tasks) ps → IsReady tasks graphs (with_priorities tasks ps)
ready tasks graphs old course ps are = record {
  limits = keep_limits course.version tasks ps course.limits are;
  constrained = (keep_constraints tasks ps).1 course.constrained;
  graphs_are = course.graphs_are ∙ sym (graphs_stay tasks ps);
  as_many = length-prioritised tasks ps;
}

-- A set whose tasks have the old priorities again has the tasks of the file.
pub of_self : (tasks : List Task) (old : List ℕ) → length old ≡ length tasks → prioritised (prioritised tasks old) old ≡ prioritised tasks old
of_self tasks old e = prioritised_twice tasks old old e

pub of_trial : (tasks : List Task) (old ps : List ℕ) (set : Contents) → length old ≡ length tasks → prioritised tasks old ≡ tasks → set ≡ with_priorities tasks ps → IsOfFile tasks old set
of_trial tasks old ps set e own is = ap (λ (s : Contents). prioritised s.tasks old) is ∙ (prioritised_twice tasks ps old e ∙ own)

abbrev two : List Task → Contents
two ts = record { version = 2; tasks = ts }

-- The set of a trial, seen from the tasks of the file.
pub tried_is : (tasks : List Task) (old ps qs : List ℕ) (set : Contents) → set ≡ record { version = 2; tasks = prioritised tasks qs } → qs ≡ ps → length ps ≡ length tasks
    → set ≡ with_priorities (prioritised tasks old) ps
tried_is tasks old ps qs set e f l =
    e ∙ (ap (λ (xs : List ℕ). with_priorities tasks xs) f ∙ ap (λ (ts : List Task). two ts) (sym (prioritised_twice tasks old ps l)))

-- What a set of a trial is ready for.
pub tried_ready : (tasks : List Task) (graphs : List Digraph) (old : List ℕ) → IsCourse (prioritised tasks old) graphs old
    → (ranks : List ℕ) (m k : ℕ) → AreRanks (length tasks) m ranks → (ps : List ℕ) → IsTrialPriorities ranks m k ps → (set : Contents) → set ≡ with_priorities (prioritised tasks old) ps
    → IsReady (prioritised tasks old) graphs set
tried_ready tasks graphs old course ranks m k are ps trial set e =
    let long : length ranks ≡ length (prioritised tasks old) = are.as_many ∙ sym (length-prioritised tasks old) in
    subst (λ (s : Contents). IsReady (prioritised tasks old) graphs s) (sym e)
    (ready (prioritised tasks old) graphs old course ps (subst (λ (n : ℕ). ArePriorities n ps) long trial.are))

-- The round up to the i-th task: the set has the tasks of the file, and each open task before is stuck.
pub record IsSoFar (tasks : List Task) (old ranks : List ℕ) (m i : ℕ) (set : Contents) (stuck : List Stuck) : Type 0 where
  pub same : IsOfFile tasks old set
  pub tasks_are : map (λ (s : Stuck). s.miss.task) stuck ≡ filter (λ j. eqb (get_or ranks j 0) 0) (range_with_len 0 i)
  pub each : All (IsStuck tasks (open_tasks ranks)) stuck
  pub fail : (u : ℕ) → u < i → get_or ranks u 0 ≡ 0 → PassesUnder tasks (is_other ranks m u) u → ⊥

pub so_far_none : (tasks : List Task) (old ranks : List ℕ) (m : ℕ) (set : Contents) → IsOfFile tasks old set → IsSoFar tasks old ranks m 0 set []
so_far_none tasks old ranks m set same =
    record { same = same; tasks_are = refl; each = All-nil (IsStuck tasks (open_tasks ranks)); fail = λ u l. absurd (omega arith) }

module _ (tasks : List Task) (old ranks : List ℕ) (m budget : ℕ) (many : length old ≡ length tasks) (own : prioritised tasks old ≡ tasks) (are : AreRanks (length tasks) m ranks)
    (k : ℕ) (l : k < length tasks) (set : Contents) (stuck : List Stuck) (so_far : IsSoFar tasks old ranks m k set stuck) where
  -- A task that has a rank is passed over.
  pub so_far_over : get_or ranks k 0 ≢ 0 → IsSoFar tasks old ranks m (k + 1) set stuck
  so_far_over ne = record {
    same = so_far.same;
    tasks_are = so_far.tasks_are ∙ sym (filter_more_out (λ j. eqb (get_or ranks j 0) 0) k (ne_eqb (get_or ranks k 0) 0 ne));
    each = so_far.each;
    fail = λ u h e. elim (cases_eq u k) [
      | inl s ↦ absurd (ne (ap (λ n. get_or ranks n 0) (sym s) ∙ e))
      | inr apart ↦ so_far.fail u (omega arith) e
    ];
  }

  module _ (e : get_or ranks k 0 ≡ 0) (tried : Contents) where
    same_after : (answer : TaskAnswer) → IsTaskTried tasks ranks m k budget tried answer → IsOfFile tasks old tried
    same_after answer is = of_trial tasks old is.priorities tried many own is.set_is

    pub so_far_stuck : (releases : List Release) (miss : Miss) → IsTaskTried tasks ranks m k budget tried (answers.Misses releases miss)
        → IsSoFar tasks old ranks m (k + 1) tried (stuck ++ record { releases = releases; miss = miss } ∷ [])
    so_far_stuck releases miss is = record {
      same = same_after (answers.Misses releases miss) is;
      tasks_are = map_push (λ (s : Stuck). s.miss.task) stuck one ∙ (ap (λ (xs : List ℕ). xs ++ miss.task ∷ []) so_far.tasks_are
          ∙ (ap (λ (n : ℕ). filter (λ j. eqb (get_or ranks j 0) 0) (range_with_len 0 k) ++ n ∷ []) missing.of_task
          ∙ sym (filter_more_in (λ j. eqb (get_or ranks j 0) 0) k (eq-eqb (get_or ranks k 0) 0 e))));
      each = All-push (IsStuck tasks (open_tasks ranks)) stuck one so_far.each (miss_is_stuck tasks m ranks is.priorities are k l e is.trial releases miss missing);
      fail = λ u h z. elim (cases_eq u k) [
        | inl s ↦ subst (λ n. PassesUnder tasks (is_other ranks m n) n → ⊥) (sym s) (miss_fails tasks m ranks is.priorities are k l e is.trial releases miss missing)
        | inr apart ↦ so_far.fail u (omega arith) z
      ];
    }
      where
        one : Stuck
        one = record { releases = releases; miss = miss }

        missing : IsTaskMiss (prioritised tasks is.priorities) k releases miss
        missing = subst (λ (s : Contents). IsTaskMiss s.tasks k releases miss) is.set_is is.says

    pub found : IsTaskTried tasks ranks m k budget tried answers.Meets → IsOfFile tasks old tried × IsNextRanked tasks ranks m k
    found is = (
      same_after answers.Meets is,
      record {
        task = l;
        is_open = e;
        first = record {
          passes = meets_passes tasks m ranks is.priorities are k l e is.trial (subst (λ (s : Contents). IsMeeting s.tasks k) is.set_is is.says);
          first = λ u h low. elim (cases_eq (get_or ranks u 0) 0) [
            | inl z ↦ so_far.fail u h z
            | inr some ↦ absurd (omega (arith, low, rank_above (length tasks) m ranks are u (omega arith) (omega arith)))
          ];
        };
      },
    )

    pub spent_at : (trail : FixedTrail) → IsTaskTried tasks ranks m k budget tried (answers.Undecided trail) → IsOfFile tasks old tried × IsSpentAtTask tasks ranks m budget k trail
    spent_at trail is = (
      same_after (answers.Undecided trail) is,
      record {
        task = l;
        is_open = e;
        earlier = so_far.fail;
        priorities = is.priorities;
        trial = is.trial;
        spent = subst (λ (s : Contents). IsUndecidedTask s budget k trail) is.set_is is.says;
      },
    )

-- At the end all open tasks are stuck.
pub so_far_all : (tasks : List Task) (old ranks : List ℕ) (m i : ℕ) (set : Contents) (stuck : List Stuck) → AreRanks (length tasks) m ranks → i ≡ length ranks
    → IsSoFar tasks old ranks m i set stuck → IsOfFile tasks old set × AreStuck tasks ranks m stuck
so_far_all tasks old ranks m i set stuck are all so_far = (
  so_far.same,
  record {
    tasks_are = subst (λ (n : ℕ). map (λ (s : Stuck). s.miss.task) stuck ≡ filter (λ j. eqb (get_or ranks j 0) 0) (range_with_len 0 n)) all so_far.tasks_are;
    each = so_far.each;
    fail = λ u h e. so_far.fail u (omega (arith, all, are.as_many)) e;
  },
)
