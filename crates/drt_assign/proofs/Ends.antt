-- How `assign` begins and ends.
use Rattle.std.proofs.Common.{◌≡◌, ℕ, ◌≤◌, List, length, map, refl, sym, ap, ◌∙◌, subst, arith}
use Rattle.std.specs.Prelude.{Err, IfOk, Ok, Result}
use Rattle.std.proofs.lemmas.List.{length-map}
use Rattle.drt_model.specs.declared.jobs.Policy.TheVariants.{Fixed}
use Rattle.drt_model.specs.declared.tasks.Task.{Task}
use Rattle.drt_model.specs.Constrained.{AreConstrained}
use Rattle.drt_model.specs.Contents.{Contents}
use Rattle.drt_model.specs.Digraph.{Digraph}
use Rattle.drt_model.specs.Limits.{IsTaskSet}
use Rattle.drt_model.specs.Schedulable.{Schedulable}
use Rattle.drt_busy.specs.Decide.{TimesDecide}
use Rattle.drt_claims.specs.Claims.{graphs_of}
use Rattle.drt_priorities.specs.Priorities.{ArePriorities, OrderExists, prioritised}
use Rattle.drt_priorities.proofs.Prioritised.{keep_constraints, keep_limits, length-prioritised, prioritised_same, prioritised_twice}
use Rattle.drt_sp.specs.Answers.{IsTreeUndecided}
use Rattle.drt_assign.specs.Assign.{AreByRule, AreStuck, IsAssigned, IsEndStuck, IsYesOf, with_priorities}
use Rattle.drt_assign.specs.Rule.{AreRanks, FollowRule}
use Rattle.drt_assign.specs.Steps.{IsAnalysis, IsCourse, IsOfFile, IsRanking}
use Rattle.drt_assign.specs.declared.answer.AssignAnswer.{AssignAnswer}
use Rattle.drt_assign.specs.declared.answer.AssignAnswer.TheVariants as answers
use Rattle.drt_assign.specs.declared.answer.Stuck.{Stuck}
use Rattle.drt_assign.specs.declared.ranking.Ranking.{Ranking}
use Rattle.drt_assign.proofs.Orders.{at_most_32, no_order, ranked_is_schedulable, ranks_are_priorities, some_open}
use Rattle.drt_assign.proofs.Ranges.{is_in_open}

-- With the priorities that the tasks have they are the tasks of the file.
pub same_tasks : (tasks : List Task) (old : List ℕ) → old ≡ map (λ (t : Task). t.priority) tasks → prioritised tasks old ≡ tasks
same_tasks tasks old e = ap (prioritised tasks) e ∙ prioritised_same tasks

-- So are those of a copy.
pub own_tasks : (own set : Contents) (old : List ℕ) → own ≡ set → old ≡ map (λ (t : Task). t.priority) set.tasks → prioritised own.tasks old ≡ set.tasks
own_tasks own set old same e = ap (λ (s : Contents). prioritised s.tasks old) same ∙ same_tasks set.tasks old e

-- The course over a copy of the set.
pub course_of : (own set : Contents) (graphs : List Digraph) (old : List ℕ) → own ≡ set → old ≡ map (λ (t : Task). t.priority) set.tasks
    → IsTaskSet set.version set.tasks → AreConstrained set.tasks → graphs ≡ graphs_of set.tasks → IsCourse (prioritised own.tasks old) graphs old
course_of own set graphs old same e limits constrained are = subst (λ (ts : List Task). IsCourse ts graphs old) (sym (own_tasks own set old same e)) (record {
  version = set.version;
  limits = limits;
  constrained = constrained;
  graphs_are = are;
  as_many = ap length e ∙ length-map set.tasks (λ (t : Task). t.priority);
})

-- Where at least one task is open and all open ones are stuck, the rule ends.
pub end_stuck : (tasks : List Task) (ranks : List ℕ) (m : ℕ) (stuck : List Stuck) → AreRanks (length tasks) m ranks → FollowRule tasks ranks → 1 ≤ m → AreStuck tasks ranks m stuck
    → IsEndStuck tasks stuck
end_stuck tasks ranks m stuck are rule left is = record {
  ranks = ranks;
  open_count = m;
  are = are;
  rule = rule;
  left = left;
  some = some;
  stuck_are = is;
}
  where
    some : 1 ≤ length stuck
    some =
        let one = some_open ranks (omega (arith, are.open_ones)) in
        let place = is_in_open ranks one.0 one.1 one.2 in
        omega (arith, place.1, ap length is.tasks_are, length-map stuck (λ (s : Stuck). s.miss.task))

-- A set that has the tasks of the file, given priorities.
pub given : (tasks : List Task) (old ps : List ℕ) (set : Contents) → IsOfFile tasks old set → length ps ≡ length tasks → prioritised set.tasks ps ≡ prioritised tasks ps
given tasks old ps set of e =
    let long : length ps ≡ length set.tasks = omega (arith, e, ap length of, length-prioritised set.tasks old) in
    sym (prioritised_twice set.tasks old ps long) ∙ ap (λ (ts : List Task). prioritised ts ps) of

pub as_many_in : (tasks : List Task) (old : List ℕ) (set : Contents) → IsOfFile tasks old set → length tasks ≡ length set.tasks
as_many_in tasks old set of = omega (arith, ap length of, length-prioritised set.tasks old)

module _ (decide : TimesDecide) (version : ℕ) (tasks : List Task) (limits : IsTaskSet version tasks) (constrained : AreConstrained tasks) where
  pub none : (stuck : List Stuck) → IsEndStuck tasks stuck → OrderExists tasks → ⊥
  none stuck is = no_order decide version tasks limits constrained is.ranks is.open_count is.are is.left is.stuck_are.fail

  module _ (ranks : List ℕ) (are : AreRanks (length tasks) 0 ranks) (rule : FollowRule tasks ranks) where
    pub whole : ArePriorities (length tasks) ranks
    whole = (ranks_are_priorities (length tasks) ranks are (at_most_32 version tasks limits)).1

    pub by_rule : AreByRule tasks ranks
    by_rule = record { are = whole; ranks = are; rule = rule }

    pub whole_limits : IsTaskSet 2 (prioritised tasks ranks)
    whole_limits = keep_limits version tasks ranks limits whole

    pub whole_constrained : AreConstrained (prioritised tasks ranks)
    whole_constrained = (keep_constraints tasks ranks).1 constrained

    pub whole_schedulable : Schedulable (prioritised tasks ranks) Fixed
    whole_schedulable = ranked_is_schedulable decide version tasks limits constrained ranks are rule

    -- What the analysis of the set with the order says.
    pub whole_assigned : (budget : ℕ) (set : Contents) → set ≡ with_priorities tasks ranks → (answer : AssignAnswer) → IsAnalysis set budget answer → IsAssigned (record {
      version =
          version;
      tasks = tasks;
    }) budget answer
    whole_assigned budget set e (answers.Done dossier) is = record { priorities = ranks; by_rule = by_rule; proved = subst (λ (s : Contents). IsYesOf s dossier) e is }
    whole_assigned budget set e (answers.Unproved ordered trail) is = record {
      priorities = ranks;
      by_rule = by_rule;
      ordered_is = is.0 ∙ e;
      spent = subst (λ (s : Contents). IsTreeUndecided s budget trail) (sym is.0) is.1;
      exists = record { priorities = ranks; are = whole; schedulable = whole_schedulable };
    }
    whole_assigned budget set e (answers.NoOrder same stuck) is = absurd is
    whole_assigned budget set e (answers.Undecided same higher task trail) is = absurd is

abbrev made : ℕ → List Task → Contents
made version tasks = record { version = version; tasks = tasks }

-- The priorities of the file, as they were read.
pub old_is : {xs ys : List ℕ} {read tasks : List Task} → xs ≡ ys → ys ≡ map (λ (t : Task). t.priority) read → read ≡ tasks → xs ≡ map (λ (t : Task). t.priority) tasks
old_is e f h = e ∙ (f ∙ ap (map (λ (t : Task). t.priority)) h)

-- What the rounds say over a copy of the set, said of the tasks of the file.
pub ranking_of : {own set : Contents} {old : List ℕ} {r s : Ranking} (budget : ℕ) → own ≡ set → old ≡ map (λ (t : Task). t.priority) set.tasks → r ≡ s
    → IsRanking (prioritised own.tasks old) old budget r → IsRanking set.tasks old budget s
ranking_of {own} {set} {old} {r} {s} budget same e h is =
    subst (λ (x : Ranking). IsRanking set.tasks old budget x) h (subst (λ (ts : List Task). IsRanking ts old budget r) (own_tasks own set old same e) is)

-- The set with the order.
pub ordered_is : (tasks : List Task) (old ranks qs : List ℕ) (set ordered : Contents) → IsOfFile tasks old set → length ranks ≡ length tasks → qs ≡ ranks
    → ordered ≡ record { version = 2; tasks = prioritised set.tasks qs } → ordered ≡ with_priorities tasks ranks
ordered_is tasks old ranks qs set ordered of n q e = e ∙ (ap (λ (xs : List ℕ). made 2 (prioritised set.tasks xs)) q ∙ ap (made 2) (given tasks old ranks set of n))

-- The set as it was.
pub restored : (set tried back : Contents) (version : ℕ) (old qs : List ℕ) → version ≡ set.version → qs ≡ old → IsOfFile set.tasks old tried
    → back ≡ record { version = version; tasks = prioritised tried.tasks qs } → back ≡ set
restored set tried back version old qs v q of e =
    e ∙ (ap (λ (xs : List ℕ). made version (prioritised tried.tasks xs)) q ∙ (ap (made version) of ∙ ap (λ (n : ℕ). made n set.tasks) v))

pub restored_limits : (set tried : Contents) (version : ℕ) (old qs : List ℕ) → version ≡ set.version → qs ≡ old → IsOfFile set.tasks old tried → IsTaskSet set.version set.tasks
    → IsTaskSet version (prioritised tried.tasks qs)
restored_limits set tried version old qs v q of limits =
    subst (λ (s : Contents). IsTaskSet s.version s.tasks) (sym (restored set tried (made version (prioritised tried.tasks qs)) version old qs v q of refl)) limits

-- What follows from each answer follows from an answer, if there is one.
pub for_answer : {E : Type 0} (P Q : AssignAnswer → Type 0) (r : Result AssignAnswer E) → ((a : AssignAnswer) → P a → Q a) → IfOk r P → IfOk r Q
for_answer P Q (Ok a) f h = f a h
for_answer P Q (Err e) f h = tt
