use Rattle.std.proofs.Common.{◌≡◌, ℕ, List, length, sym, subst}
use Rattle.drt_model.specs.declared.tasks.Task.{Task}
use Rattle.drt_priorities.specs.Priorities.{prioritised}
use Rattle.drt_assign.specs.Rule.{AreRanks}
use Rattle.drt_assign.specs.Steps.{IsRoundAnswer}
use Rattle.drt_assign.specs.declared.rounds.Round.{Round}
use Rattle.drt_assign.specs.declared.rounds.Round.TheVariants as rounds
use Rattle.drt_assign.proofs.Ends.{as_many_in, end_stuck}
use Rattle.drt_assign.proofs.Ranks.{ranks_after, rule_after}
use Rattle.drt_assign.proofs.ranking.rank_all.Goals as goal

-- What a round says of the set that it got, said of the tasks of the file.
round_of : (tasks before : List Task) (old ranks known : List ℕ) (m budget : ℕ) (r s : Round) → before ≡ tasks → ranks ≡ known → r ≡ s
    → IsRoundAnswer before old ranks m budget r → IsRoundAnswer tasks old known m budget s
round_of tasks before old ranks known m budget r s e f h is =
    subst (λ (x : Round). IsRoundAnswer tasks old known m budget x) h
    (subst (λ (xs : List ℕ). IsRoundAnswer tasks old xs m budget r) f (subst (λ (ts : List Task). IsRoundAnswer ts old ranks m budget r) e is))

pub find_next-requires-clause-ranks : goal.find_next-requires-clause-ranks
find_next-requires-clause-ranks g c κs within =
    let old : List ℕ = c.args.course.now.old.now in
    let tasks : List Task = prioritised c.args.set.tasks old in
    subst (λ (xs : List ℕ). AreRanks (length c.rounds.set.tasks) c.rounds.open_count xs) (sym c.as_slice.ensures.value)
    (subst (λ (n : ℕ). AreRanks n c.rounds.open_count c.rounds.ranks.items) (as_many_in tasks old c.rounds.set c.rounds.invariant.0) c.rounds.invariant.1)

pub rounds-preserved : goal.rounds-preserved
rounds-preserved g c =
    let old : List ℕ = c.args.course.now.old.now in
    let budget : ℕ = c.args.course.now.crew.now.effort.budget in
    let tasks : List Task = prioritised c.args.set.tasks old in
    let ranks : List ℕ = c.rounds.ranks.items in
    let m : ℕ = c.rounds.open_count in
    let said = round_of tasks (prioritised c.rounds.set.tasks old) old c.as_slice.result.now ranks m budget c.in_ok-tried.field-0 (rounds.Found c.in-Found.tried c.in-Found.task)
    c.rounds.invariant.0 c.as_slice.ensures.value c.in-Found.is c.in_ok-tried.ensures in (
      said.0,
      ranks_after tasks m ranks c.rounds.invariant.1 c.in-Found.task said.1.task said.1.is_open c.rounds-test.true,
      rule_after tasks m ranks c.rounds.invariant.1 c.in-Found.task said.1.task said.1.is_open c.rounds-test.true c.rounds.invariant.2 said.1.first,
    )

pub returns-in-AllStuck : goal.returns-in-AllStuck
returns-in-AllStuck g c =
    let old : List ℕ = c.args.course.now.old.now in
    let budget : ℕ = c.args.course.now.crew.now.effort.budget in
    let tasks : List Task = prioritised c.args.set.tasks old in
    let ranks : List ℕ = c.rounds.ranks.items in
    let m : ℕ = c.rounds.open_count in
    let said = round_of tasks (prioritised c.rounds.set.tasks old) old c.as_slice.result.now ranks m budget c.in_ok-tried.field-0 (rounds.AllStuck c.in-AllStuck.tried
    c.in-AllStuck.stuck)
    c.rounds.invariant.0 c.as_slice.ensures.value c.in-AllStuck.is c.in_ok-tried.ensures in
    (said.0, end_stuck tasks ranks m c.in-AllStuck.stuck c.rounds.invariant.1 c.rounds.invariant.2 c.rounds-test.true said.1)
