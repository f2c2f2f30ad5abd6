-- The vertex that is named is there, and its places are small.
use Rattle.std.proofs.Common.{ℕ, List, sym, subst, arith}
use Rattle.std.specs.Prelude.{MatchOption, Option}
use Rattle.drt_command_files.specs.Spots.{IsSpot, NamesNone}
use Rattle.drt_command_margin.specs.Steps.{IsSpotOf}
use Rattle.drt_margin.specs.declared.question.Question.{Question}
use Rattle.drt_command_margin.proofs.Spots.{places_small, spot_there}
use Rattle.drt_command_margin.proofs.command.spot_in.Goals as goal
use Rattle.drt_command_margin.proofs.command.spot_in.Goals.{then-command, else-command}

pub returns-in_err-task : goal.returns-in_err-task
returns-in_err-task c =
    let tasks = c.args.set.now.tasks in
    let command = c.args.command.now in
    let none : NamesNone command.task command.vertex tasks = λ k v s.
    c.in_err-task.ensures k v
    (subst (λ (w : List ℕ). IsSpot tasks w c.as_slice-2.result.now k v) (sym c.as_slice.ensures) (subst (λ (w : List ℕ). IsSpot tasks command.task w k v) (sym c.as_slice-2.ensures) s)) in
    subst (λ (r : Option Question). MatchOption r (NamesNone command.task command.vertex tasks) (IsSpotOf c.args.set.now command)) (sym c.from_residual.ensures) none

pub overflow_cast-result : goal.overflow_cast-result
overflow_cast-result c =
    let there = spot_there c.args.set.now.tasks c.as_slice.result.now c.as_slice-2.result.now c.in_ok-task.task c.in_ok-task.vertex c.in_ok-task.ensures in
    let small = places_small c.args.set.now.version c.args.set.now.tasks c.in_ok-task.task c.in_ok-task.vertex c.keep_limits.ensures there in
    omega (arith, small.0)

pub overflow_cast-result-2 : goal.overflow_cast-result-2
overflow_cast-result-2 c =
    let there = spot_there c.args.set.now.tasks c.as_slice.result.now c.as_slice-2.result.now c.in_ok-task.task c.in_ok-task.vertex c.in_ok-task.ensures in
    let small = places_small c.args.set.now.version c.args.set.now.tasks c.in_ok-task.task c.in_ok-task.vertex c.keep_limits.ensures there in
    omega (arith, small.1)

pub returns : goal.returns
returns c =
    let tasks = c.args.set.now.tasks in
    let command = c.args.command.now in
    record {
      policy = elim c.if-command.branch [
        | then-command w ↦ search (w)
        | else-command w ↦ search (w)
      ];
      named = subst (λ (w : List ℕ). IsSpot tasks command.task w c.in_ok-task.task c.in_ok-task.vertex) c.as_slice-2.ensures
          (subst (λ (w : List ℕ). IsSpot tasks w c.as_slice-2.result.now c.in_ok-task.task c.in_ok-task.vertex) c.as_slice.ensures c.in_ok-task.ensures);
      vertex = spot_there tasks c.as_slice.result.now c.as_slice-2.result.now c.in_ok-task.task c.in_ok-task.vertex c.in_ok-task.ensures;
    }
