-- The words are refused, or the run of their command is as promised.
use Rattle.std.proofs.Common.{subst, sym, ◌∙◌}
use Rattle.std.proofs.lemmas.Option.{same_Some}
use Rattle.drt_outcome.specs.declared.outcome.Outcome.{Outcome}
use Rattle.drt_outcome.specs.declared.stop.Stop.TheVariants as stops
use Rattle.drt_command.specs.Inputs.{AtInput}
use Rattle.drt_command.specs.Runs.{IsCompleteRun}
use Rattle.drt_outcome.specs.Stops.{IsStatus}
use Rattle.drt_command.proofs.Ends.{memory_complete, stop_known}
use Rattle.drt_top.specs.commands.{rules_of}
use Rattle.drt_top.proofs.running.run.Goals as goal

pub returns-in-Err-Refused-clause-known : goal.returns-in-Err-Refused-clause-known
returns-in-Err-Refused-clause-known g c = subst (λ (o : Outcome). IsStatus o.status) (sym c.outcome_of.ensures) (stop_known stops.Words)

pub returns-in-Err-Memory-clause-known : goal.returns-in-Err-Memory-clause-known
returns-in-Err-Memory-clause-known g c = subst (λ (o : Outcome). IsStatus o.status) (sym c.outcome_of-in-Err-Memory.ensures) (stop_known stops.Memory)

pub returns-in-Err-Memory-clause-complete : goal.returns-in-Err-Memory-clause-complete
returns-in-Err-Memory-clause-complete g c = λ m _ _ _.
    subst (λ (o : Outcome). AtInput (rules_of m).input (g.S.Source.left c.args.source.now) (λ b. IsCompleteRun (rules_of m) b o.status o.fault)) (sym c.outcome_of-in-Err-Memory.ensures)
    (memory_complete (rules_of m) (g.S.Source.left c.args.source.now))

pub returns-in-Ok-clause-refused : goal.returns-in-Ok-clause-refused
returns-in-Ok-clause-refused g c = λ m is refusal.
    subst (λ n. AtInput (rules_of n).input (g.S.Source.left c.args.source.now) (λ b. (rules_of n).refuses b c.dispatch.result.fault))
    (same_Some c.in-Ok.meaning m (sym c.in-Ok.ensures.meaning ∙ is)) (c.dispatch.ensures.run.refused refusal)
