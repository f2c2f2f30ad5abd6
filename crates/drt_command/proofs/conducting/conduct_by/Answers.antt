-- A run is as promised, whether its input was had or not.
use Rattle.std.proofs.Common.{ℕ, List, Option, sym, subst}
use Rattle.drt_io.specs.Causes.{Rose}
use Rattle.drt_outcome.specs.declared.outcome.Outcome.{Outcome}
use Rattle.drt_command.specs.declared.input.Input.{Input}
use Rattle.drt_command.specs.Inputs.{IsInput}
use Rattle.drt_command.specs.Rules.{Rules}
use Rattle.drt_command.specs.Runs.{IsReadCause, IsRun}
use Rattle.drt_command.proofs.Finished.{finished, unread}
use Rattle.drt_command.proofs.conducting.conduct_by.Goals as goal

pub returns-in-Ok-clause-run : goal.returns-in-Ok-clause-run
returns-in-Ok-clause-run g c =
    let r : Rules = g.C.Promised.rules c.args.command.now in
    let left : Option (List ℕ) = g.S.Source.left c.args.source.now in
    let R = Rose (g.S.Source.faults c.args.source.now) (g.S.Source.faults c.read_input.new.source) in
    let W = Rose (g.K.Sink.faults c.args.sink.now) (g.K.Sink.faults c.end_run.new.sink) in
    let is = subst (λ (b : List ℕ). IsInput r.input left b) (sym c.as_slice.ensures) (subst (λ (i : Input). IsInput i left c.in-Ok.bytes) c.input.ensures c.in-Ok.ensures.is) in
    finished r c.laws.ensures left R W (g.K.Sink.held c.args.sink.now) (g.K.Sink.held c.end_run.new.sink) c.as_slice.result.now c.make.result c.end_run.result
    c.end_run.ensures.ended is (c.requires.makes c.as_slice.result c.make.result c.make.ensures) (c.requires.unmade c.as_slice.result c.make.result c.make.ensures)

pub returns-in-Err-clause-run : goal.returns-in-Err-clause-run
returns-in-Err-clause-run g c =
    let r : Rules = g.C.Promised.rules c.args.command.now in
    let left : Option (List ℕ) = g.S.Source.left c.args.source.now in
    let R = Rose (g.S.Source.faults c.args.source.now) (g.S.Source.faults c.read_input.new.source) in
    let W = Rose (g.K.Sink.faults c.args.sink.now) (g.K.Sink.faults c.args.sink.now) in
    let held : Option (List ℕ) = g.K.Sink.held c.args.sink.now in
    subst (λ (o : Outcome). IsRun r left R W held held o) (sym c.outcome_of.ensures)
    (unread r c.laws.ensures left R W held held c.in-Err.stop (subst (λ (i : Input). IsReadCause R i left c.in-Err.stop) c.input.ensures c.in-Err.ensures.stops))
