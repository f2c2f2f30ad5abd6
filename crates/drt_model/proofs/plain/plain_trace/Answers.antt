use Rattle.std.proofs.Common.{ap, ◌∙◌, [], ◌∷◌, ◌++◌}
use Rattle.drt_model.specs.Trace.{trace, best, pending}
use Rattle.drt_model.proofs.PickLemmas.{trace-next}
use Rattle.drt_model.proofs.plain.plain_trace.Goals as goal

pub loop-tick-init : goal.loop-tick-init
unfolding trace
loop-tick-init c = c.new-picks.ensures.items

pub loop-tick-preserved : goal.loop-tick-preserved
loop-tick-preserved c =
    let picks = c.loop-tick.picks.items in
    c.in_ok-push.ensures.items
    ∙ ap (λ next. picks ++ next ∷ []) (c.best_pending-next.ensures ∙ ap (λ ps. best c.args.policy c.args.jobs.now (pending c.args.jobs.now ps)) c.as_slice.ensures.value)
    ∙ trace-next c.args.policy c.args.jobs.now c.loop-tick._tick picks c.loop-tick.invariant
