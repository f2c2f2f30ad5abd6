use Rattle.std.proofs.Common.{◌∷◌, ◌≤◌, IsPermutation, subst, arith}
use Rattle.drt_model.specs.Trace.{job_at}
use Rattle.drt_replay.specs.Queue.{entry}
use Rattle.drt_replay.proofs.Stretches.{released_none, released_more}
use Rattle.drt_replay.proofs.events.release_from.Goals as goal

pub loop-next-init : goal.loop-next-init
loop-next-init c = released_none c.args.policy c.args.jobs.now c.args.now c.args.stretch c.args.ready.now c.requires.readies

pub loop-next-preserved : goal.loop-next-preserved
loop-next-preserved c =
    let pushed = subst (λ k. IsPermutation (entry k ∷ c.loop-next.ready.items) c.push.new.self.items) c.ready_key.ensures c.push.ensures.items in
    let due : (job_at c.args.jobs.now c.loop-next.next).time ≤ c.args.now = omega (arith, c.time.ensures, c.if-time-now.true) in
    released_more c.args.policy c.args.jobs.now c.args.now c.args.stretch c.args.ready.now c.loop-next.next c.loop-next.ready c.push.new.self c.requires.waits c.loop-next.invariant
    c.loop-next-test.true due pushed c.push.ensures.room
