-- The walk's function is the last one, and its number the last chosen.
use Rattle.std.proofs.Common.{◌≡◌, length, arith}
use Rattle.drt_sp_states.proofs.Pooled.{added}
use Rattle.drt_sp_states.proofs.trials.add_walk.Goals as goal

pub returns : goal.returns
returns c = λ graphs p.
    let n : c.len.result ≡ length c.args.pool.functions.items = omega arith in
    added c.args.graph.now c.args.deadline graphs c.args.pool _ c.args.made c.requires.made p
    (rw n at c.in_ok-push.ensures.items)
    (rw (c.in_ok-copy.ensures, c.steps.ensures) at c.in_ok-push-2.ensures.items)
    (rw c.from_vec.ensures at c.in_ok-push-3.ensures.items)
