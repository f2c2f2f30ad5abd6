use Rattle.std.proofs.Common.{◌∙◌}
use Rattle.drt_worst.specs.Jobs.{IsDoneOf}
use Rattle.drt_worst.proofs.Ends.{popped_at, each_get, gather_more}
use Rattle.drt_worst.proofs.search.absorb_all.Goals as goal

pub absorb-requires-clause-runs : goal.absorb-requires-clause-runs
absorb-requires-clause-runs c =
    let all = c.args.passes.items in
    (each_get (IsDoneOf c.args.word.now) all _ c.in-Some.pass c.requires.passes
    (popped_at all c.loop-pass.passes.items _ c.loop-pass.invariant.1.done c.in-Some.pass c.loop-pass.invariant.1.split c.in-Some.ensures.items)).1

pub loop-pass-preserved : goal.loop-pass-preserved
loop-pass-preserved c = (
  c.absorb.ensures.name ∙ c.loop-pass.invariant.0,
  gather_more c.args.word.now c.args.passes.items _ c.in-Some.pass c.loop-pass.best _ c.loop-pass.leaves _ c.loop-pass.owner.me.0 _ c.loop-pass.passes.items
      c.loop-pass.invariant.1 c.in-Some.ensures.items c.absorb.ensures.parts c.absorb.ensures.known c.absorb.ensures.kept c.absorb.ensures.best,
)
