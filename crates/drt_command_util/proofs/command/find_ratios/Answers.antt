-- One more graph has its ratio.
use Rattle.std.proofs.Common.{◌<◌, length, arith}
use Rattle.drt_command_util.proofs.UtilLemmas.{proofs_more, small_push}
use Rattle.drt_command_util.proofs.command.find_ratios.Goals as goal

pub graphs-preserved : goal.graphs-preserved
graphs-preserved c =
    let l : c.graphs.i < length c.args.graphs.now = omega (arith, c.count-count.ensures.count, c.graphs-test.true) in
    let p = c.in_ok-greatest.field-0 in
    record {
      are = proofs_more c.args.graphs.now c.graphs.i c.graph.result.now c.graphs.proofs.items
          c.push.new.self.items p l c.graph.ensures.graph c.in_ok-push.ensures.items c.graphs.invariant.are c.in_ok-greatest.ensures.greatest;
      small = rw c.in_ok-push.ensures.items (small_push _ c.graphs.proofs.items p c.graphs.invariant.small c.in_ok-greatest.ensures.reach);
      count = grind (arith, c.in_ok-push.ensures.items, c.graphs.invariant.count);
    }
