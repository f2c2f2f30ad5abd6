use Rattle.drt_merge.proofs.Taken.{merged_of}
use Rattle.drt_merge.proofs.merging.finish.Goals as goal

pub returns : goal.returns
returns c = λ e. merged_of c.args.walks.graph.now c.args.walks.bound c.args.walks.arcs.now c.take_all.new.merging.lists c.take_all.new.merging.cursors.items
    c.requires.arcs c.in_ok-take_all.ensures (c.are_spent.ensures.0 e)
