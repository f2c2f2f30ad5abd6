use Rattle.std.proofs.Common.{◌∙◌}
use Rattle.drt_margin.proofs.Timed.{less_again}
use Rattle.drt_margin.proofs.times.with_less.Goals as goal

pub returns : goal.returns
returns c = λ before e. (let f = less_again c.args.set before c.args.task c.args.vertex c.args.less c.requires.vertex e in rw c.wcet_of-wcet.ensures.value at c.with_wcet.ensures ∙ f)
