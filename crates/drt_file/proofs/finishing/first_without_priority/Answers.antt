use Rattle.std.proofs.Common.{sym, ◌∙◌}
use Rattle.drt_file.proofs.Lines.{found_here, goes_past, none_left}
use Rattle.drt_file.specs.internal.Steps.{has_no_priority}
use Rattle.drt_file.proofs.finishing.first_without_priority.Goals as goal

pub returns-then-no_priority : goal.returns-then-no_priority
returns-then-no_priority c = sym (found_here has_no_priority c.args.drafts.now c.loop-d.d-index c.d-item.result c.loop-d-test.true c.d-item.is c.if-no_priority.ensures) ∙ c.loop-d.invariant

pub loop-d-preserved : goal.loop-d-preserved
loop-d-preserved c = sym (goes_past has_no_priority c.args.drafts.now c.loop-d.d-index c.d-item.result c.loop-d-test.true c.d-item.is c.if-no_priority.ensures) ∙ c.loop-d.invariant

pub returns : goal.returns
returns c = sym (none_left has_no_priority c.args.drafts.now c.loop-d.d-index c.loop-d-test.false) ∙ c.loop-d.invariant
