use Rattle.std.proofs.Common.{sym, ◌∙◌}
use Rattle.drt_classic.proofs.Reader.{found_here, goes_past, none_left}
use Rattle.drt_classic.proofs.finishing.first_without_frame.Goals as goal

pub returns-then-no_frame : goal.returns-then-no_frame
returns-then-no_frame c = sym (found_here c.args.drafts.now c.loop-draft.draft-index c.draft-item.result c.loop-draft-test.true c.draft-item.is c.if-no_frame.ensures) ∙ c.loop-draft.invariant

pub loop-draft-preserved : goal.loop-draft-preserved
loop-draft-preserved c = sym (goes_past c.args.drafts.now c.loop-draft.draft-index c.draft-item.result c.loop-draft-test.true c.draft-item.is c.if-no_frame.ensures) ∙ c.loop-draft.invariant

pub returns : goal.returns
returns c = sym (none_left c.args.drafts.now c.loop-draft.draft-index c.loop-draft-test.false) ∙ c.loop-draft.invariant
