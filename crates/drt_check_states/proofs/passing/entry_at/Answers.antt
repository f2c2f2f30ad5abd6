use Rattle.std.proofs.Common.{sym, ◌∙◌}
use Rattle.drt_check_states.specs.Places.{no_entry}
use Rattle.drt_check_states.proofs.Sums.{entry_end, entry_here, entry_later}
use Rattle.drt_check_states.proofs.passing.entry_at.Goals as goal

pub returns-then-entry-place : goal.returns-then-entry-place
returns-then-entry-place c = sym (c.loop-entry.invariant ∙ entry_here c.args.entries.now c.args.place c.loop-entry.entry-index no_entry c.loop-entry-test.true c.if-entry-place.true)

pub loop-entry-preserved : goal.loop-entry-preserved
loop-entry-preserved c = c.loop-entry.invariant ∙ entry_later c.args.entries.now c.args.place c.loop-entry.entry-index no_entry c.loop-entry-test.true c.if-entry-place.false

pub returns : goal.returns
returns c = sym (c.loop-entry.invariant ∙ entry_end c.args.entries.now c.args.place c.loop-entry.entry-index c.loop-entry-test.false)
