use Rattle.std.proofs.Common.{◌≡◌, drop}
use Rattle.drt_classic.specs.ClassicFaults.{first_without_frame}
use Rattle.drt_classic.proofs.finishing.first_without_frame.Given as goal

abbrev pub invariant-loop-draft : goal.invariant-loop-draft
invariant-loop-draft l = first_without_frame (drop l.draft-index l.drafts) ≡ first_without_frame l.drafts
