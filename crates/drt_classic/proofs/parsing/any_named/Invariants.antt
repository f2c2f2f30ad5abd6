use Rattle.std.proofs.Common.{◌≡◌, drop}
use Rattle.std.specs.List.{list_any}
use Rattle.drt_classic.specs.ClassicFaults.{is_named}
use Rattle.drt_classic.proofs.parsing.any_named.Given as goal

abbrev pub invariant-loop-draft : goal.invariant-loop-draft
invariant-loop-draft l = list_any (is_named l.name) (drop l.draft-index l.drafts) ≡ list_any (is_named l.name) l.drafts
