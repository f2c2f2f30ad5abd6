-- What is left to put to its places, and what is there.
use Rattle.std.proofs.Common.{◌≡◌, All, Ok, length}
use Rattle.drt_ahead.specs.Found.{AreAnswers, AreThere}
use Rattle.drt_ahead.proofs.looking.look_ahead.Given as goal

abbrev pub invariant-loop-list : goal.invariant-loop-list
invariant-loop-list g l = record {
  lists : All (λ list. AreAnswers (λ i x. goal.F-post g l.job i (Ok x)) list.items) l.lists.items;
  count : length l.found.items ≡ length l.order;
  found : AreThere (λ i x. goal.F-post g l.job i (Ok x)) l.found.items;
}

abbrev pub decreases-loop-list : goal.decreases-loop-list
decreases-loop-list g l = length l.lists.items
