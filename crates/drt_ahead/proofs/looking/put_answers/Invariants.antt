-- What is left to put to its places, and what is there.
use Rattle.std.proofs.Common.{◌≡◌, Ok, length}
use Rattle.drt_ahead.specs.Found.{AreAnswers, AreThere}
use Rattle.drt_ahead.proofs.looking.put_answers.Given as goal

abbrev pub invariant-loop-answer : goal.invariant-loop-answer
invariant-loop-answer g l = record {
  list : AreAnswers (λ i x. goal.F-post g l._job i (Ok x)) l.list.items;
  count : length l.found.items ≡ length l.initial.found.items;
  found : AreThere (λ i x. goal.F-post g l._job i (Ok x)) l.found.items;
}

abbrev pub decreases-loop-answer : goal.decreases-loop-answer
decreases-loop-answer g l = length l.list.items
