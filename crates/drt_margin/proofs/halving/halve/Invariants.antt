use Rattle.std.proofs.Common.{◌≡◌, ◌-◌}
use Rattle.drt_margin.specs.Steps.{AreNumbersAhead, IsHalvingRoom}
use Rattle.drt_margin.proofs.halving.halve.Given as goal

abbrev pub invariant-halving : goal.invariant-halving
invariant-halving g l =
    (l.current ≡ l.initial.current)
    × IsHalvingRoom l.initial.current l.question.policy l.question.task l.question.vertex l.room
    × AreNumbersAhead l.initial.current l.question l.crew.effort.budget l.ahead

abbrev pub decreases-halving : goal.decreases-halving
decreases-halving g l = l.room.high - l.room.low
