-- What is reached is the greatest, for the states are accepted.
use Rattle.std.proofs.Common.{rules, arith}
use Rattle.drt_sp_states.proofs.Responses.{worst}
use Rattle.drt_sp_states.proofs.response.end_of.Goals as goal

pub returns-in-Some-2 : goal.returns-in-Some-2
returns-in-Some-2 c =
    let r = rw c.in-Some.is at c.requires.reached in
    worst _ _ _ _ _ c.in-Ok.bound _ _ r (omega (arith, c.in-Ok.ensures))
    (c.are_accepted.ensures.states c.if-are_accepted.true) (c.are_accepted.ensures.times c.if-are_accepted.true) (c.are_accepted.ensures.children c.if-are_accepted.true)
