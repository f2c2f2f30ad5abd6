use Rattle.std.proofs.Common.{ap}
use Rattle.drt_states.specs.declared.claims.StateClaim.{StateClaim}
use Rattle.drt_evidence.specs.Cuts.{AreStateParts, StateParts}
use Rattle.drt_evidence.proofs.Claims.{bare_is, bare_none}
use Rattle.drt_evidence.proofs.Forms.{line_is, line_broken}
use Rattle.drt_evidence.proofs.Shapes.{bare_state, state_shape}
use Rattle.drt_evidence.proofs.reading.state_lines.state_of.Goals as goal

pub returns-in-Some-2 : goal.returns-in-Some-2
returns-in-Some-2 c =
    let parts_of : StateClaim → StateParts = λ s. (s.entries, (s.work, s.end)) in
    let parts : StateParts = c.in-Some-2.parts in
    line_is state_shape c.args.line.now c.in-Some.rest.now parts c.state_with.result c.in-Some.ensures
    (bare_is bare_state AreStateParts c.in-Some.rest.now parts (rw c.in-Some-2.is at c.in_ok-parts.ensures)) (ap parts_of c.state_with.ensures)

pub returns-in-None-2 : goal.returns-in-None-2
returns-in-None-2 c =
    line_broken state_shape c.args.line.now c.in-Some.rest.now c.in-Some.ensures
    (bare_none bare_state AreStateParts c.in-Some.rest.now (rw c.in-None-2.is at c.in_ok-parts.ensures))
