use Rattle.std.proofs.Common.{List, ap, arith, length}
use Rattle.drt_states.specs.declared.claims.Jump.{Jump}
use Rattle.drt_check_states.proofs.Sums.{none_past}
use Rattle.drt_check_states.proofs.passing.value_of.Goals as goal

pub returns-then-vertex-curves : goal.returns-then-vertex-curves
returns-then-vertex-curves c = none_past c.args.tail.now.curves c.args.vertex c.args.t (omega (arith, c.if-vertex-curves.true, ap (length {A = List Jump}) c.as_slice-curves.ensures))
