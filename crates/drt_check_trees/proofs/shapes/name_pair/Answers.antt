use Rattle.std.proofs.Common.{arith}
use Rattle.drt_check_trees.proofs.Naming.{is_marked, names_both, names_left, names_right}
use Rattle.drt_check_trees.proofs.shapes.name_pair.Goals as goal
use Rattle.drt_check_trees.proofs.shapes.name_pair.Goals.{then-left-right-via-then-left-right, then-left-right-via-else-left-right+then-marks-left, then-left-right-via-else-left-right+else-marks-left+then-marks-right}

pub returns-then-left-right-clause-broken : goal.returns-then-left-right-clause-broken
returns-then-left-right-clause-broken c = λ e lower. elim c.then-left-right.branch [
  | then-left-right-via-then-left-right w ↦ (c.args.pair.left, lower.0, omega (arith, names_both c.args.pair w.if-left-right.true))
  | then-left-right-via-else-left-right+then-marks-left w ↦ (
    c.args.pair.left,
    lower.0,
    omega (arith, names_left c.args.pair, is_marked c.args.marks.now c.args.pair.left w.if-marks-left.true),
  )
  | then-left-right-via-else-left-right+else-marks-left+then-marks-right w ↦ (
    c.args.pair.right,
    lower.1,
    omega (arith, names_right c.args.pair, is_marked c.args.marks.now c.args.pair.right w.if-marks-right.true),
  )
]
