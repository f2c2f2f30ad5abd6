-- What is written and what is left of the lines are the whole.
use Rattle.std.proofs.Common.{◌≡◌, ◌++◌, drop}
use Rattle.drt_file.specs.trusted.Canonical.{written}
use Rattle.drt_rates.specs.RatioClaims.{fractions}
use Rattle.drt_command_util.specs.Util.{fraction_lines}
use Rattle.drt_command_util.proofs.command.push_ratios.Given as goal

abbrev pub invariant-tasks : goal.invariant-tasks
invariant-tasks l = l.text.items ++ written (fraction_lines (drop l.i l.tasks) (fractions (drop l.i l.proofs))) ≡ l.initial.text.items ++ written (fraction_lines l.tasks (fractions l.proofs))
