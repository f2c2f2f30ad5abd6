-- The values so far are those of the numbers so far.
use Rattle.std.proofs.Common.{◌≡◌, map, take}
use Rattle.serde_json.specs.Data.{number, unsigned}
use Rattle.serde_json.specs.View.{view}
use Rattle.drt_summary.proofs.printing.make_numbers.Given as goal

abbrev pub invariant-loop-n : goal.invariant-loop-n
invariant-loop-n l = map view l.values.items ≡ map (λ n. number (unsigned n)) (take l.n-index l.numbers)
