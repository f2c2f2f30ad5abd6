use Rattle.std.proofs.Common.{◌≡◌, ◌++◌, map, take}
use Rattle.drt_file.specs.trusted.Canonical.{written}
use Rattle.drt_evidence.specs.Text.{proof_line}
use Rattle.drt_evidence.proofs.printing.proofs.push_proofs.Given as goal

abbrev pub invariant-loop-proof : goal.invariant-loop-proof
invariant-loop-proof l = l.text.items ≡ l.initial.text.items ++ written (map proof_line (take l.proof-index l.proofs))
