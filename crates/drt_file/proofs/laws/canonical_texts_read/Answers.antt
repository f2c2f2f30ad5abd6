use Rattle.drt_file.specs.trusted.Canonical.{canonical}
use Rattle.drt_file.proofs.Exact.{one_set}
use Rattle.drt_file.proofs.Printed.{canonical_reads}
use Rattle.drt_file.proofs.laws.canonical_texts_read.Goals as goal

pub returns : goal.returns
returns c = λ set is. (canonical_reads set is, λ other reads. one_set (canonical set) other set reads (canonical_reads set is))
