use Rattle.drt_file.proofs.Printed.{cut_as_made}
use Rattle.drt_file.proofs.laws.texts_are_cut_as_made.Goals as goal

pub returns : goal.returns
returns c = cut_as_made
