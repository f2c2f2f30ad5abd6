use Rattle.drt_file.proofs.Printed.{told}
use Rattle.drt_file.proofs.laws.texts_tell_sets.Goals as goal

pub returns : goal.returns
returns c = told
