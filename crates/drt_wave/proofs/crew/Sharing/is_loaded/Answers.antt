use Rattle.drt_wave.proofs.Going.{kept_more}
use Rattle.drt_wave.proofs.crew.Sharing.is_loaded.Goals as goal

pub returns-clause-kept : goal.returns-clause-kept
returns-clause-kept c = kept_more _ _ _ c.load_of.ensures.kept c.load_of-2.ensures.kept
