use Rattle.std.proofs.Common.{rules}
use Rattle.drt_worst.proofs.Steps.{glances}
use Rattle.drt_worst.proofs.word.Word.glance.Goals as goal

pub load-requires : goal.load-requires
load-requires g c = (search rules, search rules, glances _ _ _ _ c.requires.part)
