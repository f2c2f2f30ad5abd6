use Rattle.std.proofs.Common.{rules}
use Rattle.drt_worst.proofs.Steps.{splits}
use Rattle.drt_worst.proofs.word.Word.split.Goals as goal

pub split_seat-requires : goal.split_seat-requires
split_seat-requires g c = (search rules, search rules, splits _ _ _ c.requires.parts)
