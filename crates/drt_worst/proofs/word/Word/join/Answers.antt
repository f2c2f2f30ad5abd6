use Rattle.std.proofs.Common.{rules}
use Rattle.drt_worst.proofs.Steps.{joins}
use Rattle.drt_worst.proofs.word.Word.join.Goals as goal

pub join_seat-requires : goal.join_seat-requires
join_seat-requires g c = (search rules, search rules, c.requires.other, search rules, joins _ _ _ _ _ c.requires.part)
