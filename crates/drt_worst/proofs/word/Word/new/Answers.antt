use Rattle.drt_worst.proofs.Steps.{opens}
use Rattle.drt_worst.proofs.word.Word.new.Goals as goal

pub of_words-requires : goal.of_words-requires
of_words-requires g c = opens _
