-- A task without a vertex is one word of two.
use Rattle.drt_words.proofs.PlainTimelines.{one_name_means}
use Rattle.drt_words.proofs.word_laws.one_name.Goals as goal

pub returns : goal.returns
returns c = one_name_means
