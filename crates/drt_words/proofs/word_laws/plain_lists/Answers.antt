-- Plain lists mean what they name.
use Rattle.drt_words.proofs.PlainLemmas.{plain_means}
use Rattle.drt_words.proofs.word_laws.plain_lists.Goals as goal

pub returns : goal.returns
returns c = plain_means
