-- A list without two names lacks what must stand.
use Rattle.drt_words.proofs.PlainMargins.{missing_means}
use Rattle.drt_words.proofs.word_laws.missing_names.Goals as goal

pub returns : goal.returns
returns c = missing_means
