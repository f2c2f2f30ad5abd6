-- A list with a value out of its range means nothing.
use Rattle.drt_words.proofs.BadNumbers.{bad_means}
use Rattle.drt_words.proofs.word_laws.bad_numbers.Goals as goal

pub returns : goal.returns
returns c = bad_means
