-- A word that does not begin with a dash is no flag.
use Rattle.std.proofs.Common.{refl}
use Rattle.drt_words.proofs.word_laws.plain_words.Goals as goal

pub returns : goal.returns
returns c = record {
  empty = record { no_dashes = refl; no_long = refl; no_short = refl };
  first = λ d ds plain. record { no_dashes = rw plain refl; no_long = rw plain refl; no_short = rw plain refl };
}
