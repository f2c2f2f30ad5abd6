-- A list whose second word is no command computes to nothing.
use Rattle.std.proofs.Common.{refl}
use Rattle.clap.proofs.OnLiterals.{clap_on_literals}
use Rattle.drt_words.proofs.word_laws.unknown_command.Goals as goal

pub returns : goal.returns
unfolding clap_on_literals
returns c = λ program text rest plain edf sp upgrade util check bench response convert timeline assign margin.
    rw (edf, sp, upgrade, util, check, bench, response, convert, timeline, assign, margin, plain.no_dashes, plain.no_long, plain.no_short) refl
