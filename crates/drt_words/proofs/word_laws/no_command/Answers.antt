-- A list without a command computes to nothing.
use Rattle.std.proofs.Common.{refl}
use Rattle.clap.proofs.OnLiterals.{clap_on_literals}
use Rattle.drt_words.proofs.word_laws.no_command.Goals as goal

pub returns : goal.returns
unfolding clap_on_literals
returns c = record { none = refl; program = λ program. refl }
